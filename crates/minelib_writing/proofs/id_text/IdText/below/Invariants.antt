use Rattle.std.proofs.Common.{◌≡◌, ◌+◌, length}
use Rattle.std.specs.List.{range_with_len}
use Rattle.minelib_writing.specs.inner.Spaced.{spaced, AreStarts}
use Rattle.minelib_writing.proofs.id_text.IdText.below.Given as goal

abbrev pub invariant-loop-id : goal.invariant-loop-id
invariant-loop-id l = record {
  text : l.text.items ≡ spaced (range_with_len 0 l.id);
  count : length l.starts.items ≡ l.id + 1;
  starts : AreStarts l.starts.items;
}
