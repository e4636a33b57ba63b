use Rattle.std.proofs.Common.{◌≡◌, length, take}
use Rattle.precedence.specs.inner.PredsFields.{pieces, AreEnds}
use Rattle.precedence.proofs.lists.lazy_preds.LazyPreds.stored.Given as goal

abbrev pub invariant-loop-id : goal.invariant-loop-id
invariant-loop-id l = record {
  ends : AreEnds 0 l.ends.items (length l.flat.items);
  lists : pieces l.flat.items 0 l.ends.items ≡ take l.id l.self;
}
