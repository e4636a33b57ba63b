use Rattle.std.proofs.Common.{ℕ, ◌<◌}
use Rattle.collector.specs.inner.ItemsByFile.{rows_of_file, end_mark_of_file, IsFilled}
use Rattle.collector.proofs.collector.require_filled.Given as goal

abbrev pub invariant-loop-file : goal.invariant-loop-file
invariant-loop-file l = (other : ℕ) → other < l.file → IsFilled (rows_of_file l.items_by_file other) (end_mark_of_file l.items_by_file other)
