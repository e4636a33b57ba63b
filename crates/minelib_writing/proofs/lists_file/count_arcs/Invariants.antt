use Rattle.std.proofs.Common.{◌≡◌, ◌*◌, ◌≤◌, ◌^◌, length, take}
use Rattle.std.specs.Prelude.{sum_by}
use Rattle.minelib_writing.proofs.lists_file.count_arcs.Given as goal

-- The identifiers of the lists so far are counted.
abbrev pub invariant-loop-id : goal.invariant-loop-id
invariant-loop-id g l = (l.arcs ≡ sum_by length (take l.id (g.P.PredLists.lists l.preds))) × (l.arcs ≤ l.id * 2 ^ 63)
