use Rattle.std.proofs.Common.{◌≡◌, drop}
use Rattle.minelib_reading.specs.inner.Marks.{rise_above}
use Rattle.minelib_reading.proofs.marks.rise_above.Given as goal

-- the numbers rise if the remaining ones rise above the last
abbrev pub invariant-loop-id : goal.invariant-loop-id
invariant-loop-id l = rise_above l.own l.ids ≡ rise_above l.last (drop l.id-index l.ids)
