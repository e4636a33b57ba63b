use Rattle.std.proofs.Common.{◌≡◌, take, length, All}
use Rattle.plan_parts.specs.Destinations.{formulas_of}
use Rattle.plan_parts.specs.formulas.WorthRange.{IsWorth}
use Rattle.rows.specs.Valued.{worths_by}
use Rattle.valuers.specs.Valuing.{AreAnswered}
use Rattle.valuers.proofs.valuing.worths_of.Given as goal

abbrev pub invariant-loop-place : goal.invariant-loop-place
invariant-loop-place g l =
    (take l.place l.cells ≡ worths_by (formulas_of (take l.place l.destinations)) l.block)
    × (length l.cells ≡ 8)
    × All IsWorth (take l.place l.cells)
    × AreAnswered (λ v b r. (goal.Fn-dyn g).post (v.vtable, v.value) (b, record {}) r)
    (take l.place l.destinations) l.block (take l.place l.cells)
