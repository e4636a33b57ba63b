-- The list of worths that the cells hold, and back.
use Rattle.std.specs.Prelude.{◌≡◌, ℕ, ◌≤◌, ◌-◌, ◌++◌, ℤ, pos, List, length, take, replicate}
use Rattle.std.proofs.Common.{sym, ap, subst, ◌∙◌, length-take-le}
use Rattle.rows.specs.declared.worths.Worths.TheInside.{Inside}
use Rattle.plan_parts.specs.declared.ranges.TheConstants.{MAX_DESTINATIONS}

-- the cells before the count
abbrev pub worths_in : Inside → List ℤ
worths_in w = take w.count w.cells

-- 1 to 8 worths, and zeros in the other cells
abbrev pub KeepsWorths : Inside → Type 0
KeepsWorths w = ((1 ≤ w.count) × (w.count ≤ MAX_DESTINATIONS))
    × (length w.cells ≡ MAX_DESTINATIONS)
    × (w.cells ≡ take w.count w.cells ++ replicate (MAX_DESTINATIONS - w.count) (pos 0))

-- the cells that hold these worths
abbrev pub cells_of : List ℤ → Inside
cells_of worths = record { cells = worths ++ replicate (MAX_DESTINATIONS - length worths) (pos 0); count = length worths }

pub count_back : (w : Inside) → KeepsWorths w → length (worths_in w) ≡ w.count
count_back w h =
    let P : ℕ → Type 0 = λ n. w.count ≤ n in length-take-le w.count w.cells (subst P (sym h.1) h.0.1)

pub cells_back : (w : Inside) → KeepsWorths w → worths_in w ++ replicate (MAX_DESTINATIONS - length (worths_in w)) (pos 0) ≡ w.cells
cells_back w h =
    ap (λ n. take w.count w.cells ++ replicate (MAX_DESTINATIONS - n) (pos 0)) (count_back w h) ∙ sym h.2
