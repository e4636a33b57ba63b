-- The rows of a list that ends with its end mark.
use Rattle.std.proofs.Common.{◌≡◌, ℕ, zero, suc, ◌+◌, Bool, cond, List, [], ◌∷◌, length, Option, Some, None, refl, sym, ap, ◌∙◌, arith}
use Rattle.std.specs.List.{count_by, slice_get}
use Rattle.std.specs.Option.{option_and_then}
use Rattle.std.proofs.lemmas.List.Sums.{sum_by-cons}
use Rattle.std.proofs.lemmas.Option.{none-some}
use Rattle.plan_parts.specs.declared.block.Block.{Block}
use Rattle.plan_parts.specs.declared.formulas.formula.Formula.{Formula}
use Rattle.lane.specs.declared.message.Taken.{Taken}
use Rattle.lane.specs.declared.message.Taken.TheVariants.{Row, End}
use Rattle.lane.specs.Message.{IsEndedFrom}
use Rattle.lane.specs.MessageKinds.{is_row, row_count}
use Rattle.rows.specs.Valued.{row_by}
use Rattle.valuers.specs.Valuing.{rows_by}
use Rattle.rows.specs.declared.item.Valued.{Valued}

-- one more counts once, if it passes
pub counted : {X : Type 0} (p : X → Bool) (x : X) (xs : List X) → count_by p (x ∷ xs) ≡ cond (p x) 1 0 + count_by p xs
counted p x xs = sum_by-cons (λ y. cond (p y) 1 0) x xs

pub rows-counted : (fs : List Formula) (ms : List Taken) → length (rows_by fs ms) ≡ row_count ms
rows-counted fs [] = refl
rows-counted fs (Row f p b ∷ ms) =
    let one : row_count (Row f p b ∷ ms) ≡ 1 + row_count ms = counted is_row (Row f p b) ms in omega (arith, rows-counted fs ms)
rows-counted fs (m ∷ ms) =
    let none : row_count (m ∷ ms) ≡ 0 + row_count ms = counted is_row m ms in omega (arith, rows-counted fs ms)

abbrev valued : List Formula → Taken → Option Valued
valued fs (Row f p b) = Some (row_by fs f p b)
valued fs _ = None

-- nothing stands behind the end mark
past-end : (ms : List Taken) (i : ℕ) (m : Taken) → ms ≡ [] → slice_get ms i ≡ Some m → ⊥
past-end ms i m none got = none-some m (sym (ap (λ xs. slice_get xs i) none) ∙ got)

-- a row stands among the rows where it stands in the list
pub row-sent : (fs : List Formula) (file k i f p : ℕ) (b : Block) (ms : List Taken) → IsEndedFrom file k ms →
    slice_get ms i ≡ Some (Row f p b) → slice_get (rows_by fs ms) i ≡ Some (row_by fs f p b)
row-sent fs file k zero f p b (Row f' p' b' ∷ ms) ended got = ap (option_and_then (valued fs)) got
row-sent fs file k (suc i) f p b (Row f' p' b' ∷ ms) ended got = row-sent fs file (k + 1) i f p b ms ended.2 got
row-sent fs file k zero f p b (End f' n ∷ ms) ended got =
    absurd (none-some (row_by fs f p b) (ap (option_and_then (valued fs)) got))
row-sent fs file k (suc i) f p b (End f' n ∷ ms) ended got = absurd (past-end ms i (Row f p b) ended.2 got)
row-sent fs file k i f p b _ ended got = absurd ended

-- the end mark stands behind all rows
pub end-sent : (fs : List Formula) (file k i f n : ℕ) (ms : List Taken) → IsEndedFrom file k ms →
    slice_get ms i ≡ Some (End f n) → i ≡ length (rows_by fs ms)
end-sent fs file k zero f n (Row f' p' b' ∷ ms) ended got =
    absurd (none-some (row_by fs f' p' b') (ap (option_and_then (valued fs)) (sym got)))
end-sent fs file k (suc i) f n (Row f' p' b' ∷ ms) ended got = ap suc (end-sent fs file (k + 1) i f n ms ended.2 got)
end-sent fs file k zero f n (End f' n' ∷ ms) ended got = sym (ap (λ xs. length (rows_by fs xs)) ended.2)
end-sent fs file k (suc i) f n (End f' n' ∷ ms) ended got = absurd (past-end ms i (End f n) ended.2 got)
end-sent fs file k i f n _ ended got = absurd ended

pub ended-length : (fs : List Formula) (file k : ℕ) (ms : List Taken) → IsEndedFrom file k ms → length ms ≡ length (rows_by fs ms) + 1
ended-length fs file k (Row f p b ∷ ms) ended = omega (arith, ended-length fs file (k + 1) ms ended.2)
ended-length fs file k (End f n ∷ ms) ended =
    let none : length ms ≡ 0 = ap length ended.2 in
    let no_rows : length (rows_by fs ms) ≡ 0 = ap (λ xs. length (rows_by fs xs)) ended.2 in omega arith
ended-length fs file k _ ended = absurd ended
