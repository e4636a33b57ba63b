-- Steps have exactly the stated faults.
use Rattle.std.specs.Prelude.{◌≡◌, ◌⊎◌, ℕ, ◌≤◌, Result, Ok, Err, List, ℤ}
use Rattle.std.proofs.Common.{refl, sym, ◌∙◌, ap, subst, inl, inr}
use Rattle.pit_units.proofs.DecimalFaults.{fine_decimal, number_fails, range_fails, stands_fine, too_fine_fails}
use Rattle.pit_units.proofs.Exactly.{Exactly}
use Rattle.pit_units.proofs.EncodedFacts.{within_stands}
use Rattle.pit_units.specs.Decimal.{decimal_within}
use Rattle.pit_units.specs.EncodedNumbers.{EncodesNumber}
use Rattle.pit_units.specs.Steps.{◌>>=◌}
use Rattle.pit_units.specs.declared.fault.DecFault.{DecFault}
use Rattle.pit_units.specs.declared.fault.DecFault.TheVariants as dec
use Rattle.zone_csv.specs.Cell.{a_fault}
use Rattle.zone_csv.specs.RefusedRow.{CellFails}
use Rattle.zone_csv.specs.Row.{number_in_cell}
use Rattle.zone_csv.specs.declared.row_fault.Column.{Column}
use Rattle.zone_csv.specs.declared.row_fault.RowFault.{RowFault}
use Rattle.zone_csv.specs.declared.row_fault.RowFaultKind.{RowFaultKind}
use Rattle.zone_csv.specs.declared.row_fault.RowFaultKind.TheVariants.{Number, OffGrid, Range, TooFine}

pub record Refuses {A : Type 0} (r : Result A RowFault) (Q : RowFault → Type 0) : Type 0 where
  pub reported : (f : RowFault) → r ≡ Err f → Q f
  pub back : (f : RowFault) → Q f → r ≡ Err f

pub fault_is : {A : Type 0} (f g : RowFault) → ◌≡◌ {A = Result A RowFault} (Err f) (Err g) → f ≡ g
fault_is f g e = cc

-- a fault of this row
abbrev pub Of : ℕ → (RowFault → Type 0) → RowFault → Type 0
Of row Q f = (f.row ≡ row) × Q f

-- no fault
pub passes : {A : Type 0} (row : ℕ) (x : A) → Refuses (Ok x) (Of row (λ f. ⊥))
passes row x = record { reported = λ f e. absurd cc; back = λ f h. absurd h.1 }

-- a column, and the steps after it
pub step : {A B : Type 0} {r : Result A RowFault} {next : A → Result B RowFault} {P : A → Type 0} {Q R : RowFault → Type 0} (row : ℕ)
    → Exactly r P → Refuses r (Of row Q) → ((x : A) → Refuses (next x) (Of row R))
    → Refuses (r >>= next) (Of row (λ f. Q f ⊎ (((x : A) × P x) × R f)))
step {A} {B} {r} {next} {P} {Q} {R} row all first following = record { reported = λ f e. reported r refl f e; back = back }
  where
    reported : (s : Result A RowFault) → r ≡ s → (f : RowFault) → (s >>= next) ≡ Err f → Of row (λ f. Q f ⊎ (((x : A) × P x) × R f)) f
    reported (Ok x) is f e = let h = (following x).reported f e in (h.0, inr ((x, all.reported x is), h.1))
    reported (Err g) is f e = let h = first.reported f (is ∙ ap Err (fault_is g f e)) in (h.0, inl h.1)

    back : (f : RowFault) → Of row (λ f. Q f ⊎ (((x : A) × P x) × R f)) f → (r >>= next) ≡ Err f
    back f (place, inl h) = ap (λ s. s >>= next) (first.back f (place, h))
    back f (place, inr (encodes, later)) =
        ap (λ s. s >>= next) (all.back encodes.0 encodes.1) ∙ (following encodes.0).back f (place, later)

-- a value made from a result has the result's faults
pub made_refuses : {A B : Type 0} {r : Result A RowFault} {Q : RowFault → Type 0} (f : A → B) → Refuses r Q → Refuses (r >>= λ x. Ok (f x)) Q
made_refuses {A} {B} {r} {Q} f all = record {
  reported = λ g e. all.reported g (fails r g e);
  back = λ g h. ap (λ s. s >>= λ x. Ok (f x)) (all.back g h);
}
  where
    fails : (r : Result A RowFault) (g : RowFault) → (r >>= λ x. Ok (f x)) ≡ Err g → r ≡ Err g
    fails (Ok x) g e = absurd cc
    fails (Err other) g e = ap Err (fault_is other g e)

-- a cell
module _ (row : ℕ) (column : Column) (decimals : ℕ) (low high : ℤ) (cell : List ℕ) (few : decimals ≤ 6) where
  -- its fault has one kind, and none if the cell encodes an allowed value
  one_kind : (Encodes : Type 0) (k j : RowFaultKind) → CellFails decimals low high cell Encodes k → CellFails decimals low high cell Encodes j → k ≡ j
  one_kind Encodes Number Number h g = refl
  one_kind Encodes Number TooFine h g = absurd (h g.0)
  one_kind Encodes Number Range h g = absurd (h (fine_decimal decimals cell g.0))
  one_kind Encodes Number OffGrid h g = absurd (h (fine_decimal decimals cell (stands_fine decimals cell g.0.0 g.0.1.0)))
  one_kind Encodes TooFine Number h g = absurd (g h.0)
  one_kind Encodes TooFine TooFine h g = refl
  one_kind Encodes TooFine Range h g = absurd (h.1 g.0)
  one_kind Encodes TooFine OffGrid h g = absurd (h.1 (stands_fine decimals cell g.0.0 g.0.1.0))
  one_kind Encodes Range Number h g = absurd (g (fine_decimal decimals cell h.0))
  one_kind Encodes Range TooFine h g = absurd (g.1 h.0)
  one_kind Encodes Range Range h g = refl
  one_kind Encodes Range OffGrid h g = absurd (h.1 g.0.0 g.0.1)
  one_kind Encodes OffGrid Number h g = absurd (g (fine_decimal decimals cell (stands_fine decimals cell h.0.0 h.0.1.0)))
  one_kind Encodes OffGrid TooFine h g = absurd (g.1 (stands_fine decimals cell h.0.0 h.0.1.0))
  one_kind Encodes OffGrid Range h g = absurd (g.1 h.0.0 h.0.1)
  one_kind Encodes OffGrid OffGrid h g = refl
  one_kind Encodes Number j h g = absurd g
  one_kind Encodes TooFine j h g = absurd g
  one_kind Encodes Range j h g = absurd g
  one_kind Encodes OffGrid j h g = absurd g
  one_kind Encodes k j h g = absurd h

  no_kind : (Encodes : Type 0) (m : ℤ) → EncodesNumber decimals low high cell m → Encodes → (k : RowFaultKind)
      → CellFails decimals low high cell Encodes k → ⊥
  no_kind Encodes m encodes is Number h = h (fine_decimal decimals cell (stands_fine decimals cell m encodes.0))
  no_kind Encodes m encodes is TooFine h = h.1 (stands_fine decimals cell m encodes.0)
  no_kind Encodes m encodes is Range h = h.1 m encodes
  no_kind Encodes m encodes is OffGrid h = h.1 is
  no_kind Encodes m encodes is k h = h

  module _ {r : Result ℕ RowFault} {P : ℕ → Type 0} (rest : ℤ → Result ℕ RowFault)
      (reads : r ≡ (number_in_cell row column (decimal_within decimals low high cell) >>= rest))
      (off : (m : ℤ) (f : RowFault) → rest m ≡ Err f → f ≡ a_fault row column OffGrid)
      (in_range : (x : ℕ) → P x → (m : ℤ) × EncodesNumber decimals low high cell m) (all : Exactly r P) where
    abbrev Fault : RowFault → Type 0
    Fault = Of row (λ f. (f.column ≡ column) × CellFails decimals low high cell ((x : ℕ) × P x) f.kind)

    cell_reported : (f : RowFault) → r ≡ Err f → Fault f
    cell_reported f e = by (decimal_within decimals low high cell) refl (sym reads ∙ e)
      where
        of_kind : (k : RowFaultKind) → CellFails decimals low high cell ((x : ℕ) × P x) k → a_fault row column k ≡ f → Fault f
        of_kind k h is = subst Fault is (refl, (refl, h))

        by : (d : Result ℤ DecFault) → decimal_within decimals low high cell ≡ d → (number_in_cell row column d >>= rest) ≡ Err f → Fault f
        by (Ok m) is g =
            of_kind OffGrid ((m, within_stands decimals low high cell m few is), λ h. absurd (cc (e, all.back h.0 h.1))) (sym (off m f g))
        by (Err dec.Number) is g = of_kind Number ((number_fails decimals low high cell few).0 is) (fault_is _ f g)
        by (Err dec.TooFine) is g = of_kind TooFine ((too_fine_fails decimals low high cell few).0 is) (fault_is _ f g)
        by (Err dec.Range) is g = of_kind Range ((range_fails decimals low high cell few).0 is) (fault_is _ f g)

    pub cell_refused : Refuses r Fault
    cell_refused = record { reported = cell_reported; back = λ f h. back r refl f h }
      where
        back : (s : Result ℕ RowFault) → r ≡ s → (f : RowFault) → Fault f → s ≡ Err f
        back (Ok x) is f h =
            let encodes = all.reported x is in
            let number = in_range x encodes in
            absurd (no_kind ((x : ℕ) × P x) number.0 number.1 (x, encodes) f.kind h.1.1)
        back (Err g) is f h =
            let same = cell_reported g is in
            let kind = one_kind ((x : ℕ) × P x) g.kind f.kind same.1.1 h.1.1 in
            λ i. Err (record { row = (same.0 ∙ sym h.0) i; column = (same.1.0 ∙ sym h.1.0) i; kind = kind i })
