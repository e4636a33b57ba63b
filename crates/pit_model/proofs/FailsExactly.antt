-- A result has exactly the faults of its requirements: the kind of the first violated one.
use Rattle.std.specs.Prelude.{◌≡◌, ℕ, ◌≤◌, Bool, true, false, List, ℤ, Result, Ok, Err, if◌then◌else◌}
use Rattle.std.proofs.Common.{refl, sym, ◌∙◌, ap, subst, inl, inr}
use Rattle.pit_units.proofs.DecimalFaults.{fine_decimal, number_fails, range_fails, stands_fine, too_fine_fails}
use Rattle.pit_units.proofs.Exactly.{Exactly}
use Rattle.pit_units.proofs.EncodedFacts.{within_stands}
use Rattle.pit_units.specs.Decimal.{decimal_within}
use Rattle.pit_units.specs.EncodedNumbers.{IsDecimal, IsFine}
use Rattle.pit_units.specs.Steps.{◌>>=◌}
use Rattle.pit_units.specs.declared.fault.DecFault.{DecFault}
use Rattle.pit_units.specs.declared.fault.DecFault.TheVariants as dec
use Rattle.pit_model.specs.FailedParts.{Asks, AsksNumber, NoMore}
use Rattle.pit_model.specs.StatedCells.{number_in, number_in_cell}
use Rattle.pit_model.specs.declared.plan_fault.PlanFaultKind.{PlanFaultKind}
use Rattle.pit_model.specs.declared.plan_fault.PlanFaultKind.TheVariants as kind

pub record FailsExactly {A : Type 0} (r : Result A PlanFaultKind) (Q : PlanFaultKind → Type 0) : Type 0 where
  pub reported : (fault : PlanFaultKind) → r ≡ Err fault → Q fault
  pub back : (fault : PlanFaultKind) → Q fault → r ≡ Err fault

fault_same : {A : Type 0} (f g : PlanFaultKind) → ◌≡◌ {A = Result A PlanFaultKind} (Err f) (Err g) → f ≡ g
fault_same f g e = cc

pub no_fault : {A : Type 0} (x : A) → FailsExactly (Ok x) NoMore
no_fault x = record { reported = λ fault e. absurd cc; back = λ fault h. absurd h }

-- the same, with an equivalent statement
pub restated : {A : Type 0} {r : Result A PlanFaultKind} {Q R : PlanFaultKind → Type 0} → FailsExactly r Q → ((f : PlanFaultKind) → Q f → R f)
    → ((f : PlanFaultKind) → R f → Q f) → FailsExactly r R
restated all to from = record { reported = λ f e. to f (all.reported f e); back = λ f h. all.back f (from f h) }

-- a test before other requirements
pub asks : {A : Type 0} {r : Result A PlanFaultKind} {Q : PlanFaultKind → Type 0} {t : Bool} {T : Type 0} (fault : PlanFaultKind)
    → (t ≡ false → T) → (T → t ≡ false) → (T → FailsExactly r Q) → FailsExactly (if t then Err fault else r) (Asks T fault Q)
asks {A} {r} {Q} {t} {T} fault to from all = record { reported = λ f e. reported t refl f e; back = back }
  where
    reported : (b : Bool) → t ≡ b → (f : PlanFaultKind) → (if b then Err fault else r) ≡ Err f → Asks T fault Q f
    reported true is f e = inl (λ h. absurd (cc (from h, is)), sym (fault_same fault f e))
    reported false is f e = inr (to is, (all (to is)).reported f e)

    fails : (b : Bool) → t ≡ b → ¬ T → (if b then Err fault else r) ≡ Err fault
    fails true is never = refl
    fails false is never = absurd (never (to is))

    back : (f : PlanFaultKind) → Asks T fault Q f → (if t then Err fault else r) ≡ Err f
    back f (inl (never, is)) = fails t refl never ∙ ap Err (sym is)
    back f (inr (h, following)) = rw (from h) ((all h).back f following)

-- a step that has only this fault
pub asks_step : {A B : Type 0} {r : Result A PlanFaultKind} {next : A → Result B PlanFaultKind} {P : A → Type 0} {Q : PlanFaultKind → Type 0}
    (fault : PlanFaultKind) → Exactly r P → ((f : PlanFaultKind) → r ≡ Err f → f ≡ fault) → ((x : A) → P x → FailsExactly (next x) Q)
    → FailsExactly (r >>= next) (Asks ((x : A) × P x) fault Q)
asks_step {A} {B} {r} {next} {P} {Q} fault all only following = record { reported = λ f e. reported r refl f e; back = λ f h. back r refl f h }
  where
    reported : (s : Result A PlanFaultKind) → r ≡ s → (f : PlanFaultKind) → (s >>= next) ≡ Err f → Asks ((x : A) × P x) fault Q f
    reported (Ok x) is f e = inr ((x, all.reported x is), (following x (all.reported x is)).reported f e)
    reported (Err other) is f e =
        inl (λ h. absurd (cc (is, all.back h.0 h.1)), sym (fault_same other f e) ∙ only other is)

    back : (s : Result A PlanFaultKind) → r ≡ s → (f : PlanFaultKind) → Asks ((x : A) × P x) fault Q f → (s >>= next) ≡ Err f
    back (Ok x) is f (inl (never, same)) = absurd (never (x, all.reported x is))
    back (Ok x) is f (inr (h, later)) = (following x (all.reported x is)).back f later
    back (Err other) is f (inl (never, same)) = ap Err (only other is ∙ sym same)
    back (Err other) is f (inr (h, later)) = absurd (cc (is, all.back h.0 h.1))

-- what the result for a cell shows, if the cell must encode a number
abbrev pub Reports : {A : Type 0} → ℕ → List ℕ → (A → Type 0) → Result A PlanFaultKind → Type 0
Reports decimals cell P (Ok x) = IsFine decimals cell
Reports decimals cell P (Err kind.Number) = ¬ (IsDecimal cell)
Reports decimals cell P (Err kind.TooFine) = IsDecimal cell × ¬ (IsFine decimals cell)
Reports {A} decimals cell P (Err kind.Range) = IsFine decimals cell × ¬ ((x : A) × P x)
Reports decimals cell P (Err other) = ⊥

-- a value made from a number
pub number_reports : {A : Type 0} {r : Result A PlanFaultKind} {P : A → Type 0} (decimals : ℕ) (low high : ℤ) (cell : List ℕ) → decimals ≤ 6
    → (make : ℤ → A) → Exactly r P → r ≡ (number_in decimals low high cell >>= λ m. Ok (make m)) → Reports decimals cell P r
number_reports {A} {r} {P} decimals low high cell few make all is = subst (Reports decimals cell P) (sym is) (by (decimal_within decimals low high cell) refl)
  where
    made : Result ℤ DecFault → Result A PlanFaultKind
    made d = number_in_cell d >>= λ m. Ok (make m)

    by : (d : Result ℤ DecFault) → decimal_within decimals low high cell ≡ d → Reports decimals cell P (made d)
    by (Ok m) e = stands_fine decimals cell m ((within_stands decimals low high cell m few e).0)
    by (Err dec.Number) e = (number_fails decimals low high cell few).0 e
    by (Err dec.TooFine) e = (too_fine_fails decimals low high cell few).0 e
    by (Err dec.Range) e = (
      ((range_fails decimals low high cell few).0 e).0,
      λ h. absurd (cc (is ∙ ap made e, all.back h.0 h.1)),
    )

pub asks_number : {A B : Type 0} {r : Result A PlanFaultKind} {next : A → Result B PlanFaultKind} {P : A → Type 0} {Q : PlanFaultKind → Type 0}
    (decimals : ℕ) (cell : List ℕ) → Exactly r P → Reports decimals cell P r → ((x : A) → P x → FailsExactly (next x) Q)
    → FailsExactly (r >>= next) (AsksNumber decimals cell P Q)
asks_number {A} {B} {r} {next} {P} {Q} decimals cell all reports following = record {
  reported = λ f e. reported r refl reports f e;
  back = λ f h. back r refl reports f h;
}
  where
    decimal : IsFine decimals cell → IsDecimal cell
    decimal fine = fine_decimal decimals cell fine

    reported : (s : Result A PlanFaultKind) → r ≡ s → Reports decimals cell P s → (f : PlanFaultKind) → (s >>= next) ≡ Err f
        → AsksNumber decimals cell P Q f
    reported (Ok x) is h f e = inr (decimal h, inr (h, inr ((x, all.reported x is), (following x (all.reported x is)).reported f e)))
    reported (Err kind.Number) is h f e = inl (h, sym (fault_same kind.Number f e))
    reported (Err kind.TooFine) is h f e = inr (h.0, inl (h.1, sym (fault_same kind.TooFine f e)))
    reported (Err kind.Range) is h f e = inr (decimal h.0, inr (h.0, inl (h.1, sym (fault_same kind.Range f e))))
    reported (Err other) is h f e = absurd h

    back : (s : Result A PlanFaultKind) → r ≡ s → Reports decimals cell P s → (f : PlanFaultKind) → AsksNumber decimals cell P Q f
        → (s >>= next) ≡ Err f
    back (Ok x) is h f (inl (never, same)) = absurd (never (decimal h))
    back (Ok x) is h f (inr (d, inl (never, same))) = absurd (never h)
    back (Ok x) is h f (inr (d, inr (fine, inl (never, same)))) = absurd (never (x, all.reported x is))
    back (Ok x) is h f (inr (d, inr (fine, inr (encodes, later)))) = (following x (all.reported x is)).back f later
    back (Err kind.Number) is h f (inl (never, same)) = ap Err (sym same)
    back (Err kind.Number) is h f (inr (d, later)) = absurd (h d)
    back (Err kind.TooFine) is h f (inl (never, same)) = absurd (never h.0)
    back (Err kind.TooFine) is h f (inr (d, inl (never, same))) = ap Err (sym same)
    back (Err kind.TooFine) is h f (inr (d, inr (fine, later))) = absurd (h.1 fine)
    back (Err kind.Range) is h f (inl (never, same)) = absurd (never (decimal h.0))
    back (Err kind.Range) is h f (inr (d, inl (never, same))) = absurd (never h.0)
    back (Err kind.Range) is h f (inr (d, inr (fine, inl (never, same)))) = ap Err (sym same)
    back (Err kind.Range) is h f (inr (d, inr (fine, inr (encodes, later)))) = absurd (h.1 encodes)
    back (Err other) is h f asked = absurd h
