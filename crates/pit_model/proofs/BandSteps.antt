-- Adding a band to a leach's record, or a destination to a resource's record.
use Rattle.std.proofs.Common.{◌≡◌, ◌<◌, ◌≤◌, ◌+◌, ◌*◌, ◌++◌, ℕ, suc, List, [], ◌∷◌, Result, Ok, Err, refl, sym, ◌∙◌, ap, arith, append_assoc, append-nil, drop-cons, length, length-drop}
use Rattle.std.specs.Prelude.{◌/◌, drop}
use Rattle.pit_units.specs.Steps.{◌>>=◌}
use Rattle.records.specs.RecordCells.{cell_at}
use Rattle.pit_model.specs.DestinationRecords.{band_in, bands_in}
use Rattle.pit_model.specs.PlanRecords.{covers_in}
use Rattle.plan_parts.specs.declared.formulas.band.Band.{Band}
use Rattle.plan_parts.specs.declared.formulas.formula.NamedFormula.{NamedFormula}
use Rattle.pit_model.specs.declared.plan_fault.PlanFaultKind.{PlanFaultKind}

-- elements, followed by the stated ones
abbrev pub following : {A : Type 0} → List A → Result (List A) PlanFaultKind → Result (List A) PlanFaultKind
following done stated = stated >>= λ more. Ok (done ++ more)

after_none : {A : Type 0} (stated : Result (List A) PlanFaultKind) → following [] stated ≡ stated
after_none (Ok more) = refl
after_none (Err kind) = refl

after_one : {A : Type 0} (done : List A) (one : Result A PlanFaultKind) (stated : Result (List A) PlanFaultKind)
    → following done (one >>= λ x. stated >>= λ more. Ok (x ∷ more)) ≡ (one >>= λ x. following (done ++ x ∷ []) stated)
after_one done (Ok x) (Ok more) = ap Ok (sym (append_assoc done (x ∷ []) more))
after_one done (Ok x) (Err kind) = refl
after_one done (Err kind) stated = refl

none_left : {A : Type 0} (xs : List A) (n : ℕ) → length xs ≤ n → drop n xs ≡ []
none_left {A} xs n past = by (drop n xs) (omega (arith, past, length-drop n xs))
  where
    by : (rest : List A) → length rest ≡ 0 → rest ≡ []
    by [] none = refl
    by (x ∷ rest) none = absurd (omega (arith, none))

-- the bands already read, followed by the bands of the cells from a place on
abbrev pub bands_from : ℕ → List (List ℕ) → List Band → Result (List Band) PlanFaultKind
bands_from place cells done = following done (bands_in (drop place cells))

pub bands_start : (cells : List (List ℕ)) → bands_from 4 cells [] ≡ bands_in (drop 4 cells)
bands_start cells = after_none (bands_in (drop 4 cells))

pub bands_end : (place : ℕ) (cells : List (List ℕ)) (done : List Band) → length cells ≤ place → bands_from place cells done ≡ Ok done
bands_end place cells done past = ap (λ rest. following done (bands_in rest)) (none_left cells place past) ∙ ap Ok (append-nil done)

pair_step : (cells : List (List ℕ)) (pair : ℕ) (done : List Band) → pair < length cells / 2
    → bands_from (2 * pair) cells done
    ≡ (band_in (cell_at cells (2 * pair)) (cell_at cells (2 * pair + 1)) >>= λ band. bands_from (2 * (pair + 1)) cells (done ++ band ∷ []))
pair_step cells pair done within =
    let next : suc (2 * pair) ≡ 2 * pair + 1 = omega arith in
    let after : suc (suc (2 * pair)) ≡ 2 * (pair + 1) = omega arith in
    let two : drop (2 * pair) cells ≡ cell_at cells (2 * pair) ∷ cell_at cells (2 * pair + 1) ∷ drop (2 * (pair + 1)) cells =
    drop-cons cells (2 * pair) [] (omega (arith, within))
    ∙ ap (λ rest. cell_at cells (2 * pair) ∷ rest) (drop-cons cells (suc (2 * pair)) [] (omega (arith, within)))
    ∙ (λ i. cell_at cells (2 * pair) ∷ cell_at cells (next i) ∷ drop (after i) cells) in
    ap (λ rest. following done (bands_in rest)) two
    ∙ after_one done (band_in (cell_at cells (2 * pair)) (cell_at cells (2 * pair + 1))) (bands_in (drop (2 * (pair + 1)) cells))

-- if a pair of cells states a band
pub bands_more : (cells : List (List ℕ)) (pair : ℕ) (done : List Band) (band : Band) → pair < length cells / 2
    → band_in (cell_at cells (2 * pair)) (cell_at cells (2 * pair + 1)) ≡ Ok band
    → bands_from (2 * (pair + 1)) cells (done ++ band ∷ []) ≡ bands_from (2 * pair) cells done
bands_more cells pair done band within said =
    sym (pair_step cells pair done within ∙ ap (λ r. r >>= λ b. bands_from (2 * (pair + 1)) cells (done ++ b ∷ [])) said)

-- the destinations already read, followed by the destinations of the cells from a place on
abbrev pub covers_from : ℕ → List (List ℕ) → List NamedFormula → List ℕ → Result (List ℕ) PlanFaultKind
covers_from place cells formulas done = following done (covers_in formulas (drop place cells))

pub covers_start : (cells : List (List ℕ)) (formulas : List NamedFormula) → covers_from 2 cells formulas [] ≡ covers_in formulas (drop 2 cells)
covers_start cells formulas = after_none (covers_in formulas (drop 2 cells))

pub covers_end : (place : ℕ) (cells : List (List ℕ)) (formulas : List NamedFormula) (done : List ℕ) → length cells ≤ place
    → covers_from place cells formulas done ≡ Ok done
covers_end place cells formulas done past =
    ap (λ rest. following done (covers_in formulas rest)) (none_left cells place past) ∙ ap Ok (append-nil done)
