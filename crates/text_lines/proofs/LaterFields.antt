-- The values of all fields are those of each field.
use Rattle.std.specs.Prelude.{◌≡◌, ℕ, List, [], ◌∷◌, ◌++◌, Result, Ok, Err}
use Rattle.std.proofs.Common.{refl, sym, ◌∙◌, ap, append-nil, append_assoc}
use Rattle.text_lines.specs.FieldValues.{all_by}
use Rattle.pit_units.specs.Steps.{◌>>=◌, each_of}
use Rattle.text_lines.specs.declared.text_fault.TextKind.{TextKind}

-- the values of all fields, after the values before them
pub all_each : {A B : Type 0} (rule : List ℕ → Result A TextKind) (done : List A) (fields : List (List ℕ)) (next : List A → Result B TextKind)
    → (all_by rule done fields >>= next) ≡ (each_of rule fields >>= λ xs. next (done ++ xs))
all_each rule done [] next = ap next (sym (append-nil done))
all_each {A} {B} rule done (text ∷ rest) next = by (λ x. all_each rule (done ++ x ∷ []) rest next) (rule text)
  where
    tail : (x : A) (r : Result (List A) TextKind)
        → (r >>= λ xs. next ((done ++ x ∷ []) ++ xs)) ≡ ((r >>= λ xs. Ok (x ∷ xs)) >>= λ xs. next (done ++ xs))
    tail x (Ok xs) = ap next (append_assoc done (x ∷ []) xs)
    tail x (Err kind) = refl

    by : ((x : A) → (all_by rule (done ++ x ∷ []) rest >>= next) ≡ (each_of rule rest >>= λ xs. next ((done ++ x ∷ []) ++ xs)))
        → (r : Result A TextKind)
        → ((r >>= λ x. all_by rule (done ++ x ∷ []) rest) >>= next)
        ≡ ((r >>= λ x. each_of rule rest >>= λ xs. Ok (x ∷ xs)) >>= λ xs. next (done ++ xs))
    by deeper (Ok x) = deeper x ∙ tail x (each_of rule rest)
    by deeper (Err kind) = refl
