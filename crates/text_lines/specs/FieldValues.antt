-- The fields of a line one by one, left to right, up to the first error.
use Rattle.std.specs.Prelude.{◌≡◌, ℕ, Bool, List, [], ◌∷◌, ◌++◌, Result, Ok, Err, if◌then◌else◌}
use Rattle.std.specs.Borrow.{Bor}
use Rattle.pit_units.specs.Steps.{◌>>=◌}
use Rattle.text_lines.specs.TextLines.{fields_of}
use Rattle.text_lines.specs.declared.text_fault.TextKind.{TextKind}
use Rattle.text_lines.specs.declared.text_fault.TextKind.TheVariants.{Fields}

-- the value of the first field by a rule, and the fields after it
abbrev pub first_by : {A : Type 0} → (List ℕ → Result A TextKind) → List (List ℕ) → Result (A × List (List ℕ)) TextKind
first_by rule [] = Err Fields
first_by rule (field ∷ fields) = rule field >>= λ x. Ok (x, fields)

-- the values of all fields by a rule, after the values before them
abbrev pub all_by : {A : Type 0} → (List ℕ → Result A TextKind) → List A → List (List ℕ) → Result (List A) TextKind
all_by rule done [] = Ok done
all_by rule done (field ∷ fields) = rule field >>= λ x. all_by rule (done ++ x ∷ []) fields

-- the result is the stated one, as seen through `view`
abbrev pub Shows : {A B F : Type 0} → (A → B) → Result A F → Result B F → Type 0
Shows view result stated = stated ≡ (result >>= λ x. Ok (view x))

-- the result for the start of a line: a value, and the bytes with the fields after it
abbrev pub Takes : {A : Type 0} → Result (A × Bor (List ℕ)) TextKind → Result (A × List (List ℕ)) TextKind → Type 0
Takes = Shows (λ x. (x.0, fields_of x.1.now))

-- the error of a line by its number of fields, else the error met in its fields
abbrev pub kind_by : Bool → TextKind → TextKind
kind_by counted met = if counted then met else Fields
