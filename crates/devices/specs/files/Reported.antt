-- The bytes that files report.
use Rattle.std.specs.Prelude.{◌≡◌, ℕ, List, [], Bool, true, false, Option, Some, None, is_some}

-- the report of a new file: no byte, if such files report their bytes
abbrev pub empty_report : Bool → Option (List ℕ)
empty_report true = Some []
empty_report false = None

-- the report of a file with these bytes
abbrev pub held_report : Bool → Option (List ℕ) → Option (List ℕ)
held_report true held = held
held_report false held = None

-- the report of a file, or of a new file if there is none yet
abbrev pub file_report : {F : Type 0} → Bool → (F → Option (List ℕ)) → Option F → Option (List ℕ)
file_report reports contents None = empty_report reports
file_report reports contents (Some file) = held_report reports (contents file)

-- an existing file reports its bytes, if such files do
abbrev pub Reports : {F : Type 0} → Bool → (F → Option (List ℕ)) → Option F → Type 0
Reports true contents (Some file) = is_some (contents file) ≡ true
Reports true contents None = Unit {0}
Reports false contents file = Unit {0}
