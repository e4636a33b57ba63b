-- How the code reads the parts of a model file's lines.
use Rattle.std.specs.Prelude.{ℕ, ◌^◌, Bool, true, List, [], ◌∷◌, Result, Ok, Err}
use Rattle.plan_parts.specs.Name.{is_name}
use Rattle.minelib_lines.specs.declared.header_key.HeaderKey.{HeaderKey}
use Rattle.minelib_lines.specs.declared.header_key.HeaderKey.TheVariants as key
use Rattle.text_lines.specs.declared.text_fault.TextKind.{TextKind}
use Rattle.text_lines.specs.declared.text_fault.TextKind.TheVariants.{Fields}

-- the only value of a header key
abbrev pub only_value : List (List ℕ) → Result (List ℕ) TextKind
only_value [] = Err Fields
only_value (value ∷ []) = Ok value
only_value (value ∷ other ∷ more) = Err Fields

-- the value is a NAME, if the key requires one
abbrev pub is_name_for : HeaderKey → List ℕ → Bool
is_name_for key.Name value = is_name value
is_name_for k value = true

-- a bound above every number of a key: all numbers except the rate fit a byte
abbrev pub number_limit : HeaderKey → ℕ
number_limit key.Rate = 2 ^ 32
number_limit k = 256
