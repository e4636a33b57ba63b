-- A list with another element, at its place.
use Rattle.std.specs.Prelude.{ℕ, ◌+◌, ◌-◌, if◌then◌else◌, nat_lt, List, ◌++◌, length, replicate, slice_set}

-- the element also fills earlier places that have none
abbrev pub with_at : {A : Type 0} → List A → ℕ → A → List A
with_at xs place x = if nat_lt place (length xs) then slice_set xs place x else xs ++ replicate (place + 1 - length xs) x
