-- The numbers of a model file's header keys, for the keys that were read.
use Rattle.std.specs.Prelude.{ℕ, ◌==◌, Bool, map, Option, Some, None, is_some, unwrap_or, slice_index_or, if◌then◌else◌}
use Rattle.std.specs.List.{list_all}
use Rattle.minelib_lines.specs.HeaderKeys.{header_keys, place}
use Rattle.minelib_reading.specs.declared.model.key.Header.{Header}
use Rattle.minelib_lines.specs.declared.header_key.HeaderKey.{HeaderKey}

-- no key was read
abbrev pub no_key : Header
no_key = record { numbers = map (λ _. None) header_keys }

-- the number of a key that was read
abbrev pub number_of : Header → HeaderKey → Option ℕ
number_of h k = slice_index_or h.numbers (place k) None

-- the same numbers, and a key with this number
unfoldable pub with_key : Header → HeaderKey → ℕ → Header
with_key h k n = record { numbers = map (λ j. if place j == place k then Some n else number_of h j) header_keys }

-- the number of a key, 0 before it was read: a count of periods, destinations and so on
abbrev pub count_in : Header → HeaderKey → ℕ
count_in h k = unwrap_or (number_of h k) 0

-- a key was read
abbrev pub is_given : HeaderKey → Header → Bool
is_given k h = is_some (number_of h k)

-- all keys were read
abbrev pub is_complete : Header → Bool
is_complete h = list_all (λ k. is_given k h) header_keys
