-- The keys of a model file's lines, and the numbers that the values of header keys state.
use Rattle.std.specs.Prelude.{ℕ, ◌+◌, ◌==◌, Bool, List, [], ◌∷◌, pos, unsigned_abs, codes, Option, Some, None, Result, Ok, Err, if◌then◌else◌}
use Rattle.std.specs.List.{find}
use Rattle.std.specs.Option.{option_map}
use Rattle.std.specs.Str.{bytes_eq}
use Rattle.pit_units.specs.Steps.{◌>>=◌}
use Rattle.plan_parts.specs.Name.{is_name}
use Rattle.minelib_lines.specs.HeaderKeys.{key_word, keys_of, type_text}
use Rattle.minelib_lines.specs.declared.header_key.HeaderKey.{HeaderKey}
use Rattle.minelib_lines.specs.declared.header_key.HeaderKey.TheVariants as key
use Rattle.minelib_lines.specs.declared.problem.Problem.{Problem}
use Rattle.minelib_reading.specs.declared.model.key.ModelKey.{ModelKey}
use Rattle.minelib_reading.specs.declared.model.key.ModelKey.TheVariants as model_key
use Rattle.minelib_reading.specs.declared.model.key.Section.{Section}
use Rattle.minelib_reading.specs.declared.model.key.Section.TheVariants.{Heading, Objective, Coefs, Limits}
use Rattle.text_lines.specs.StatedFields.{below_in, integer_in, number_in}
use Rattle.text_lines.specs.declared.text_fault.TextKind.{TextKind}
use Rattle.text_lines.specs.declared.text_fault.TextKind.TheVariants.{Count, Name}
use Rattle.plan_parts.specs.declared.ranges.TheConstants.{MAX_BLOCKS, MAX_DESTINATIONS, MAX_PERIODS, MAX_RATE, MAX_RESOURCES}

-- the colon after a key
abbrev pub is_colon : ℕ → Bool
is_colon b = b == 58

-- the keys of the sections; the header has none
abbrev pub section_text : Section → List ℕ
section_text Heading = []
section_text Objective = codes "OBJECTIVE_FUNCTION"
section_text Coefs = codes "RESOURCE_CONSTRAINT_COEFFICIENTS"
section_text Limits = codes "RESOURCE_CONSTRAINT_LIMITS"

abbrev pub sections : List Section
sections = Objective ∷ Coefs ∷ Limits ∷ []

-- the key with this word in the files of a problem: a header key, or else a section's key
abbrev pub section_in : List ℕ → Option ModelKey
section_in word = option_map model_key.Section (find (λ s. bytes_eq word (section_text s)) sections)

abbrev pub header_or : Option HeaderKey → List ℕ → Option ModelKey
header_or (Some k) word = Some (model_key.Header k)
header_or None word = section_in word

abbrev pub key_in : Problem → List ℕ → Option ModelKey
key_in problem word = header_or (find (λ k. bytes_eq word (key_word k)) (keys_of problem)) word

-- the key of the fields before a colon: the only field there
abbrev pub key_of : Problem → List (List ℕ) → Option ModelKey
key_of problem [] = None
key_of problem (word ∷ []) = key_in problem word
key_of problem (word ∷ other ∷ more) = None

-- the number that is stored for a header key with this value, in a file of n blocks: the rate in millionths; 0 if the value must
-- only be correct
unfoldable pub number_stated : Problem → ℕ → HeaderKey → List ℕ → Result ℕ TextKind
number_stated problem n key.Name value = if is_name value then Ok 0 else Err Name
number_stated problem n key.Type value = if bytes_eq value (type_text problem) then Ok 0 else Err Name
number_stated problem n key.Blocks value = below_in (MAX_BLOCKS + 1) value >>= λ blocks. if blocks == n then Ok 0 else Err Count
number_stated problem n key.Periods value = integer_in 1 MAX_PERIODS value
number_stated problem n key.Destinations value = integer_in 1 MAX_DESTINATIONS value
number_stated problem n key.Resources value = below_in (MAX_RESOURCES + 1) value
number_stated problem n key.General value = below_in 1 value
number_stated problem n key.Rate value = number_in 6 (pos 0) MAX_RATE value >>= λ m. Ok (unsigned_abs m)
