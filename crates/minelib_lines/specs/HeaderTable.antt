-- The value of each header key of the model files, as text, with its line.
use Rattle.std.specs.Prelude.{ℕ, Bool, true, false, List, [], ◌∷◌, ◌++◌, map, codes, decimal}
use Rattle.std.specs.List.{filter}
use Rattle.pit_units.specs.Decimal.{shortest}
use Rattle.minelib_lines.specs.HeaderKeys.{header_keys, key_word}
use Rattle.minelib_lines.specs.Lines.{line_of}
use Rattle.minelib_lines.specs.StatedHeader.{StatedHeader}
use Rattle.minelib_lines.specs.declared.header_key.HeaderKey.{HeaderKey}
use Rattle.minelib_lines.specs.declared.header_key.HeaderKey.TheVariants as key

-- the keys of a UPIT file
abbrev pub of_upit : HeaderKey → Bool
of_upit key.Name = true
of_upit key.Type = true
of_upit key.Blocks = true
of_upit k = false

abbrev pub upit_keys : List HeaderKey
upit_keys = filter of_upit header_keys

-- the value of a key, as text: `problem` is the value of TYPE, n the number of blocks, h the content of the header. There are no
-- general side constraints
abbrev pub key_text : List ℕ → ℕ → StatedHeader → HeaderKey → List ℕ
key_text problem n h key.Name = h.name
key_text problem n h key.Type = problem
key_text problem n h key.Blocks = decimal n
key_text problem n h key.Periods = decimal h.periods
key_text problem n h key.Destinations = decimal h.destinations
key_text problem n h key.Resources = decimal h.resources
key_text problem n h key.General = decimal 0
key_text problem n h key.Rate = shortest h.rate

-- the line of a key, and the lines of a file's keys
abbrev pub key_line : HeaderKey → List ℕ → List ℕ
key_line k text = line_of ((key_word k ++ codes ":") ∷ text ∷ [])

abbrev pub key_lines : (HeaderKey → List ℕ) → List HeaderKey → List (List ℕ)
key_lines text keys = map (λ k. key_line k (text k)) keys
