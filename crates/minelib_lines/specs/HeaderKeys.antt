-- The header keys of the model files, in the order in which they are written.
use Rattle.std.specs.Prelude.{ℕ, Bool, true, false, List, [], ◌∷◌, codes}
use Rattle.std.specs.List.{filter}
use Rattle.minelib_lines.specs.declared.header_key.HeaderKey.{HeaderKey}
use Rattle.minelib_lines.specs.declared.header_key.HeaderKey.TheVariants as key
use Rattle.minelib_lines.specs.declared.problem.Problem.{Problem}
use Rattle.minelib_lines.specs.declared.problem.Problem.TheVariants.{Pcpsp, Cpit}

-- the name of the problem as a value of TYPE
abbrev pub type_text : Problem → List ℕ
type_text Pcpsp = codes "PCPSP"
type_text Cpit = codes "CPIT"

-- all keys
abbrev pub header_keys : List HeaderKey
header_keys =
    key.Name ∷ key.Type ∷ key.Blocks ∷ key.Periods ∷ key.Destinations ∷ key.Resources ∷ key.General ∷ key.Rate ∷ []

-- the place of each key among all keys
abbrev pub place : HeaderKey → ℕ
place key.Name = 0
place key.Type = 1
place key.Blocks = 2
place key.Periods = 3
place key.Destinations = 4
place key.Resources = 5
place key.General = 6
place key.Rate = 7

-- the word of a key
abbrev pub key_word : HeaderKey → List ℕ
key_word key.Name = codes "NAME"
key_word key.Type = codes "TYPE"
key_word key.Blocks = codes "NBLOCKS"
key_word key.Periods = codes "NPERIODS"
key_word key.Destinations = codes "NDESTINATIONS"
key_word key.Resources = codes "NRESOURCE_SIDE_CONSTRAINTS"
key_word key.General = codes "NGENERAL_SIDE_CONSTRAINTS"
key_word key.Rate = codes "DISCOUNT_RATE"

-- the files of the problem have this key; CPIT files have no keys for destinations and general side constraints
abbrev pub has_key : Problem → HeaderKey → Bool
has_key Pcpsp k = true
has_key Cpit key.Destinations = false
has_key Cpit key.General = false
has_key Cpit k = true

-- the keys of a problem's file
abbrev pub keys_of : Problem → List HeaderKey
keys_of problem = filter (has_key problem) header_keys
