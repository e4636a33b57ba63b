-- The messages of the lane, and lists of them.
use Rattle.std.specs.Prelude.{◌≡◌, ℕ, ◌+◌, Bool, false, ◌&&◌, ◌==◌, List, [], ◌∷◌, map}
use Rattle.std.specs.List.{filter}
use Rattle.std.specs.List.Sorted.{IsStrictlyIncreasing}
use Rattle.plan_parts.specs.declared.block.Block.{Block}
use Rattle.lane.specs.declared.message.Taken.{Taken}
use Rattle.lane.specs.declared.message.Taken.TheVariants.{Row, End, Stop, Quit}

-- whether a message belongs to the file; Stop and Quit belong to no file
abbrev pub is_of : ℕ → Taken → Bool
is_of file (Row f place block) = f == file
is_of file (End f rows) = f == file
is_of file Stop = false
is_of file Quit = false

-- the messages of the file, in order
abbrev pub of : ℕ → List Taken → List Taken
of file ms = filter (is_of file) ms

-- the position of a message in its file's list: for a row its place, for an end mark the number of rows before it
abbrev pub position : Taken → ℕ
position (Row f place block) = place
position (End f rows) = rows
position Stop = 0
position Quit = 0

-- whether it is the file's message at that position
abbrev pub is_at : ℕ → ℕ → Taken → Bool
is_at file p m = is_of file m && (position m == p)

-- rows of the file with places k, k + 1, .., and then its end mark with the number of all its rows
abbrev pub IsEndedFrom : ℕ → ℕ → List Taken → Type 0
IsEndedFrom file k [] = ⊥
IsEndedFrom file k (Row f place block ∷ ms) = (f ≡ file) × (place ≡ k) × IsEndedFrom file (k + 1) ms
IsEndedFrom file k (End f rows ∷ ms) = (f ≡ file) × (rows ≡ k) × (ms ≡ [])
IsEndedFrom file k (Stop ∷ ms) = ⊥
IsEndedFrom file k (Quit ∷ ms) = ⊥

-- the positions of each file rise
abbrev pub Rises : List Taken → Type 0
Rises ms = (file : ℕ) → IsStrictlyIncreasing (map position (of file ms))

-- rows and end marks, and then one Stop
abbrev pub EndsInStop : List Taken → Type 0
EndsInStop [] = ⊥
EndsInStop (Row f place block ∷ ms) = EndsInStop ms
EndsInStop (End f rows ∷ ms) = EndsInStop ms
EndsInStop (Stop ∷ ms) = ms ≡ []
EndsInStop (Quit ∷ ms) = ⊥

-- the messages of a file with these blocks, from place k: its rows, and then its end mark
abbrev pub sent_from : ℕ → ℕ → List Block → List Taken
sent_from file k [] = End file k ∷ []
sent_from file k (b ∷ bs) = Row file k b ∷ sent_from file (k + 1) bs
