-- Orders of messages that are true between any two steps.
use Rattle.std.specs.Prelude.{◌≡◌, ℕ, ◌+◌, true, List, [], ◌∷◌}
use Rattle.std.specs.List.{AllByRecursion}
use Rattle.lane.specs.declared.message.Taken.{Taken}
use Rattle.lane.specs.declared.message.Taken.TheVariants.{Row, End, Stop, Quit}
use Rattle.lane.specs.Message.{of}
use Rattle.lane.specs.MessageKinds.{is_stop, is_mark}

-- rows of the file with places k, k + 1, .. and then at most one end mark with their count, last
abbrev pub IsFrom : ℕ → ℕ → List Taken → Type 0
IsFrom file k [] = Unit {0}
IsFrom file k (Row f place block ∷ ms) = (f ≡ file) × (place ≡ k) × IsFrom file (k + 1) ms
IsFrom file k (End f rows ∷ ms) = (f ≡ file) × (rows ≡ k) × (ms ≡ [])
IsFrom file k (Stop ∷ ms) = ⊥
IsFrom file k (Quit ∷ ms) = ⊥

-- nothing of a file follows its end mark
abbrev pub EndsClose : List Taken → Type 0
EndsClose [] = Unit {0}
EndsClose (Row f place block ∷ ms) = EndsClose ms
EndsClose (End f rows ∷ ms) = (of f ms ≡ []) × EndsClose ms
EndsClose (Stop ∷ ms) = EndsClose ms
EndsClose (Quit ∷ ms) = EndsClose ms

-- a Stop or Quit is the last message
abbrev pub MarksLast : List Taken → Type 0
MarksLast [] = Unit {0}
MarksLast (m ∷ ms) = (is_mark m ≡ true → ms ≡ []) × MarksLast ms

-- only Stops
abbrev pub AreStops : List Taken → Type 0
AreStops ms = AllByRecursion (λ m. is_stop m ≡ true) ms

-- after a Stop there are only Stops
abbrev pub StopsLast : List Taken → Type 0
StopsLast [] = Unit {0}
StopsLast (m ∷ ms) = (is_stop m ≡ true → AreStops ms) × StopsLast ms
