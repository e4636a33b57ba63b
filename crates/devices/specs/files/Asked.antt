-- The calls to a system, as contracts see them: the files that were requested, and the slots that were made.
use Rattle.std.specs.Prelude.{ℕ, List, [], ◌∷◌, ◌++◌, Option}
use Rattle.devices.specs.ShownBytes.{bytes_of}
use Rattle.devices.specs.files.Opening.{Opening, Opened, Unopened}
use Rattle.devices.specs.declared.files.asked.Asked.{Asked}
use Rattle.devices.specs.declared.files.asked.Asked.TheVariants as asked
use Rattle.devices.specs.declared.files.asked.Made.{Made}
use Rattle.devices.specs.declared.files.asked.Made.TheVariants as made

-- the openings; the function returns the bytes that a file reports
abbrev pub openings_of : {F : Type 0} → (F → Option (List ℕ)) → Asked F → List Opening
openings_of reported asked.Nothing = []
openings_of reported (asked.Opened' path file marker before) =
    openings_of reported before ++ Opened (bytes_of path) (reported file.value) ∷ []
openings_of reported (asked.Unopened' path marker before) = openings_of reported before ++ Unopened (bytes_of path) ∷ []

-- the paths of the slots
abbrev pub paths_of : Made → List (List ℕ)
paths_of made.Nothing = []
paths_of (made.Slot' path marker before) = paths_of before ++ bytes_of path ∷ []
