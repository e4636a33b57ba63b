-- The worths that a plan's destinations return for a block, and the items that a valuer makes from the messages that it takes.
use Rattle.std.specs.Prelude.{◌≡◌, ◌≤◌, ℕ, List, [], ◌∷◌, ◌++◌, drop, length, take, ℤ}
use Rattle.std.specs.List.{All, AllZip}
use Rattle.std.specs.declared.alloc.Global.{Global}
use Rattle.std.specs.declared.dyn_box.DynBox.{DynBox}
use Rattle.plan_parts.specs.OfPlan.{valuer_of}
use Rattle.plan_parts.specs.declared.block.Block.{Block}
use Rattle.plan_parts.specs.declared.formulas.destination.Destination.{Destination}
use Rattle.plan_parts.specs.declared.formulas.formula.Formula.{Formula}
use Rattle.plan_parts.specs.declared.ranges.TheConstants.{MAX_DESTINATIONS}
use Rattle.lane.specs.Ends.{TakeEndView}
use Rattle.lane.specs.declared.message.Taken.{Taken}
use Rattle.lane.specs.declared.message.Taken.TheVariants.{Row, End, Stop, Quit}
use Rattle.rows.specs.Valued.{row_by}
use Rattle.rows.specs.declared.item.Item.{Item}
use Rattle.rows.specs.declared.item.Item.TheVariants as item
use Rattle.rows.specs.declared.item.Valued.{Valued}

-- each worth is the value that the closure of the destination at its position returned for the block
abbrev pub AreAnswered : {I : _} {F : _} {g : _}
    → (DynBox I Global F → Block → ℤ → Type 0) → List (Destination I F g) → Block → List ℤ → Type 0
AreAnswered Answers destinations b worths = AllZip (λ d worth. Answers (valuer_of d) b worth) destinations worths

-- the item is an end mark, or the statement holds for its row
abbrev pub OfRow : (Valued → Type 0) → Item → Type 0
OfRow IsSo (item.Row row) = IsSo row
OfRow IsSo (item.End file rows) = Unit {0}

-- the worths of each row are the values that the closures of the destinations returned for its block
abbrev pub WereCalled : {I : _} {F : _} {g : _}
    → (DynBox I Global F → Block → ℤ → Type 0) → List (Destination I F g) → List Item → Type 0
WereCalled Answers destinations items = All (OfRow (λ row. AreAnswered Answers destinations row.block row.worths)) items

-- each row passed the gate, by its file and its place
abbrev pub WerePassed : (ℕ → ℕ → Type 0) → List Item → Type 0
WerePassed Passed items = All (OfRow (λ row. Passed row.file row.place)) items

-- the rows and end marks of these messages, in order, each row with its worths
abbrev pub items_by : List Formula → List Taken → List Item
items_by formulas [] = []
items_by formulas (Row file place block ∷ ms) = item.Row (row_by formulas file place block) ∷ items_by formulas ms
items_by formulas (End file rows ∷ ms) = item.End file rows ∷ items_by formulas ms
items_by formulas (Stop ∷ ms) = items_by formulas ms
items_by formulas (Quit ∷ ms) = items_by formulas ms

-- a prefix of a list
abbrev pub IsPrefixOf : {A : Type 0} → List A → List A → Type 0
IsPrefixOf all items = items ≡ take (length items) all

-- a take end took more messages, and nothing else changed
abbrev pub TookMore : TakeEndView → TakeEndView → Type 0
TookMore before after = after ≡ record before { took = before.took ++ drop (length before.took) after.took }

-- the rows and end marks of the messages that it took in between
abbrev pub items_since : List Formula → TakeEndView → TakeEndView → List Item
items_since formulas before after = items_by formulas (drop (length before.took) after.took)

-- the number of a plan's destinations, 1 to 8
abbrev pub AreOneToEight : {A : Type 0} → List A → Type 0
AreOneToEight destinations = (1 ≤ length destinations) × (length destinations ≤ MAX_DESTINATIONS)

-- the rows of these messages, in order, with their worths
abbrev pub rows_by : List Formula → List Taken → List Valued
rows_by formulas [] = []
rows_by formulas (Row file place block ∷ ms) = row_by formulas file place block ∷ rows_by formulas ms
rows_by formulas (End file rows ∷ ms) = rows_by formulas ms
rows_by formulas (Stop ∷ ms) = rows_by formulas ms
rows_by formulas (Quit ∷ ms) = rows_by formulas ms
