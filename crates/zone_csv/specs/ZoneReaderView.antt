-- What a reader of a zone file has yet to return, and how it returns it.
use Rattle.std.specs.Prelude.{◌≡◌, ℕ, List, [], ◌∷◌, length, Option, Some, None, Result, Ok, Err}
use Rattle.plan_parts.specs.declared.block.Block.{Block}
use Rattle.plan_parts.specs.declared.grid.Grid.{Grid}
use Rattle.zone_csv.specs.Zone.{blocks_of, fault_of}
use Rattle.zone_csv.specs.declared.row_fault.RowFault.{RowFault}
use Rattle.pit_units.specs.declared.or_memory.OrMemory.{OrMemory}
use Rattle.pit_units.specs.declared.or_memory.OrMemory.TheVariants.{Fault, OutOfMemory}

-- these blocks, and then this fault or the end; or only the fault or the end, which was returned before; or only that memory was
-- refused
pub data ZoneReaderView : Type 0 where
  Ahead : (blocks : List Block) (fault : Option RowFault) → ZoneReaderView
  Reported : (fault : Option RowFault) → ZoneReaderView
  NoMemory : ZoneReaderView

-- a complete zone file: its blocks, and then its fault or its end
abbrev pub all_ahead : Grid → ℕ → List ℕ → ZoneReaderView
all_ahead grid zone text = Ahead (blocks_of grid zone text) (fault_of grid zone text)

-- the result after the last block
abbrev pub last_answer : Option RowFault → Result (Option Block) (OrMemory RowFault)
last_answer None = Ok None
last_answer (Some fault) = Err (Fault fault)

-- the next result
abbrev pub answer_of : ZoneReaderView → Result (Option Block) (OrMemory RowFault)
answer_of (Ahead (block ∷ blocks) fault) = Ok (Some block)
answer_of (Ahead [] fault) = last_answer fault
answer_of (Reported fault) = last_answer fault
answer_of NoMemory = Err OutOfMemory

-- what remains to return after it
abbrev pub rest_of : ZoneReaderView → ZoneReaderView
rest_of (Ahead (block ∷ blocks) fault) = Ahead blocks fault
rest_of (Ahead [] fault) = Reported fault
rest_of (Reported fault) = Reported fault
rest_of NoMemory = NoMemory

-- memory may be refused: not after the fault or the end was returned
abbrev pub MayRunOut : ZoneReaderView → Type 0
MayRunOut (Ahead blocks fault) = Unit {0}
MayRunOut (Reported fault) = ⊥
MayRunOut NoMemory = Unit {0}

-- the next result was returned; or memory was refused, and every later call returns that
abbrev pub Answers : ZoneReaderView → Result (Option Block) (OrMemory RowFault) → ZoneReaderView → Type 0
Answers old (Ok found) new = (Ok found ≡ answer_of old) × (new ≡ rest_of old)
Answers old (Err (Fault fault)) new = (Err (Fault fault) ≡ answer_of old) × (new ≡ rest_of old)
Answers old (Err OutOfMemory) new = MayRunOut old × (new ≡ NoMemory)

-- the number of blocks yet to return
abbrev pub blocks_remaining : ZoneReaderView → ℕ
blocks_remaining (Ahead blocks fault) = length blocks
blocks_remaining (Reported fault) = 0
blocks_remaining NoMemory = 0
