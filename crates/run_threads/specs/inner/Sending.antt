-- A reader's steps through its zone file, block by block.
use Rattle.std.specs.Prelude.{◌≡◌, ℕ, ◌+◌, ◌≤◌, List, [], ◌∷◌, ◌++◌, length, Option, Some, None, Result, Ok, Err}
use Rattle.lane.specs.Message.{sent_from}
use Rattle.lane.specs.declared.message.Taken.{Taken}
use Rattle.lane.specs.declared.message.Taken.TheVariants.{End}
use Rattle.plan_parts.specs.declared.block.Block.{Block}
use Rattle.zone_csv.specs.ZoneReaderView.{ZoneReaderView, Ahead}
use Rattle.zone_csv.specs.declared.row_fault.RowFault.{RowFault}
use Rattle.pit_units.specs.declared.or_memory.OrMemory.{OrMemory}
use Rattle.pit_units.specs.declared.or_memory.OrMemory.TheVariants as zone
use Rattle.plan_parts.specs.declared.ranges.TheConstants.{MAX_ROWS}

-- the messages sent so far, and the remainder that the reader has not read yet, make up a file with these blocks and this fault
pub record IsSending (file : ℕ) (whole : List Block) (fault : Option RowFault) (sent : List Taken) (still : ZoneReaderView) : Type 0 where
  pub rest : List Block
  pub says : still ≡ Ahead rest fault
  pub makes_up : sent ++ sent_from file (length sent) rest ≡ sent_from file 0 whole
  pub few : length sent + length rest ≤ MAX_ROWS

-- followed by the end mark, the messages are all messages of a file with these blocks
abbrev pub IsAllBut : ℕ → List Block → List Taken → Type 0
IsAllBut file blocks sent = sent ++ End file (length sent) ∷ [] ≡ sent_from file 0 blocks

-- the messages sent from a file with these blocks and this fault, for each result
abbrev pub HasPut : ℕ → List Block → Option RowFault → Result (Unit {0}) (OrMemory RowFault) → List Taken → Type 0
HasPut file blocks fault (Ok done) sent = (fault ≡ None) × IsAllBut file blocks sent
HasPut file blocks fault (Err (zone.Fault x)) sent = (fault ≡ Some x) × IsAllBut file blocks sent
HasPut file blocks fault (Err zone.OutOfMemory) sent = Unit {0}
