-- The rows of the zone files, the messages that their readers send, and the first fault.
use Rattle.std.specs.Prelude.{ℕ, ◌+◌, List, [], ◌∷◌, ◌++◌, length, map, nat_lt, Option, Some, None, if◌then◌else◌}
use Rattle.std.specs.Option.{option_map, option_or}
use Rattle.lane.specs.Message.{sent_from}
use Rattle.lane.specs.declared.message.Taken.{Taken}
use Rattle.plan_parts.specs.Plan.{PlanParts}
use Rattle.plan_parts.specs.declared.block.Block.{Block}
use Rattle.plan_parts.specs.declared.grid.Grid.{Grid}
use Rattle.run_threads.specs.MostBytes.{most_bytes}
use Rattle.zone_csv.specs.Zone.{blocks_of, fault_of}
use Rattle.refusals.specs.declared.refusal.Refusal.{Refusal}
use Rattle.refusals.specs.declared.refusal.Refusal.TheVariants.{TooLong, Row}
use Rattle.refusals.specs.declared.refusal.RowAt.{RowAt}

-- the rows of a file with these blocks: each with the number of its file and of its record, counted from `row`
abbrev pub rows_from : List Block → ℕ → ℕ → List (RowAt × Block)
rows_from [] file row = []
rows_from (b ∷ blocks) file row = (record { file = file; row = row }, b) ∷ rows_from blocks file (row + 1)

-- the rows of these zone files in order; the first file has number n. The header is record 1, so rows begin with record 2
abbrev pub rows_in : List (List ℕ) → Grid → ℕ → List (RowAt × Block)
rows_in [] grid n = []
rows_in (text ∷ texts) grid n = rows_from (blocks_of grid n text) n 2 ++ rows_in texts grid (n + 1)

-- all rows of a model, and their blocks
abbrev pub model_rows : PlanParts → List (List ℕ) → List (RowAt × Block)
model_rows plan texts = rows_in texts plan.grid 0

abbrev pub model_blocks : PlanParts → List (List ℕ) → List Block
model_blocks plan texts = map (λ row. row.1) (model_rows plan texts)

-- the messages that each of these zone files sends into the lane: its rows, and then its end mark; the first file has number n
abbrev pub files_send : ℕ → Grid → List (List ℕ) → List (List Taken)
files_send n grid [] = []
files_send n grid (text ∷ texts) = sent_from n 0 (blocks_of grid n text) ∷ files_send (n + 1) grid texts

-- the messages that each zone file of a model sends
abbrev pub model_sends : PlanParts → List (List ℕ) → List (List Taken)
model_sends plan texts = files_send 0 plan.grid texts

-- the fault of a zone file: it is too long, or it has a faulty row
abbrev pub file_fault : Grid → ℕ → List ℕ → Option Refusal
file_fault grid n text = if nat_lt most_bytes (length text) then Some (TooLong n) else option_map (Row n) (fault_of grid n text)

-- the fault of the first file that has one
abbrev pub fault_in : List (List ℕ) → Grid → ℕ → Option Refusal
fault_in [] grid n = None
fault_in (text ∷ texts) grid n = option_or (file_fault grid n text) (fault_in texts grid (n + 1))
