-- How contracts see the parts of a reader as its remaining records.
use Rattle.std.specs.Prelude.{◌≡◌, ◌+◌, ◌<◌, ◌∷◌, Bool, true, false, ℕ, List, [], Option, Some, None, length}
use Rattle.csv.specs.Machine.{ends_at_end}
use Rattle.csv.specs.Reading.{Ready, default_config, is_flexible, names_headers, reader_config, reader_state, reader_trim, records_from, source_of}
use Rattle.csv.specs.declared.parser.State.{State}
use Rattle.csv.specs.declared.reader.Reader.{Reader}
use Rattle.csv.specs.declared.reader.Trim.TheVariants as trim
use Rattle.records.specs.RecordReader.{RecordReaderView, Rows, Over, GaveUp}
use Rattle.records.specs.declared.record_reader.Progress.{Progress}
use Rattle.records.specs.declared.record_reader.Progress.TheVariants as stage

-- the records of the unread bytes, read from a state on
abbrev pub rows_from : State → List ℕ → List (List (List ℕ))
rows_from state bytes = records_from default_config (length bytes + 1) state bytes

-- the same, if those bytes are known
abbrev pub rows_of_source : State → Option (List ℕ) → List (List (List ℕ))
rows_of_source state None = []
rows_of_source state (Some bytes) = rows_from state bytes

-- the same for a reader
abbrev pub rows_remaining : {R : Type 0} → (R → Option (List ℕ)) → Reader R → List (List (List ℕ))
rows_remaining known reader = rows_of_source (reader_state reader) (source_of known reader)

-- the remaining records at each stage
abbrev pub ahead_of : {R : Type 0} → (R → Option (List ℕ)) → Progress → Reader R → RecordReaderView
ahead_of known stage.Unread reader = Rows (rows_remaining known reader)
ahead_of known stage.Reading reader = Rows (rows_remaining known reader)
ahead_of known stage.Ended reader = Over
ahead_of known stage.Refused reader = GaveUp

-- a reader of known bytes before the first record. It uses its first record as a header unless it gets one, and is else as below
pub record IsUnread {R : Type 0} (known : R → Option (List ℕ)) (reader : Reader R) : Type 0 where
  pub plain : reader_trim reader ≡ trim.None
  pub named : names_headers reader ≡ true
  pub config : reader_config reader ≡ default_config
  pub flexible : is_flexible reader ≡ true
  pub between : ends_at_end (reader_state reader) ≡ false
  pub bytes : List ℕ
  pub source : source_of known reader ≡ Some bytes

-- a reader of known bytes between two records. It reads like `records_of`, and records may differ in length
pub record IsBetweenRecords {R : Type 0} (known : R → Option (List ℕ)) (reader : Reader R) : Type 0 where
  pub plain : reader_trim reader ≡ trim.None
  pub ready : Ready reader
  pub config : reader_config reader ≡ default_config
  pub flexible : is_flexible reader ≡ true
  pub between : ends_at_end (reader_state reader) ≡ false
  pub bytes : List ℕ
  pub source : source_of known reader ≡ Some bytes

-- a read by such a reader: it took the first remaining record, which has a cell, or there was none
abbrev pub TakesNext : {R : Type 0} → (R → Option (List ℕ)) → Reader R → Reader R → Bool → List (List ℕ) → Type 0
TakesNext known old new true fields = IsBetweenRecords known new × (rows_remaining known old ≡ fields ∷ rows_remaining known new) × (0 < length fields)
TakesNext known old new false fields = rows_remaining known old ≡ []

-- the state of the reader underneath at each stage: anything once no record is requested from it
abbrev pub IsSetUp : {R : Type 0} → (R → Option (List ℕ)) → Progress → Reader R → Type 0
IsSetUp known stage.Unread reader = IsUnread known reader
IsSetUp known stage.Reading reader = IsBetweenRecords known reader
IsSetUp known stage.Ended reader = Unit {0}
IsSetUp known stage.Refused reader = Unit {0}
