-- How the next record of a text is taken.
use Rattle.std.specs.Prelude.{◌≡◌, Bool, true, false, ℕ, List, [], ◌∷◌, length, Result, Ok, Err}

-- what remains for a reader of records: these records, in order; nothing, since the end was returned; or nothing, since memory was
-- refused
pub data RecordReaderView : Type 0 where
  Rows : (rows : List (List (List ℕ))) → RecordReaderView
  Over : RecordReaderView
  GaveUp : RecordReaderView

-- the number of records that a reader can still return
abbrev pub rows_ahead : RecordReaderView → ℕ
rows_ahead (Rows rows) = length rows
rows_ahead Over = 0
rows_ahead GaveUp = 0

-- taking a record returns the first remaining one. At the end none is found, now and at every later call. Memory may be refused
-- before the end; then every later call fails too
abbrev pub TakesRow : {E : Type 0} → RecordReaderView → Result Bool E → List (List ℕ) → RecordReaderView → Type 0
TakesRow GaveUp (Ok found) fields after = ⊥
TakesRow GaveUp (Err refusal) fields after = after ≡ GaveUp
TakesRow Over (Ok found) fields after = (found ≡ false) × (after ≡ Over)
TakesRow Over (Err refusal) fields after = ⊥
TakesRow (Rows rows) (Err refusal) fields after = after ≡ GaveUp
TakesRow (Rows []) (Ok found) fields after = (found ≡ false) × (after ≡ Over)
TakesRow (Rows (row ∷ rows)) (Ok found) fields after = (found ≡ true) × (fields ≡ row) × (after ≡ Rows rows)
