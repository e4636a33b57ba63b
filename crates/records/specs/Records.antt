-- The records of a text of comma-separated cells.
use Rattle.std.specs.Prelude.{ℕ, List}
use Rattle.csv.specs.Reading.{default_config, records, strip_bom}

-- the records of a text, each with the bytes of its cells: RFC 4180 as the crate `csv` defines it. Commas separate cells, double
-- quotes quote them, and a doubled quote is a quote. Lines end with LF, CR or both, and a line without a byte is no record. Records
-- may have any length, no cell is trimmed, and there is no header. One byte order mark at the start is dropped, but no second one
abbrev pub records_of : List ℕ → List (List (List ℕ))
records_of text = records default_config (strip_bom text)
