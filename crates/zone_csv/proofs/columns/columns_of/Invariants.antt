use Rattle.std.proofs.Common.{◌≡◌, ◌++◌, Ok, drop, length, take}
use Rattle.csv.specs.Records.{fields_of}
use Rattle.pit_units.specs.Steps.{◌>>=◌}
use Rattle.zone_csv.specs.Columns.{all_columns}
use Rattle.zone_csv.specs.Header.{each_place}
use Rattle.zone_csv.proofs.columns.columns_of.Given as goal

-- The columns before this one have their places, and the remaining columns decide.
abbrev pub invariant-loop-k : goal.invariant-loop-k
invariant-loop-k l =
    record {
      ahead : each_place (fields_of l.header) all_columns
          ≡ (each_place (fields_of l.header) (drop l.k all_columns) >>= λ places. Ok (take l.k l.places ++ places));
      count : length l.places ≡ length all_columns;
      columns : l.columns ≡ all_columns;
    }
