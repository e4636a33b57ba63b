-- The columns of a zone file, in order, and their names.
use Rattle.std.specs.Prelude.{ℕ, List, [], ◌∷◌, codes}
use Rattle.zone_csv.specs.declared.row_fault.Column.{Column}
use Rattle.zone_csv.specs.declared.row_fault.Column.TheVariants.{X, Y, Z, Tonnes, Grade, Whole}

-- all columns, in the order in which faults are searched
abbrev pub all_columns : List Column
all_columns = X ∷ Y ∷ Z ∷ Tonnes ∷ Grade ∷ []

-- a column's name in the header; the row as a whole has its own word
abbrev pub column_name : Column → List ℕ
column_name X = codes "x"
column_name Y = codes "y"
column_name Z = codes "z"
column_name Tonnes = codes "tonnes"
column_name Grade = codes "grade"
column_name Whole = codes "whole"
