-- Identifiers by the codes of all blocks, and the lists of all blocks by the rows of their zones' cones.
use Rattle.std.specs.Prelude.{◌≡◌, ℕ, ◌+◌, ◌-◌, ◌++◌, List}
use Rattle.std.specs.List.{range_with_len}
use Rattle.std.specs.Simd.Lanes.{zip2}
use Rattle.precedence.specs.Cone.{positions_where}
use Rattle.precedence.specs.IdRanges.{ids_of}
use Rattle.precedence.specs.inner.Rows.{is_in_rows, start_of}
use Rattle.precedence.specs.inner.ZoneTables.{zone_rows}
use Rattle.precedence.specs.declared.cones.cone_rows.Row.{Row}
use Rattle.precedence.specs.declared.cones.cone_table.ConeTable.{ConeTable}
use Rattle.precedence.specs.declared.lists.id_range.IdRange.{IdRange}

-- the identifiers whose codes are in the row
abbrev pub range : ℕ → Row → List ℕ → List ℕ
range from row codes =
    range_with_len (start_of (from + row.first) codes) (start_of (from + row.past) codes - start_of (from + row.first) codes)

-- the identifiers whose codes are in the rows
abbrev pub ids_in_rows : ℕ → List Row → List ℕ → List ℕ
ids_in_rows from rows codes = positions_where (is_in_rows from rows) 0 codes

-- the identifiers in the cone of a zone, as seen from a code
abbrev pub in_cone : List ConeTable → List ℕ → List ℕ → ℕ → ℕ → List ℕ
in_cone tables of_zone all zone from = positions_where (is_in_rows from (zone_rows tables of_zone zone)) 0 all

-- the identifiers in the cone of each block, by the zones and codes of the blocks
abbrev pub in_cones : List ConeTable → List ℕ → List ℕ → List ℕ → List ℕ → List (List ℕ)
in_cones tables of_zone all zones codes = zip2 (in_cone tables of_zone all) zones codes

-- such a list is appended to ranges, the last of which may be lengthened
abbrev pub Appends : (List ℕ → Type 0) → (before after : List IdRange) → Type 0
Appends Is before after = (ids : List ℕ) × Is ids × (ids_of after ≡ ids_of before ++ ids)
