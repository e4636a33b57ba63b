-- A row is rejected as a whole, or at the first cell that encodes no allowed value, with that cell's kind.
use Rattle.std.proofs.Common.{◌≡◌, ℕ, ◌*◌, ◌^◌, ◌<◌, ◌≤◌, Bool, true, false, List, arith, refl, sym, subst, ℤ, pos, Ok, Err, inl, inr, length, leb-true, eqb-true}
use Rattle.std.specs.Prelude.{Result, ◌==◌, nat_le, not, if◌then◌else◌}
use Rattle.std.proofs.lemmas.Bool.{eqb-false, leb-false}
use Rattle.std.proofs.lemmas.Int.{ints}
use Rattle.pit_units.specs.EncodedNumbers.{EncodesNumber, EncodesSize}
use Rattle.pit_units.specs.StandsFor.{StandsFor}
use Rattle.plan_parts.specs.declared.block.Block.{Block}
use Rattle.plan_parts.specs.declared.grid.Axis.{Axis}
use Rattle.plan_parts.specs.declared.grid.Grid.{Grid}
use Rattle.zone_csv.proofs.CentroidFacts.{centroid_in_grid}
use Rattle.zone_csv.proofs.Refuses.{Of, Refuses, cell_refused, fault_is, passes, step}
use Rattle.zone_csv.proofs.RowFacts.{block_in_cells, index_encoded, size_encoded}
use Rattle.zone_csv.specs.Cell.{a_fault, index_at, is_on_step, largest, smallest}
use Rattle.zone_csv.specs.Columns.{all_columns}
use Rattle.zone_csv.specs.RefusedRow.{CellFails, HasSizes, IsFirstInvalidCell, IsRefusedAt}
use Rattle.zone_csv.specs.Row.{cell_in, index_in_cell, row_of, size_in_cell}
use Rattle.zone_csv.specs.EncodedRow.{centroid}
use Rattle.zone_csv.specs.declared.columns.Columns.{Columns}
use Rattle.zone_csv.specs.declared.row_fault.Column.{Column}
use Rattle.zone_csv.specs.declared.row_fault.Column.TheVariants.{X, Y, Z, Tonnes, Grade, Whole}
use Rattle.zone_csv.specs.declared.row_fault.RowFault.{RowFault}
use Rattle.zone_csv.specs.declared.row_fault.RowFaultKind.TheVariants.{OffGrid, TooManyRows, Width}

-- the cell of a coordinate, and of a size
abbrev Centred : Axis → List ℕ → ℕ → Type 0
Centred axis cell index = StandsFor 3 cell (centroid axis index) × (index < 10000)

index_refused : (row : ℕ) (column : Column) (axis : Axis) (cell : List ℕ) → 0 < axis.size
    → Refuses (index_in_cell row column axis cell)
    (Of row (λ f. (f.column ≡ column) × CellFails 3 (smallest axis) (largest axis) cell ((index : ℕ) × Centred axis cell index) f.kind))
index_refused row column axis cell some =
    cell_refused row column 3 (smallest axis) (largest axis) cell (omega arith)
    (λ m. if is_on_step axis m then Ok (index_at axis m) else Err (a_fault row column OffGrid)) refl (λ m. off m (is_on_step axis m)) in_range
    (index_encoded row column axis cell some)
  where
    off : (m : ℤ) (t : Bool) (f : RowFault) → ◌≡◌ {A = Result ℕ RowFault} (if t then Ok (index_at axis m) else Err (a_fault row column OffGrid)) (Err f)
        → f ≡ a_fault row column OffGrid
    off m true f e = absurd cc
    off m false f e = sym (fault_is (a_fault row column OffGrid) f e)

    in_range : (index : ℕ) → Centred axis cell index → (m : ℤ) × EncodesNumber 3 (smallest axis) (largest axis) cell m
    in_range index h = let within = centroid_in_grid axis some index h.1 in (centroid axis index, (h.0, within.0, within.1))

size_refused : (row : ℕ) (column : Column) (decimals most : ℕ) (cell : List ℕ) → decimals ≤ 6
    → Refuses (size_in_cell row column decimals most cell)
    (Of row (λ f. (f.column ≡ column) × CellFails decimals (pos 0) (pos most) cell ((n : ℕ) × EncodesSize decimals most cell n) f.kind))
size_refused row column decimals most cell few =
    cell_refused row column decimals (pos 0) (pos most) cell few _ refl (λ m f e. absurd cc)
    (λ n h. (pos n, (h.0, omega (arith, ints), omega (arith, ints, h.1)))) (size_encoded row column decimals most cell few)

module _ (grid : Grid) (zone : ℕ) (columns : Columns) (number : ℕ) (cells : List (List ℕ)) (sizes : HasSizes grid) where
  abbrev cell : ℕ → List ℕ
  cell k = cell_in columns cells k

  cells_refused : Refuses (block_in_cells grid zone columns number cells) (Of number (IsFirstInvalidCell grid columns cells 0 all_columns))
  cells_refused =
      step number (index_encoded number X grid.x (cell 0) sizes.0) (index_refused number X grid.x (cell 0) sizes.0) (λ x.
      step number (index_encoded number Y grid.y (cell 1) sizes.1) (index_refused number Y grid.y (cell 1) sizes.1) (λ y.
      step number (index_encoded number Z grid.z (cell 2) sizes.2) (index_refused number Z grid.z (cell 2) sizes.2) (λ z.
      step number (size_encoded number Tonnes 3 (10 ^ 9 * 1000) (cell 3) (omega arith))
      (size_refused number Tonnes 3 (10 ^ 9 * 1000) (cell 3) (omega arith)) (λ tonnes.
      step number (size_encoded number Grade 6 (10 ^ 12) (cell 4) (omega arith))
      (size_refused number Grade 6 (10 ^ 12) (cell 4) (omega arith)) (λ grade. passes number _)))))

  pub row_refused : Refuses (row_of grid zone columns number cells) (Of number (IsRefusedAt grid columns number cells))
  unfolding row_of
  row_refused = by (nat_le number 1000001) refl (length cells == columns.width) refl
    where
      Fault : RowFault → Type 0
      Fault = Of number (IsRefusedAt grid columns number cells)

      whole : (f : RowFault) → f.row ≡ number → f.column ≡ Whole → (kind : _) → f.kind ≡ kind
          → ◌≡◌ {A = Result Block RowFault} (Err (a_fault number Whole kind)) (Err f)
      whole f row column kind is = λ i. Err (record { row = sym row i; column = sym column i; kind = sym is i })

      by : (few : Bool) → nat_le number 1000001 ≡ few → (wide : Bool) → (length cells == columns.width) ≡ wide
          → Refuses (if not few then Err (a_fault number Whole TooManyRows)
          else (if not wide then Err (a_fault number Whole Width) else block_in_cells grid zone columns number cells)) Fault
      by true is_few true is_wide = record { reported = reported; back = back }
        where
          reported : (f : RowFault) → block_in_cells grid zone columns number cells ≡ Err f → Fault f
          reported f e =
              let h = cells_refused.reported f e in
              (h.0, inr (inr (leb-true number 1000001 is_few, eqb-true (length cells) columns.width is_wide, h.1)))

          back : (f : RowFault) → Fault f → block_in_cells grid zone columns number cells ≡ Err f
          back f (row, inl (many, column, kind)) = absurd (omega (arith, many, leb-true number 1000001 is_few))
          back f (row, inr (inl (few, narrow, column, kind))) = absurd (narrow (eqb-true (length cells) columns.width is_wide))
          back f (row, inr (inr (few, wide, first))) = cells_refused.back f (row, first)
      by true is_few false is_wide = record { reported = reported; back = back }
        where
          reported : (f : RowFault) → ◌≡◌ {A = Result Block RowFault} (Err (a_fault number Whole Width)) (Err f) → Fault f
          reported f e =
              subst Fault (fault_is (a_fault number Whole Width) f e)
              (refl, inr (inl (leb-true number 1000001 is_few, eqb-false (length cells) columns.width is_wide, refl, refl)))

          back : (f : RowFault) → Fault f → ◌≡◌ {A = Result Block RowFault} (Err (a_fault number Whole Width)) (Err f)
          back f (row, inl (many, column, kind)) = absurd (omega (arith, many, leb-true number 1000001 is_few))
          back f (row, inr (inl (few, narrow, column, kind))) = whole f row column Width kind
          back f (row, inr (inr (few, wide, first))) = absurd (eqb-false (length cells) columns.width is_wide wide)
      by false is_few wide is_wide = record { reported = reported; back = back }
        where
          reported : (f : RowFault) → ◌≡◌ {A = Result Block RowFault} (Err (a_fault number Whole TooManyRows)) (Err f) → Fault f
          reported f e =
              subst Fault (fault_is (a_fault number Whole TooManyRows) f e) (refl, inl (leb-false number 1000001 is_few, refl, refl))

          back : (f : RowFault) → Fault f → ◌≡◌ {A = Result Block RowFault} (Err (a_fault number Whole TooManyRows)) (Err f)
          back f (row, inl (many, column, kind)) = whole f row column TooManyRows kind
          back f (row, inr (inl (few, narrow, column, kind))) = absurd (omega (arith, few, leb-false number 1000001 is_few))
          back f (row, inr (inr (few, wide, first))) = absurd (omega (arith, few, leb-false number 1000001 is_few))
