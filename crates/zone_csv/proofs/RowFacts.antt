-- What a row's result shows: its fault has its number, and it states a block if and only if its cells encode the block.
use Rattle.std.proofs.Common.{◌≡◌, ℕ, ◌*◌, ◌/◌, ◌%◌, ◌^◌, ◌<◌, ◌≤◌, Bool, true, false, List, arith, refl, sym, ◌∙◌, ap, subst, leb-true, ℤ, pos, Ok, Err, min, length}
use Rattle.std.specs.Prelude.{All, Result, ◌==◌, ◌≤ℤ◌, int_le, nat_le, not, if◌then◌else◌}
use Rattle.std.proofs.Math.Nat.{min-eq_left, mul-div_left}
use Rattle.std.proofs.lemmas.Bool.{eq-eqb, le-leb, ne_eqb, not-false}
use Rattle.std.proofs.lemmas.Int.{ints}
use Rattle.std.proofs.lemmas.List.Elements.{All-weaker}
use Rattle.pit_units.proofs.Exactly.{Exactly, as_, counted, done, holds, same, tested, then_}
use Rattle.pit_units.proofs.Multiples.{stands_multiple}
use Rattle.pit_units.proofs.EncodedFacts.{size_of_number, stands_within, within_stands}
use Rattle.pit_units.specs.Decimal.{decimal_of, decimal_within}
use Rattle.pit_units.specs.Shortest.{IsPlainByte}
use Rattle.pit_units.specs.EncodedNumbers.{EncodesNumber, EncodesSize}
use Rattle.pit_units.specs.StandsFor.{StandsFor}
use Rattle.pit_units.specs.Steps.{◌>>=◌}
use Rattle.pit_units.specs.declared.fault.DecFault.{DecFault}
use Rattle.pit_units.specs.declared.fault.DecFault.TheVariants as dec
use Rattle.plan_parts.proofs.BlockFacts.{block_again}
use Rattle.plan_parts.specs.Block.{block_with}
use Rattle.plan_parts.specs.declared.block.Block.{Block}
use Rattle.plan_parts.specs.declared.grid.Axis.{Axis}
use Rattle.plan_parts.specs.declared.grid.Grid.{Grid}
use Rattle.records.proofs.CellFacts.{all_kept}
use Rattle.records.specs.Cells.{is_blank, trimmed}
use Rattle.zone_csv.proofs.CentroidFacts.{centroid_in_grid, centroid_index, centroid_on_step, index_is_centroid}
use Rattle.zone_csv.specs.Cell.{a_fault, index_at, is_on_step, largest, smallest}
use Rattle.zone_csv.specs.Row.{cell_in, index_in_cell, number_in_cell, row_of, size_in_cell}
use Rattle.zone_csv.specs.EncodedRow.{EncodesBlock, centroid}
use Rattle.zone_csv.specs.declared.columns.Columns.{Columns}
use Rattle.zone_csv.specs.declared.row_fault.Column.{Column}
use Rattle.zone_csv.specs.declared.row_fault.Column.TheVariants.{X, Y, Z, Tonnes, Grade, Whole}
use Rattle.zone_csv.specs.declared.row_fault.RowFault.{RowFault}
use Rattle.zone_csv.specs.declared.row_fault.RowFaultKind.TheVariants.{OffGrid, TooManyRows, Width}

-- the fault, if there is one, has this property
abbrev pub Faults : {A : Type 0} → (RowFault → Type 0) → Result A RowFault → Type 0
Faults P (Ok x) = Unit {0}
Faults P (Err fault) = P fault

-- the fault is in this row
abbrev pub IsOfRow : {A : Type 0} → ℕ → Result A RowFault → Type 0
IsOfRow row r = Faults (λ fault. fault.row ≡ row) r

-- and in this column
abbrev pub IsOfCell : {A : Type 0} → ℕ → Column → Result A RowFault → Type 0
IsOfCell row column r = Faults (λ fault. (fault.row ≡ row) × (fault.column ≡ column)) r

-- steps have the faults of each step
step_faults : {A B : Type 0} (P : RowFault → Type 0) (r : Result A RowFault) (next : A → Result B RowFault) → Faults P r
    → ((x : A) → Faults P (next x)) → Faults P (r >>= next)
step_faults P (Ok x) next here following = following x
step_faults P (Err fault) next here following = here

pub step_of_row : {A B : Type 0} (row : ℕ) (r : Result A RowFault) (next : A → Result B RowFault) → IsOfRow row r
    → ((x : A) → IsOfRow row (next x)) → IsOfRow row (r >>= next)
step_of_row row r next here following = step_faults (λ fault. fault.row ≡ row) r next here following

pub row_of_cell : {A : Type 0} (row : ℕ) (column : Column) (r : Result A RowFault) → IsOfCell row column r → IsOfRow row r
row_of_cell row column (Ok x) here = tt
row_of_cell row column (Err fault) here = here.0

number_of_cell : (row : ℕ) (column : Column) (d : Result ℤ DecFault) → IsOfCell row column (number_in_cell row column d)
number_of_cell row column (Ok m) = tt
number_of_cell row column (Err dec.Number) = (refl, refl)
number_of_cell row column (Err dec.TooFine) = (refl, refl)
number_of_cell row column (Err dec.Range) = (refl, refl)

pub index_of_cell : (row : ℕ) (column : Column) (axis : Axis) (cell : List ℕ) → IsOfCell row column (index_in_cell row column axis cell)
index_of_cell row column axis cell =
    step_faults (λ fault. (fault.row ≡ row) × (fault.column ≡ column)) (number_in_cell row column (decimal_within 3 (smallest axis) (largest axis) cell)) _
    (number_of_cell row column _) (λ m. by m (is_on_step axis m))
  where
    by : (m : ℤ) (t : Bool) → IsOfCell row column (if t then Ok (index_at axis m) else Err (a_fault row column OffGrid))
    by m true = tt
    by m false = (refl, refl)

pub size_of_cell : (row : ℕ) (column : Column) (decimals most : ℕ) (cell : List ℕ)
    → IsOfCell row column (size_in_cell row column decimals most cell)
size_of_cell row column decimals most cell =
    step_faults (λ fault. (fault.row ≡ row) × (fault.column ≡ column)) (number_in_cell row column (decimal_within decimals (pos 0) (pos most) cell)) _
    (number_of_cell row column _) (λ m. tt)

index_of_row : (row : ℕ) (column : Column) (axis : Axis) (cell : List ℕ) → IsOfRow row (index_in_cell row column axis cell)
index_of_row row column axis cell = row_of_cell row column (index_in_cell row column axis cell) (index_of_cell row column axis cell)

size_of_row : (row : ℕ) (column : Column) (decimals most : ℕ) (cell : List ℕ) → IsOfRow row (size_in_cell row column decimals most cell)
size_of_row row column decimals most cell =
    row_of_cell row column (size_in_cell row column decimals most cell) (size_of_cell row column decimals most cell)

-- cells, each read exactly as what it encodes: a number in a range, the index whose centroid it encodes, and a size
module _ (row : ℕ) (column : Column) where
  number_ok : (d : Result ℤ DecFault) (m : ℤ) → number_in_cell row column d ≡ Ok m → d ≡ Ok m
  number_ok (Ok n) m e = ap Ok (same n m e)
  number_ok (Err dec.Number) m e = absurd cc
  number_ok (Err dec.TooFine) m e = absurd cc
  number_ok (Err dec.Range) m e = absurd cc

  number_encoded : (decimals : ℕ) (low high : ℤ) (cell : List ℕ) → decimals ≤ 6
      → Exactly (number_in_cell row column (decimal_within decimals low high cell)) (EncodesNumber decimals low high cell)
  number_encoded decimals low high cell few = record {
    reported = λ m e. within_stands decimals low high cell m few (number_ok (decimal_within decimals low high cell) m e);
    back = λ m h. ap (number_in_cell row column) (stands_within decimals low high cell m few h);
  }

  pub index_encoded : (axis : Axis) (cell : List ℕ) → 0 < axis.size
      → Exactly (index_in_cell row column axis cell) (λ index. StandsFor 3 cell (centroid axis index) × (index < 10000))
  index_encoded axis cell some = as_ steps to from
    where
      Steps : ℕ → Type 0
      Steps index = (m : ℤ) × EncodesNumber 3 (smallest axis) (largest axis) cell m × ((is_on_step axis m ≡ true) × (index ≡ index_at axis m))

      steps : Exactly (index_in_cell row column axis cell) Steps
      steps =
          then_ (number_encoded 3 (smallest axis) (largest axis) cell (omega arith)) (λ m.
          holds (a_fault row column OffGrid) (done (index_at axis m)))

      to : (index : ℕ) → Steps index → StandsFor 3 cell (centroid axis index) × (index < 10000)
      to index (m, encodes, (whole, is)) =
          let there = index_is_centroid axis some m index (encodes.1, encodes.2) whole (sym is) in
          (subst (StandsFor 3 cell) there.0 encodes.0, there.1)

      from : (index : ℕ) → StandsFor 3 cell (centroid axis index) × (index < 10000) → Steps index
      from index h =
          let within = centroid_in_grid axis some index h.1 in
          (centroid axis index, (h.0, within.0, within.1), (centroid_on_step axis some index, sym (centroid_index axis some index)))

  pub size_encoded : (decimals most : ℕ) (cell : List ℕ) → decimals ≤ 6
      → Exactly (size_in_cell row column decimals most cell) (EncodesSize decimals most cell)
  size_encoded decimals most cell few = size_of_number cell decimals most (number_encoded decimals (pos 0) (pos most) cell few)

itself : {A F : Type 0} (r : Result A F) → Exactly r (λ y. r ≡ Ok y)
itself r = record { reported = λ y e. e; back = λ y e. e }

module _ (grid : Grid) (zone : ℕ) (columns : Columns) (number : ℕ) (cells : List (List ℕ)) where
  abbrev cell : ℕ → List ℕ
  cell k = cell_in columns cells k

  -- what the cells state
  abbrev pub block_in_cells : Result Block RowFault
  block_in_cells =
      index_in_cell number X grid.x (cell 0) >>= λ x. index_in_cell number Y grid.y (cell 1) >>= λ y. index_in_cell number Z grid.z (cell 2) >>= λ z.
      size_in_cell number Tonnes 3 (10 ^ 9 * 1000) (cell 3) >>= λ tonnes. size_in_cell number Grade 6 (10 ^ 12) (cell 4) >>= λ grade.
      Ok (block_with x y z (tonnes / 1000) grade zone)

  -- the result of a row within the maximum that is as wide as the header
  pub row_read : number ≤ 1000001 → length cells ≡ columns.width → row_of grid zone columns number cells ≡ block_in_cells
  unfolding row_of
  row_read few wide = rw (le-leb number 1000001 few, eq-eqb (length cells) columns.width wide) refl

  -- its result if its cells state this
  pub row_returns : (x y z tonnes grade : Result ℕ RowFault) → number ≤ 1000001 → length cells ≡ columns.width
      → x ≡ index_in_cell number X grid.x (cell 0) → y ≡ index_in_cell number Y grid.y (cell 1) → z ≡ index_in_cell number Z grid.z (cell 2)
      → tonnes ≡ size_in_cell number Tonnes 3 (10 ^ 9 * 1000) (cell 3) → grade ≡ size_in_cell number Grade 6 (10 ^ 12) (cell 4)
      → (x >>= λ x. y >>= λ y. z >>= λ z. tonnes >>= λ tonnes. grade >>= λ grade. Ok (block_with x y z (tonnes / 1000) grade zone))
      ≡ row_of grid zone columns number cells
  row_returns x y z tonnes grade few wide of_x of_y of_z of_tonnes of_grade = rw (row_read few wide, of_x, of_y, of_z, of_tonnes, of_grade) refl

  -- a row states a block step by step
  abbrev IsRead : Block → Type 0
  IsRead b =
      (number ≤ 1000001) × ((length cells ≡ columns.width) × ((x : ℕ) × (index_in_cell number X grid.x (cell 0) ≡ Ok x)
      × ((y : ℕ) × (index_in_cell number Y grid.y (cell 1) ≡ Ok y) × ((z : ℕ) × (index_in_cell number Z grid.z (cell 2) ≡ Ok z)
      × ((tonnes : ℕ) × (size_in_cell number Tonnes 3 (10 ^ 9 * 1000) (cell 3) ≡ Ok tonnes)
      × ((grade : ℕ) × (size_in_cell number Grade 6 (10 ^ 12) (cell 4) ≡ Ok grade)
      × (b ≡ block_with x y z (tonnes / 1000) grade zone)))))))

  pub row_is_read : Exactly (row_of grid zone columns number cells) IsRead
  unfolding row_of
  row_is_read =
      tested (a_fault number Whole TooManyRows) (λ e. leb-true number 1000001 (not-false (nat_le number 1000001) e))
      (λ h. rw (le-leb number 1000001 h) refl) (
      counted (a_fault number Whole Width) (length cells) columns.width (
      then_ (itself (index_in_cell number X grid.x (cell 0))) (λ x. then_ (itself (index_in_cell number Y grid.y (cell 1))) (λ y.
      then_ (itself (index_in_cell number Z grid.z (cell 2))) (λ z.
      then_ (itself (size_in_cell number Tonnes 3 (10 ^ 9 * 1000) (cell 3))) (λ tonnes.
      then_ (itself (size_in_cell number Grade 6 (10 ^ 12) (cell 4))) (λ grade.
      done (block_with x y z (tonnes / 1000) grade zone))))))))

  -- a row with a block is within the first 1,000,001 records, and its block is of the zone; a fault is of the row
  pub row_within : (b : Block) → row_of grid zone columns number cells ≡ Ok b → number ≤ 1000001
  row_within b e = (row_is_read.reported b e).0

  pub zone_of_row : (b : Block) → row_of grid zone columns number cells ≡ Ok b → b.zone ≡ min zone 63
  unfolding block_with
  zone_of_row b e = by (row_is_read.reported b e)
    where
      by : IsRead b → b.zone ≡ min zone 63
      by (few, (wide, (x, of_x, (y, of_y, (z, of_z, (tonnes, of_tonnes, (grade, of_grade, is))))))) = ap (λ (c : Block). c.zone) is

  row_of_row : IsOfRow number (row_of grid zone columns number cells)
  unfolding row_of
  row_of_row = by (nat_le number 1000001) (length cells == columns.width)
    where
      cells_of_row : IsOfRow number block_in_cells
      cells_of_row =
          step_of_row number (index_in_cell number X grid.x (cell 0)) _ (index_of_row number X grid.x (cell 0)) (λ x.
          step_of_row number (index_in_cell number Y grid.y (cell 1)) _ (index_of_row number Y grid.y (cell 1)) (λ y.
          step_of_row number (index_in_cell number Z grid.z (cell 2)) _ (index_of_row number Z grid.z (cell 2)) (λ z.
          step_of_row number (size_in_cell number Tonnes 3 (10 ^ 9 * 1000) (cell 3)) _ (size_of_row number Tonnes 3 (10 ^ 9 * 1000) (cell 3)) (λ tonnes.
          step_of_row number (size_in_cell number Grade 6 (10 ^ 12) (cell 4)) _ (size_of_row number Grade 6 (10 ^ 12) (cell 4)) (λ grade. tt)))))

      by : (few wide : Bool) → IsOfRow number (if not few then Err (a_fault number Whole TooManyRows)
          else (if not wide then Err (a_fault number Whole Width) else block_in_cells))
      by true true = cells_of_row
      by true false = refl
      by false wide = refl

  pub fault_of_row : (fault : RowFault) → row_of grid zone columns number cells ≡ Err fault → fault.row ≡ number
  fault_of_row fault e = subst (IsOfRow number) e row_of_row

  module _ (sx : 0 < grid.x.size) (sy : 0 < grid.y.size) (sz : 0 < grid.z.size) where
    pub read : (b : Block) → EncodesBlock grid zone columns number cells b → IsRead b
    read b s =
        let kg : b.kg * 1000 / 1000 ≡ b.kg = mul-div_left b.kg (omega arith) in
        let is : b ≡ block_with b.x b.y b.z (b.kg * 1000 / 1000) b.grade zone = rw (kg, sym s.own) (sym (block_again b)) in
        let x = (index_encoded number X grid.x (cell 0) sx).back b.x (s.x, b.x_in_grid) in
        let y = (index_encoded number Y grid.y (cell 1) sy).back b.y (s.y, b.y_in_grid) in
        let z = (index_encoded number Z grid.z (cell 2) sz).back b.z (s.z, b.z_in_grid) in
        let tonnes = (size_encoded number Tonnes 3 (10 ^ 9 * 1000) (cell 3) (omega arith)).back (b.kg * 1000) (s.tonnes, omega (arith, b.kg_in_range)) in
        let grade = (size_encoded number Grade 6 (10 ^ 12) (cell 4) (omega arith)).back b.grade (s.grade, b.grade_in_range) in
        (s.few, (s.wide, (b.x, x, (b.y, y, (b.z, z, (b.kg * 1000, tonnes, (b.grade, grade, is)))))))

    module _ (small : zone < 64) where
      encoded : (b : Block) → IsRead b → EncodesBlock grid zone columns number cells b
      unfolding block_with
      encoded b (few, (wide, (x, x_read, (y, y_read, (z, z_read, (tonnes, tonnes_read, (grade, grade_read, is))))))) =
          let at_x = (index_encoded number X grid.x (cell 0) sx).reported x x_read in
          let at_y = (index_encoded number Y grid.y (cell 1) sy).reported y y_read in
          let at_z = (index_encoded number Z grid.z (cell 2) sz).reported z z_read in
          let of_t = (size_encoded number Tonnes 3 (10 ^ 9 * 1000) (cell 3) (omega arith)).reported tonnes tonnes_read in
          let of_g = (size_encoded number Grade 6 (10 ^ 12) (cell 4) (omega arith)).reported grade grade_read in
          let is_x : b.x ≡ min x 9999 = ap (λ (c : Block). c.x) is in
          let is_y : b.y ≡ min y 9999 = ap (λ (c : Block). c.y) is in
          let is_z : b.z ≡ min z 9999 = ap (λ (c : Block). c.z) is in
          let is_kg : b.kg ≡ min (tonnes / 1000) (10 ^ 9) = ap (λ (c : Block). c.kg) is in
          let is_grade : b.grade ≡ min grade (10 ^ 12) = ap (λ (c : Block). c.grade) is in
          let rest : tonnes % 10 ^ 3 ≡ 0 = stands_multiple 3 (cell 3) (pos tonnes) (omega arith) of_t.0 in
          let kg : tonnes ≡ b.kg * 1000 = omega (arith, rest, is_kg, of_t.1) in
          record {
            few = few;
            wide = wide;
            x = subst (λ n. StandsFor 3 (cell 0) (centroid grid.x n)) (omega (arith, is_x, at_x.1)) at_x.0;
            y = subst (λ n. StandsFor 3 (cell 1) (centroid grid.y n)) (omega (arith, is_y, at_y.1)) at_y.0;
            z = subst (λ n. StandsFor 3 (cell 2) (centroid grid.z n)) (omega (arith, is_z, at_z.1)) at_z.0;
            tonnes = subst (λ n. StandsFor 3 (cell 3) (pos n)) kg of_t.0;
            grade = subst (λ n. StandsFor 6 (cell 4) (pos n)) (omega (arith, is_grade, of_g.1)) of_g.0;
            own = ap (λ (c : Block). c.zone) is ∙ min-eq_left (omega (arith, small));
          }

      pub row_encoded : Exactly (row_of grid zone columns number cells) (EncodesBlock grid zone columns number cells)
      row_encoded = as_ row_is_read encoded read

not_blank : (b : ℕ) → IsPlainByte b → is_blank b ≡ false
not_blank b plain = rw (ne_eqb b 32 (λ e. omega (arith, e, plain.0)), ne_eqb b 9 (λ e. omega (arith, e, plain.0))) refl

-- a field with only digits, points and minuses has no blanks, so its number is the trimmed cell's number
pub usual_number : (row : ℕ) (column : Column) (decimals : ℕ) (low high : ℤ) (field : List ℕ) (m : ℤ) → decimal_of decimals field ≡ Ok m
    → All IsPlainByte field → low ≤ℤ m → m ≤ℤ high → Ok m ≡ number_in_cell row column (decimal_within decimals low high (trimmed field))
unfolding decimal_within
usual_number row column decimals low high field m read plain above below =
    let kept : trimmed field ≡ field = all_kept field (All-weaker IsPlainByte (λ b. is_blank b ≡ false) not_blank field plain) in
    let from : int_le low m ≡ true = grind (arith, ints, above) in
    let to : int_le m high ≡ true = grind (arith, ints, below) in
    rw (kept, read, from, to) refl
