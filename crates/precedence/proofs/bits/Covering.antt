-- What lanes meet by covers, and by the strips of all tables.
use Rattle.std.proofs.Common.{◌≡◌, ℕ, ◌+◌, ◌-◌, ◌<◌, ◌≤◌, true, List, length, get_or, max, sym, ap, subst, ◌∙◌, arith}
use Rattle.std.proofs.lemmas.List.{get_or_default}
use Rattle.precedence.specs.inner.lanes.Bits.{has_bit}
use Rattle.precedence.specs.inner.lanes.Windows.{IsCover, Meets, MeetsAny, MeetsIn, MeetsTable, SeesAt}
use Rattle.precedence.specs.inner.Rows.{is_in_rows}
use Rattle.precedence.specs.declared.cones.cone_rows.Row.{Row}
use Rattle.precedence.specs.declared.cones.cone_table.ConeTable.{ConeTable}
use Rattle.precedence.specs.declared.lanes.strip.Strip.{Strip}
use Rattle.precedence.specs.declared.lanes.strips.Cover.{Cover}
use Rattle.precedence.specs.declared.lanes.strips.Strips.{Strips}
use Rattle.precedence.proofs.bits.StripsMet.{meets_at}
use Rattle.precedence.proofs.ranges.RowOfCode.{in_this_row}

-- a cover from whose first distance a row has begun, and from whose last it has not ended, has a distance from which the remainder is in the row
pub row_covers : (rows : List Row) (number : ℕ) (row : Row) (first past d : ℕ) → number < length rows → row ≡ get_or rows number row → row.first < row.past
    → first < past → row.first + first ≤ d → d < row.past + past - 1
    → (e : ℕ) × (first ≤ e) × (e < past) × (e ≤ d) × (is_in_rows 0 rows (d - e) ≡ true)
row_covers rows number row first past d lt is some covered begun upto = (
  max first (d - (row.past - 1)),
  omega arith,
  omega arith,
  omega arith,
  in_this_row 0 (d - max first (d - (row.past - 1))) number rows row lt is (omega arith) (omega arith),
)

module _ (tables : List ConeTable) (by_table : List Strips) (each : length by_table ≡ length tables) where
  -- the rows of the table with this number
  same_rows : (n : ℕ) (table t : ConeTable) → n < length tables → table ≡ get_or tables n table → table.rows.items ≡ (get_or tables n t).rows.items
  same_rows n table t lt is = ap (λ (u : ConeTable). u.rows.items) (is ∙ get_or_default tables n table t lt)

  same_strips : (n : ℕ) (strips s : Strips) → n < length by_table → strips ≡ get_or by_table n strips → strips.strips.items ≡ (get_or by_table n s).strips.items
  same_strips n strips s lt is = ap (λ (u : Strips). u.strips.items) (is ∙ get_or_default by_table n strips s lt)

  pub cover_meets : (lanes i d : ℕ) (cover : Cover) (table : ConeTable) → cover.table < length tables → table ≡ get_or tables cover.table table
      → IsCover lanes by_table cover → has_bit lanes i ≡ true
      → (e : ℕ) × (cover.first ≤ e) × (e < cover.past) × (e ≤ d) × (is_in_rows 0 table.rows.items (d - e) ≡ true) → MeetsAny tables by_table d i
  cover_meets lanes i d cover table lt is covers lane h =
      let some : cover.first < cover.past = omega (arith, h.1, h.2) in (
        cover.table,
        (
          lt,
          λ t s. (
            cover.strip,
            (
              covers.strip s some,
              h.0,
              λ u. record {
                sees = covers.all i h.0 s u h.1 h.2 lane;
                lower = h.3;
                below = subst (λ rows. is_in_rows 0 rows (d - h.0) ≡ true) (same_rows cover.table table t lt is) h.4;
              },
            ),
          ),
        ),
      )

  -- by the strips of one table
  pub table_meets : (distance i n : ℕ) (table : ConeTable) (strips : Strips) → n < length tables → table ≡ get_or tables n table
      → strips ≡ get_or by_table n strips → MeetsIn strips.strips.items table.rows.items distance i
      → (t : ConeTable) (s : Strips) → MeetsIn (get_or by_table n s).strips.items (get_or tables n t).rows.items distance i
  table_meets distance i n table strips lt table_is strips_is meets t s =
      subst (λ ss. MeetsIn ss (get_or tables n t).rows.items distance i) (same_strips n strips s (omega (arith, each)) strips_is)
      (subst (λ rows. MeetsIn strips.strips.items rows distance i) (same_rows n table t lt table_is) meets)

  pub strip_meets : (distance i n k : ℕ) (table : ConeTable) (strips : Strips) (strip : Strip) → n < length tables → table ≡ get_or tables n table
      → strips ≡ get_or by_table n strips → k < length strips.strips.items → strip ≡ get_or strips.strips.items k strip
      → (e : ℕ) × Meets strip table.rows.items distance i e → MeetsAny tables by_table distance i
  strip_meets distance i n k table strips strip lt table_is strips_is k_lt strip_is meets =
      (n, (lt, table_meets distance i n table strips lt table_is strips_is (k, meets_at strips.strips.items table.rows.items distance k i strip k_lt strip_is meets)))

  pub meets_table : (distance n i : ℕ) (table : ConeTable) (strips : Strips) → n < length tables → table ≡ get_or tables n table
      → strips ≡ get_or by_table n strips → MeetsTable tables by_table distance n i → MeetsIn strips.strips.items table.rows.items distance i
  meets_table distance n i table strips lt table_is strips_is meets =
      subst (λ (s : Strips). MeetsIn s.strips.items table.rows.items distance i) (sym strips_is)
      (subst (λ (t : ConeTable). MeetsIn (get_or by_table n strips).strips.items t.rows.items distance i) (sym table_is) (meets.1 table strips))

-- a cover of a strip
pub cover_is : (by_table : List Strips) (lanes n k : ℕ) (strips : Strips) (strip : Strip) (cover : Cover) → n < length by_table → strips ≡ get_or by_table n strips
    → k < length strips.strips.items → strip ≡ get_or strips.strips.items k strip → cover.table ≡ n → cover.strip ≡ k
    → strip.start ≤ cover.first → cover.past ≤ strip.start + strip.len
    → ((i e : ℕ) → cover.first ≤ e → e < cover.past → has_bit lanes i ≡ true → has_bit strip.word (i + (e - strip.start)) ≡ true)
    → IsCover lanes by_table cover
cover_is by_table lanes n k strips strip cover lt strips_is k_lt strip_is table_is number_is low up all = record {
  table = λ _. omega (arith, lt, table_is);
  strip = λ s _. omega (arith, k_lt, number_is, ap length (there s));
  all = λ i e s u from before lane. subst (λ (v : Strip). SeesAt v i e) (strip_there s u) (record { distance = (omega arith, omega arith); bit = all i e from before lane });
}
  where
    there : (s : Strips) → strips.strips.items ≡ (get_or by_table cover.table s).strips.items
    there s = ap (λ (u : Strips). u.strips.items) (strips_is ∙ get_or_default by_table n strips s lt) ∙ ap (λ m. (get_or by_table m s).strips.items) (sym table_is)

    strip_there : (s : Strips) (u : Strip) → strip ≡ get_or (get_or by_table cover.table s).strips.items cover.strip u
    strip_there s u = strip_is ∙ get_or_default strips.strips.items k strip u k_lt ∙ ap (λ ss. get_or ss k u) (there s)
        ∙ ap (λ m. get_or (get_or by_table cover.table s).strips.items m u) (sym number_is)
