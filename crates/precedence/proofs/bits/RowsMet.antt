-- What lanes meet of the rows of a cone.
use Rattle.std.proofs.Common.{◌≡◌, ℕ, zero, suc, ◌+◌, ◌-◌, ◌^◌, ◌<◌, ◌≤◌, true, List, [], ◌∷◌, length, get_or, min, nat_lt, nat_le, ⊎_elim, refl, sym, ap, subst, ◌∙◌, arith}
use Rattle.std.specs.List.Sorted.{IsStrictlyIncreasing}
use Rattle.std.proofs.lemmas.Bool.{cases_lt, both_ways, and_parts, or_cases, leb-true, ltb-true}
use Rattle.std.proofs.lemmas.List.{get_or_default}
use Rattle.precedence.specs.inner.lanes.Bits.{has_bit}
use Rattle.precedence.specs.inner.lanes.Windows.{Meets}
use Rattle.precedence.specs.inner.Rows.{is_in_row, is_in_rows, pasts, start_of, LieApart}
use Rattle.precedence.specs.declared.cones.cone_rows.Row.{Row}
use Rattle.precedence.specs.declared.cones.cone_table.ConeTable.{ConeTable}
use Rattle.precedence.specs.declared.lanes.strip.Strip.{Strip}
use Rattle.precedence.proofs.bits.Dropping.{Among}
use Rattle.precedence.proofs.bits.Gathered.{HasSome}
use Rattle.precedence.proofs.Members.{some_of}
use Rattle.precedence.proofs.ranges.RowOfCode.{in_this_row, past_is, past_some, row_is}
use Rattle.precedence.proofs.ranges.RangesOfRows.{pasts_rise}
use Rattle.precedence.proofs.ranges.Starts.{start_before_in}

-- a code in the rows is in one of them
abbrev pub SomeRow : List Row → ℕ → Type 0
SomeRow rows c = (j : ℕ) × (j < length rows) × ((d : Row) → ((get_or rows j d).first ≤ c) × (c < (get_or rows j d).past))

pub some_row : (rows : List Row) (c : ℕ) → is_in_rows 0 rows c ≡ true → SomeRow rows c
some_row [] c is = absurd (both_ways _ refl is)
some_row (row ∷ rows) c is = ⊎_elim
    (λ here.
    let h = and_parts (nat_le (0 + row.first) c) (nat_lt c (0 + row.past)) here in
    (0, omega arith, λ d. (omega (arith, leb-true (0 + row.first) c h.0), omega (arith, ltb-true c (0 + row.past) h.1))))
    (λ later. let h = some_row rows c later in (suc h.0, omega (arith, h.1), h.2))
    (or_cases (is_in_row 0 row c) (is_in_rows 0 rows c) is)

-- a later row starts no earlier
from_low : (low : ℕ) (rows : List Row) (high k : ℕ) (d : Row) → LieApart low rows high → k < length rows → low ≤ (get_or rows k d).first
from_low low [] high k d apart lt = absurd (omega arith)
from_low low (row ∷ rows) high zero d apart lt = apart.0
from_low low (row ∷ rows) high (suc k) d apart lt = omega (arith, apart.0, apart.1, from_low row.past rows high k d apart.2 (omega arith))

pub begins_later : (low : ℕ) (rows : List Row) (high j k : ℕ) (d : Row) → LieApart low rows high → j ≤ k → k < length rows
    → (get_or rows j d).first ≤ (get_or rows k d).first
begins_later low [] high j k d apart le lt = absurd (omega arith)
begins_later low (row ∷ rows) high zero zero d apart le lt = omega arith
begins_later low (row ∷ rows) high zero (suc k) d apart le lt = omega (arith, apart.1, from_low row.past rows high k d apart.2 (omega arith))
begins_later low (row ∷ rows) high (suc j) zero d apart le lt = absurd (omega arith)
begins_later low (row ∷ rows) high (suc j) (suc k) d apart le lt = begins_later row.past rows high j k d apart.2 (omega arith) (omega arith)

-- a row that has a distance at most 63 below `most` is none of those that are past
not_past : (rows : List Row) (high most rest j low : ℕ) → LieApart 0 rows high → j < length rows → low ≤ start_of (most - 63 + 1) (pasts rows) → most ≤ rest + 63
    → ((d : Row) → ((get_or rows j d).first ≤ rest) × (rest < (get_or rows j d).past)) → low ≤ j
not_past rows high most rest j low apart lt low_is near there = ⊎_elim
    (λ less.
    let d = some_of rows j lt in
    absurd (omega (
      arith,
      start_before_in (most - 63 + 1) j (pasts rows) (omega (arith, low_is, less)),
      past_is rows j d lt,
      there d,
      past_some rows high j apart lt,
    )))
    (λ le. le)
    (cases_lt j low)

-- and one that has a distance up to `most` comes before one that begins later
not_begun : (rows : List Row) (high most rest j up : ℕ) → LieApart 0 rows high → j < length rows → (up < length rows → (d : Row) → most < (get_or rows up d).first)
    → rest ≤ most → ((d : Row) → ((get_or rows j d).first ≤ rest) × (rest < (get_or rows j d).past)) → j < up
not_begun rows high most rest j up apart lt ended near there = ⊎_elim
    (λ less. less)
    (λ le.
    let d = some_of rows j lt in
    absurd (omega (arith, ended (omega (arith, le, lt)) d, begins_later 0 rows high up j d apart le lt, there d)))
    (cases_lt j up)

-- a lane sees, at one of the strip's offsets up to `most`, a block from which the remainder is in the row
pub record MeetsRow (strip : Strip) (rows : List Row) (most row i : ℕ) : Type 0 where
  pub offset : ℕ
  pub within : offset < strip.len
  pub lower : offset ≤ most
  pub bit : has_bit strip.word (i + offset) ≡ true
  pub below : (d : Row) → ((get_or rows row d).first ≤ most - offset) × (most - offset < (get_or rows row d).past)

module _ (strip : Strip) (rows : List Row) (most : ℕ) where
  -- the offsets from which the remainder is in one row
  module _ (number : ℕ) (row : Row) (lt : number < length rows) (is : row ≡ get_or rows number row) (some : row.first < row.past) (begun : row.first ≤ most)
      (first past : ℕ) (first_is : first ≡ most - min most (row.past - 1)) (past_is : past ≡ min (most - row.first + 1) strip.len) where
    pub row_met : (i : ℕ) → first < past → HasSome strip.word first (past - first) i → MeetsRow strip rows most number i
    row_met i here has = record {
      offset = has.0;
      within = omega (arith, has.1, has.2, first_is, past_is);
      lower = omega (arith, has.1, has.2, first_is, past_is);
      bit = has.3;
      below = λ d. rw (row_is rows number row lt is d) (omega (arith, has.1, has.2, first_is, past_is), omega (arith, has.1, has.2, first_is, past_is));
    }

    pub met_row : (i : ℕ) → MeetsRow strip rows most number i → HasSome strip.word first (past - first) i
    met_row i met =
        let h = met.below row in (
          met.offset,
          omega (arith, h.1, ap (λ (r : Row). r.past) is, first_is, met.lower),
          omega (arith, h.0, h.1, ap (λ (r : Row). r.first) is, ap (λ (r : Row). r.past) is, first_is, past_is, met.lower, met.within),
          met.bit,
        )

    pub none_met : past ≤ first → (i : ℕ) → MeetsRow strip rows most number i → ⊥
    none_met no_offset i met = let h = met_row i met in omega (arith, h.1, h.2)

  -- the same meeting by the strip's distances
  pub meets_of_met : (low up i : ℕ) → up ≤ length rows → Among (MeetsRow strip rows most) low up i → (e : ℕ) × Meets strip rows (strip.start + most) i e
  meets_of_met low up i inside w =
      let met = w.3 in
      let lt : w.0 < length rows = omega (arith, w.2) in
      let offset_is : strip.start + met.offset - strip.start ≡ met.offset = omega arith in
      let rest_is : strip.start + most - (strip.start + met.offset) ≡ most - met.offset = omega arith in
      let row = get_or rows w.0 (some_of rows w.0 lt) in
      let here = met.below (some_of rows w.0 lt) in (
        strip.start + met.offset,
        record {
          sees = record { distance = (omega arith, omega (arith, met.within)); bit = ap (λ k. has_bit strip.word (i + k)) offset_is ∙ met.bit };
          lower = omega (arith, met.lower);
          below = ap (λ c. is_in_rows 0 rows c) rest_is
              ∙ in_this_row 0 (most - met.offset) w.0 rows row lt (get_or_default rows w.0 _ row lt) (omega (arith, here.0)) (omega (arith, here.1));
        },
      )

  -- the rows before the first one end too early, and the rows from the last one on start too late
  pub met_of_meets : (high low up i e : ℕ) → LieApart 0 rows high → low ≤ start_of (most - 63 + 1) (pasts rows)
      → (up < length rows → (d : Row) → most < (get_or rows up d).first)
      → Meets strip rows (strip.start + most) i e → Among (MeetsRow strip rows most) low up i
  met_of_meets high low up i e apart low_is ended meets =
      let start_le : strip.start ≤ e = meets.sees.distance.0 in
      let end_lt : e < strip.start + strip.len = meets.sees.distance.1 in
      let lower : e ≤ strip.start + most = meets.lower in
      let few : strip.len ≤ 64 = strip.few in
      let rest_is : strip.start + most - e ≡ most - (e - strip.start) = omega arith in
      let there = some_row rows (most - (e - strip.start)) (ap (λ c. is_in_rows 0 rows c) (sym rest_is) ∙ meets.below) in (
        there.0,
        not_past rows high most (most - (e - strip.start)) there.0 low apart there.1 low_is (omega arith) there.2,
        not_begun rows high most (most - (e - strip.start)) there.0 up apart there.1 ended (omega arith) there.2,
        record { offset = e - strip.start; within = omega arith; lower = omega arith; bit = meets.sees.bit; below = there.2 },
      )

-- the ends of a table's rows ascend
pub past_rises : (table : ConeTable) (past : List ℕ) → past ≡ table.past.items → IsStrictlyIncreasing past
past_rises table past is =
    subst (λ ps. IsStrictlyIncreasing ps) (sym (is ∙ table.all_past)) (pasts_rise 0 table.rows.items (10 ^ 15) table.in_order)
