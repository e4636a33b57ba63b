-- The row that contains a code.
use Rattle.std.proofs.Common.{◌≡◌, ℕ, zero, suc, ◌+◌, ◌-◌, ◌<◌, ◌≤◌, ◌&&◌, ◌||◌, true, false, List, [], ◌∷◌, length, drop, get_or, nat_lt, nat_le, sym, ap, subst, ◌∙◌, arith, ⊎_elim}
use Rattle.std.proofs.Math.Bool.{or-true}
use Rattle.std.proofs.Math.Seq.{drop-cons}
use Rattle.std.proofs.lemmas.Bool.{cases_lt, lt-ltb, le-leb}
use Rattle.std.proofs.lemmas.List.{drop_all, get_or-map, get_or_default, length-map}
use Rattle.precedence.specs.inner.Rows.{is_in_row, is_in_rows, pasts, start_of, LieApart}
use Rattle.precedence.specs.declared.cones.cone_rows.Row.{Row}
use Rattle.precedence.proofs.Members.{some_of}
use Rattle.precedence.proofs.ranges.RangesOfRows.{apart_at, before_rows, pasts_rise, skip}
use Rattle.precedence.proofs.ranges.Starts.{from_start, start_before_in, start_within}

in_some_row : (from c i : ℕ) (rows : List Row) (d : Row) → i < length rows → is_in_row from (get_or rows i d) c ≡ true → is_in_rows from rows c ≡ true
in_some_row from c i [] d lt is = absurd (omega arith)
in_some_row from c zero (row ∷ rows) d lt is = ap (λ b. b || is_in_rows from rows c) is
in_some_row from c (suc i) (row ∷ rows) d lt is =
    ap (λ b. is_in_row from row c || b) (in_some_row from c i rows d (omega arith) is) ∙ or-true (is_in_row from row c)

-- a code is in a row
pub in_this_row : (from c i : ℕ) (rows : List Row) (row : Row) → i < length rows → row ≡ get_or rows i row → from + row.first ≤ c → c < from + row.past
    → is_in_rows from rows c ≡ true
in_this_row from c i rows row lt at begun less =
    let low : nat_le (from + row.first) c ≡ true = le-leb _ _ begun in
    let up : nat_lt c (from + row.past) ≡ true = lt-ltb _ _ less in
    in_some_row from c i rows row lt (subst (λ (r : Row). is_in_row from r c ≡ true) at (λ j. low j && up j))

-- a row by its index
pub row_is : (rows : List Row) (i : ℕ) (row : Row) → i < length rows → row ≡ get_or rows i row → (d : Row) → get_or rows i d ≡ row
row_is rows i row lt at d = get_or_default rows i d row lt ∙ sym at

-- the ends of the rows
pub long : (rows : List Row) → length (pasts rows) ≡ length rows
long rows = length-map rows (λ (row : Row). row.past)

pub past_is : (rows : List Row) (i : ℕ) (d : Row) → i < length rows → get_or (pasts rows) i 0 ≡ (get_or rows i d).past
past_is rows i d lt = get_or-map (λ (row : Row). row.past) rows i d 0 lt

pub past_some : (rows : List Row) (high i : ℕ) → LieApart 0 rows high → i < length rows → 0 < get_or (pasts rows) i 0
past_some rows high i apart lt =
    let d = some_of rows i lt in
    omega (arith, (apart_at 0 rows high i d apart lt).0, past_is rows i d lt)

-- a code is in no row, if the rows before one end at it or before and that row starts after it
pub in_none : (from c high i : ℕ) (rows : List Row) → LieApart 0 rows high → i ≤ length rows → ((k : ℕ) → k < i → from + get_or (pasts rows) k 0 ≤ c)
    → (i < length rows → (d : Row) → c < from + (get_or rows i d).first) → is_in_rows from rows c ≡ false
in_none from c high i rows apart inside past before =
    skip from c i rows inside past
    ∙ ⊎_elim
    (λ lt.
    let d = some_of rows i lt in
    let row = get_or rows i d in
    let at = apart_at 0 rows high i d apart lt in
    ap (λ rs. is_in_rows from rs c) (drop-cons rows i d lt)
    ∙ before_rows from c row.first (row ∷ drop (suc i) rows) high (omega arith, at.0, at.1) (before lt d))
    (λ le. ap (λ rs. is_in_rows from rs c) (drop_all i rows le))
    (cases_lt i (length rows))

module _ (from code high : ℕ) (rows : List Row) (apart : LieApart 0 rows high) where
  abbrev number : ℕ
  number = start_of (code - from + 1) (pasts rows)

  -- the row does not end before the code
  pub not_past : (i : ℕ) (row : Row) → i ≡ number → i < length rows → row ≡ get_or rows i row → from + row.first ≤ code
      → code < from + row.past
  not_past i row is lt at begun =
      omega (
        arith,
        from_start (code - from + 1) i (pasts rows) (pasts_rise 0 rows high apart) (omega arith) (omega (arith, long rows)),
        past_is rows i row lt,
        ap (λ (r : Row). r.past) at,
      )

  -- each row before it does
  pub before_past : (k : ℕ) → k < number → from + get_or (pasts rows) k 0 ≤ code
  before_past k lt =
      let within : k < length rows = omega (arith, start_within (code - from + 1) (pasts rows), long rows) in
      omega (arith, past_some rows high k apart within, start_before_in (code - from + 1) k (pasts rows) lt)

-- a row has codes
pub some_codes : (rows : List Row) (high i : ℕ) (row : Row) → LieApart 0 rows high → i < length rows → row ≡ get_or rows i row → row.first < row.past
some_codes rows high i row apart lt at =
    let some = (apart_at 0 rows high i row apart lt).0 in
    omega (arith, some, ap (λ (r : Row). r.first) at, ap (λ (r : Row). r.past) at)

module _ (from code high i : ℕ) (rows : List Row) (apart : LieApart 0 rows high) (is : i ≡ start_of (code - from + 1) (pasts rows)) where
  pub above_within : i ≤ length rows
  above_within = omega (arith, is, start_within (code - from + 1) (pasts rows), long rows)

  pub none_above : (c : ℕ) → code ≤ c → (i < length rows → (d : Row) → c < from + (get_or rows i d).first) → is_in_rows from rows c ≡ false
  none_above c le before =
      in_none from c high i rows apart above_within
      (λ k lt. let past = before_past from code high rows apart k (omega (arith, is, lt)) in omega (arith, past, le)) before
