-- The identifiers in rows are the ranges of the rows, one after the other.
use Rattle.std.proofs.Common.{◌≡◌, ℕ, zero, suc, ◌+◌, ◌-◌, ◌<◌, ◌≤◌, ◌&&◌, ◌||◌, Bool, true, false, List, [], ◌∷◌, ◌++◌, filter, length, drop, get_or, nat_lt, nat_le, max, refl, sym, ap, subst, ◌∙◌, arith, length-drop, ⊎_elim, if◌then◌else◌}
use Rattle.std.specs.List.{range_with_len}
use Rattle.std.specs.List.Sorted.{IsStrictlyIncreasing}
use Rattle.std.proofs.Math.Bool.{and-false}
use Rattle.std.proofs.Math.Seq.{drop-cons}
use Rattle.std.proofs.lemmas.List.{drop-map, get_or-drop, drop-drop}
use Rattle.std.proofs.lemmas.Bool.{cases_lt, lt-ltb, le-ltb, le-leb, lt-leb, or_parts}
use Rattle.precedence.specs.Cone.{positions_where}
use Rattle.precedence.specs.inner.Rows.{is_in_row, is_in_rows, pasts, start_of, LieApart}
use Rattle.precedence.specs.inner.Lists.{range}
use Rattle.precedence.specs.declared.cones.cone_rows.Row.{Row}
use Rattle.precedence.proofs.PositionsWhere.{nowhere, where_at}
use Rattle.precedence.proofs.ranges.Starts.{from_start, no_less, start_before_in, start_grows, start_within}

-- ---- parts of 0, 1, 2, ..

pub range_more : (a n k : ℕ) → a + n ≡ k → range_with_len a (n + 1) ≡ range_with_len a n ++ k ∷ []
range_more a zero k is = ap (λ k. k ∷ []) (omega arith)
range_more a (suc n) k is =
    let more : suc n + 1 ≡ suc (n + 1) = omega arith in
    ap (range_with_len a) more ∙ ap (λ xs. a ∷ xs) (range_more (a + 1) n k (omega arith))

-- the numbers that pass a test are a range, followed by the numbers that pass another test
filter_range : (p q : ℕ → Bool) (a b n m : ℕ) → ((k : ℕ) → k < a → p k ≡ false) → ((k : ℕ) → a ≤ k → k < b → p k ≡ true)
    → ((k : ℕ) → b ≤ k → k < n + m → p k ≡ q k) → ((k : ℕ) → k < b → q k ≡ false) → a ≤ b → b ≤ n + m
    → filter p (range_with_len n m) ≡ range_with_len (max a n) (b - max a n) ++ filter q (range_with_len n m)
filter_range p q a b n zero before inside same none le long =
    let empty : b - max a n ≡ 0 = omega arith in ap (λ k. range_with_len (max a n) k ++ []) (sym empty)
filter_range p q a b n (suc m) before inside same none le long =
    let rest = filter_range p q a b (n + 1) m before inside (λ k h lt. same k h (omega arith)) none le (omega arith) in
    let left = filter q (range_with_len (n + 1) m) in
    ⊎_elim
    (λ first. ⊎_elim
    (λ early.
    let begin : max a (n + 1) ≡ max a n = omega arith in
    (λ j. if before n early j then n ∷ rest j else rest j)
    ∙ (λ j. range_with_len (begin j) (b - begin j) ++ (if sym (none n first) j then n ∷ left else left)))
    (λ late.
    let next : max a (n + 1) ≡ n + 1 = omega arith in
    let here : max a n ≡ n = omega arith in
    let len : suc (b - (n + 1)) ≡ b - n = omega arith in
    (λ j. if inside n late first j then n ∷ rest j else rest j)
    ∙ (λ j. n ∷ (range_with_len (next j) (b - next j) ++ (if sym (none n first) j then n ∷ left else left)))
    ∙ (λ j. range_with_len n (len j) ++ (if q n then n ∷ left else left))
    ∙ (λ j. range_with_len (sym here j) (b - sym here j) ++ (if q n then n ∷ left else left)))
    (cases_lt n a))
    (λ beyond.
    let empty : b - max a (n + 1) ≡ 0 = omega arith in
    let none_left : b - max a n ≡ 0 = omega arith in
    let only : filter p (range_with_len (n + 1) m) ≡ left = rest ∙ ap (λ k. range_with_len (max a (n + 1)) k ++ left) empty in
    (λ j. if same n beyond (omega arith) j then n ∷ only j else only j)
    ∙ ap (λ k. range_with_len (max a n) k ++ (if q n then n ∷ left else left)) (sym none_left))
    (cases_lt n b)

-- ---- codes outside rows

-- a code before all rows is in none
pub before_rows : (from c low : ℕ) (rows : List Row) (high : ℕ) → LieApart low rows high → c < from + low → is_in_rows from rows c ≡ false
before_rows from c low [] high h lt = refl
before_rows from c low (row ∷ rows) high h lt =
    let out : nat_le (from + row.first) c ≡ false = lt-leb _ _ (omega (arith, h.0)) in
    let rest = before_rows from c row.past rows high h.2 (omega (arith, h.0, h.1)) in
    λ j. (out j && nat_lt c (from + row.past)) || rest j

-- a code after a row is not in it
after_row : (from c : ℕ) (row : Row) → from + row.past ≤ c → is_in_row from row c ≡ false
after_row from c row le =
    ap (λ b. nat_le (from + row.first) c && b) (le-ltb c (from + row.past) le) ∙ and-false (nat_le (from + row.first) c)

-- so the code is in the other rows, or in none
pub skip : (from c n : ℕ) (rows : List Row) → n ≤ length rows → ((k : ℕ) → k < n → from + get_or (pasts rows) k 0 ≤ c)
    → is_in_rows from rows c ≡ is_in_rows from (drop n rows) c
skip from c zero rows le past = refl
skip from c (suc n) [] le past = absurd (omega arith)
skip from c (suc n) (row ∷ rows) le past =
    ap (λ b. b || is_in_rows from rows c) (after_row from c row (past 0 (omega arith)))
    ∙ skip from c n rows (omega arith) (λ k lt. past (suc k) (omega arith))

pub remaining_rows : (from c n : ℕ) (rows : List Row) → is_in_rows from rows c ≡ false → is_in_rows from (drop n rows) c ≡ false
remaining_rows from c zero rows none = none
remaining_rows from c (suc n) [] none = none
remaining_rows from c (suc n) (row ∷ rows) none = remaining_rows from c n rows (or_parts (is_in_row from row c) (is_in_rows from rows c) none).1

-- ---- the next row

pub pasts_rise : (low : ℕ) (rows : List Row) (high : ℕ) → LieApart low rows high → IsStrictlyIncreasing (pasts rows)
pasts_rise low [] high h k lt = absurd (omega arith)
pasts_rise low (row ∷ []) high h k lt = absurd (omega arith)
pasts_rise low (row ∷ next ∷ rows) high h zero lt = omega (arith, h.2.0, h.2.1)
pasts_rise low (row ∷ next ∷ rows) high h (suc k) lt =
    let later = pasts_rise row.past (next ∷ rows) high h.2 k (omega arith) in
    let more : suc (k + 1) ≡ suc k + 1 = omega arith in
    let P : ℕ → Type 0 = λ n. get_or (pasts (row ∷ next ∷ rows)) (suc k) 0 < get_or (pasts (row ∷ next ∷ rows)) n 0 in
    subst P more later

pub apart_at : (low : ℕ) (rows : List Row) (high i : ℕ) (d : Row) → LieApart low rows high → i < length rows
    → ((get_or rows i d).first < (get_or rows i d).past) × LieApart (get_or rows i d).past (drop (suc i) rows) high
apart_at low [] high i d h lt = absurd (omega arith)
apart_at low (row ∷ rows) high zero d h lt = (h.1, h.2)
apart_at low (row ∷ rows) high (suc i) d h lt = apart_at row.past rows high i d h.2 (omega arith)

past_at : (rows : List Row) (i k : ℕ) → get_or (pasts (drop i rows)) k 0 ≡ get_or (pasts rows) (i + k) 0
past_at rows i k = ap (λ ps. get_or ps k 0) (sym (drop-map (λ row. row.past) i rows)) ∙ get_or-drop i (pasts rows) k 0

pub no_rows : (from n : ℕ) (codes : List ℕ) → positions_where (is_in_rows from []) n codes ≡ []
no_rows from n codes = nowhere n codes

-- from a row to the next row that has codes, the row's range is appended
module _ (from high : ℕ) (rows : List Row) (codes : List ℕ) (apart : LieApart 0 rows high) (rising : IsStrictlyIncreasing codes)
    (i j past : ℕ) (row : Row) (is : row ≡ get_or rows i row) (within : i < length rows) (later : i < j) (inside : j ≤ length rows)
    (found : start_of (from + row.past) codes ≤ past)
    (outside : (k : ℕ) → start_of (from + row.past) codes ≤ k → k < past → k < length codes → is_in_rows from rows (get_or codes k 0) ≡ false)
    (skipped : (k : ℕ) → i < k → k < j → past < length codes → get_or (pasts rows) k 0 ≤ get_or codes past 0 - from) where
  abbrev others : List Row
  others = drop (suc i) rows

  abbrev code : ℕ → ℕ
  code k = get_or codes k 0

  abbrev in_all : ℕ → Bool
  in_all k = is_in_rows from (row ∷ others) (code k)

  abbrev in_rest : ℕ → Bool
  in_rest k = is_in_rows from (drop (j - suc i) others) (code k)

  abbrev first_place : ℕ
  first_place = start_of (from + row.first) codes

  abbrev past_place : ℕ
  past_place = start_of (from + row.past) codes

  here : (row.first < row.past) × LieApart row.past others high
  here =
      let P : Row → Type 0 = λ r. (r.first < r.past) × LieApart r.past others high in
      subst P (sym is) (apart_at 0 rows high i row apart within)

  whole : drop i rows ≡ row ∷ others
  whole = drop-cons rows i row within ∙ ap (λ r. r ∷ others) (sym is)

  rest : drop (j - suc i) others ≡ drop j rows
  rest =
      let last : suc i + (j - suc i) ≡ j = omega arith in
      drop-drop (j - suc i) (suc i) rows ∙ ap (λ n. drop n rows) last

  before : (k : ℕ) → k < first_place → in_all k ≡ false
  before k lt = before_rows from (code k) row.first (row ∷ others) high (omega arith, here.0, here.1)
      (start_before_in (from + row.first) k codes lt)

  within_row : (k : ℕ) → first_place ≤ k → k < past_place → in_all k ≡ true
  within_row k le lt =
      let few = start_within (from + row.past) codes in
      let low = le-leb _ _ (from_start (from + row.first) k codes rising le (omega arith)) in
      let up = lt-ltb _ _ (start_before_in (from + row.past) k codes lt) in
      λ t. (low t && up t) || is_in_rows from others (code k)

  -- the blocks passed over are in no row
  passed : (k : ℕ) → past_place ≤ k → k < past → k < length codes → in_all k ≡ in_rest k
  passed k le lt within =
      let lies = outside k le lt within in
      ap (λ rs. is_in_rows from rs (code k)) (sym whole) ∙ remaining_rows from (code k) i rows lies
      ∙ sym (ap (λ rs. is_in_rows from rs (code k)) rest ∙ remaining_rows from (code k) j rows lies)

  -- the rows passed over have no code
  beyond : (k : ℕ) → past ≤ k → k < length codes → in_all k ≡ in_rest k
  beyond k le lt =
      ap (λ b. b || is_in_rows from others (code k)) (after_row from (code k) row (from_start (from + row.past) k codes rising (omega (arith, found)) lt))
      ∙ skip from (code k) (j - suc i) others (omega (arith, length-drop (suc i) rows)) (λ m less.
      let gap = skipped (suc i + m) (omega arith) (omega arith) (omega arith) in
      let far = from_start (from + row.past) past codes rising found (omega arith) in
      omega (arith, gap, far, past_at rows (suc i) m, no_less codes past k rising le lt))

  none : (k : ℕ) → k < past_place → in_rest k ≡ false
  none k lt = remaining_rows from (code k) (j - suc i) others
      (before_rows from (code k) row.past others high here.1 (start_before_in (from + row.past) k codes lt))

  pub adds_range : positions_where (is_in_rows from (drop i rows)) 0 codes ≡ range from row codes
      ++ positions_where (is_in_rows from (drop j rows)) 0 codes
  adds_range =
      let begin : max first_place 0 ≡ first_place = omega arith in
      rw (whole, ← rest) (where_at (is_in_rows from (row ∷ others)) 0 codes
      ∙ filter_range in_all in_rest first_place past_place 0 (length codes) before within_row (λ k le lt. ⊎_elim
      (λ near. passed k le near (omega arith))
      (λ far. beyond k far (omega arith))
      (cases_lt k past)) none
      (start_grows (from + row.first) (from + row.past) codes rising (omega (arith, here.0)))
      (omega (arith, start_within (from + row.past) codes))
      ∙ (λ t. range_with_len (begin t) (past_place - begin t) ++ sym (where_at (is_in_rows from (drop (j - suc i) others)) 0 codes) t))
