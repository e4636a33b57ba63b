-- The number of identifiers in lists, counted by the rows of the cones.
use Rattle.std.proofs.Common.{◌≡◌, ℕ, zero, suc, ◌+◌, ◌-◌, ◌*◌, ◌<◌, ◌≤◌, ◌==◌, Bool, true, false, List, [], ◌∷◌, All, Contains, length, drop, take, get_or, nat_lt, refl, sym, ap, subst, ◌∙◌, arith, length-append, ⊎_elim, if◌then◌else◌}
use Rattle.std.specs.Prelude.{sum_by}
use Rattle.std.specs.List.{range_with_len}
use Rattle.std.specs.List.Sorted.{IsStrictlyIncreasing}
use Rattle.std.specs.Simd.Lanes.{zip2}
use Rattle.std.proofs.lemmas.Bool.{cases_lt, eqb-true, lt-ltb, le-ltb}
use Rattle.std.proofs.lemmas.Bool.Decides.{nat_tests}
use Rattle.std.proofs.lemmas.List.Elements.{All-head, All-tail, Contains-append_right, Contains-get_or}
use Rattle.std.proofs.lemmas.List.FromFn.{length-range_with_len}
use Rattle.std.proofs.lemmas.List.Sums.{sum_by-cons, sum_by_more}
use Rattle.precedence.specs.Cone.{positions_where}
use Rattle.precedence.specs.inner.Arcs.{arcs_before, codes_with, count_in}
use Rattle.precedence.specs.inner.Rows.{is_in_rows, start_of, LieApart}
use Rattle.precedence.specs.declared.cones.cone_rows.Row.{Row}
use Rattle.precedence.proofs.Members.{cons_cases, first_below, tail_rises}
use Rattle.precedence.proofs.ranges.RangesOfRows.{adds_range}
use Rattle.precedence.proofs.ranges.Starts.{no_less, start_before, start_grows, start_within}

-- the sum of two counts of each element
pub sum_both : {X : Type 0} (f g h : X → ℕ) (xs : List X) → ((x : X) → f x ≡ g x + h x) → sum_by f xs ≡ sum_by g xs + sum_by h xs
sum_both f g h [] each = refl
sum_both f g h (x ∷ xs) each =
    omega (arith, each x, sum_both f g h xs each, sum_by-cons f x xs, sum_by-cons g x xs, sum_by-cons h x xs)

-- the sum is 0 if each count is 0
pub sum_none : {X : Type 0} (f : X → ℕ) (xs : List X) → ((x : X) → f x ≡ 0) → sum_by f xs ≡ 0
sum_none f [] each = refl
sum_none f (x ∷ xs) each = omega (arith, each x, sum_none f xs each, sum_by-cons f x xs)

-- the number in the rows from one on is the number in that row and in the rows after it
pub row_more : (codes : List ℕ) (rows : List Row) (high i : ℕ) (row : Row) → IsStrictlyIncreasing codes → LieApart 0 rows high
    → i < length rows → row ≡ get_or rows i row → (from : ℕ)
    → length (positions_where (is_in_rows from (drop i rows)) 0 codes)
    ≡ count_in codes row from + length (positions_where (is_in_rows from (drop (i + 1) rows)) 0 codes)
row_more codes rows high i row rising apart lt is from =
    let past = start_of (from + row.past) codes in
    let first = start_of (from + row.first) codes in
    let rest = positions_where (is_in_rows from (drop (i + 1) rows)) 0 codes in
    ap length (adds_range from high rows codes apart rising i (i + 1) past row is lt (omega arith) (omega (arith, lt)) (omega arith)
    (λ n le less within. absurd (omega (arith, le, less))) (λ n more less. absurd (omega (arith, more, less))))
    ∙ length-append (range_with_len first (past - first)) rest
    ∙ ap (λ n. n + length rest) (length-range_with_len first (past - first))

-- the number with one more table, and the sum with one more element
next_table : (p t n : ℕ) → (if nat_lt p (t + 1) then n else 0) ≡ (if nat_lt p t then n else 0) + (if p == t then n else 0)
next_table p t n = grind (arith, nat_tests)

next_own : (b : Bool) (f : ℕ → ℕ) (n c : ℕ) (own : List ℕ) → (b ≡ true → n ≡ f c) → sum_by f (if b then c ∷ own else own) ≡ (if b then n else 0) + sum_by f own
next_own true f n c own same = omega (arith, same refl, sum_by-cons f c own)
next_own false f n c own same = omega arith

module _ (list : ℕ → ℕ → List ℕ) (of_zone : List ℕ) where
  -- the number with the next table
  pub table_more : (t : ℕ) (f : ℕ → ℕ) → ((z c : ℕ) → get_or of_zone z 0 ≡ t → length (list z c) ≡ f c) → (zones codes : List ℕ)
      → arcs_before list of_zone (t + 1) zones codes ≡ arcs_before list of_zone t zones codes + sum_by f (codes_with of_zone t zones codes)
  table_more t f same [] codes = refl
  table_more t f same (z ∷ zs) [] = refl
  table_more t f same (z ∷ zs) (c ∷ cs) =
      let p = get_or of_zone z 0 in
      omega (
        arith,
        next_table p t (length (list z c)),
        next_own (p == t) f (length (list z c)) c (codes_with of_zone t zs cs) (λ is. same z c (eqb-true _ _ is)),
        table_more t f same zs cs,
      )

  -- no arcs before the first table
  pub no_table : (zones codes : List ℕ) → arcs_before list of_zone 0 zones codes ≡ 0
  no_table [] codes = refl
  no_table (z ∷ zs) [] = refl
  no_table (z ∷ zs) (c ∷ cs) =
      let no : nat_lt (get_or of_zone z 0) 0 ≡ false = le-ltb _ _ (omega arith) in
      (λ j. (if no j then length (list z c) else 0) + arcs_before list of_zone 0 zs cs) ∙ omega (arith, no_table zs cs)

  -- all arcs with all tables
  pub all_tables : (t : ℕ) (zones codes : List ℕ) → All (λ z. get_or of_zone z 0 < t) zones
      → arcs_before list of_zone t zones codes ≡ sum_by length (zip2 list zones codes)
  all_tables t [] codes below = refl
  all_tables t (z ∷ zs) [] below = refl
  all_tables t (z ∷ zs) (c ∷ cs) below =
      let yes : nat_lt (get_or of_zone z 0) t ≡ true = lt-ltb _ _ (All-head (λ z. get_or of_zone z 0 < t) z zs below) in
      let rest = all_tables t zs cs (All-tail (λ z. get_or of_zone z 0 < t) z zs below) in
      (λ j. (if yes j then length (list z c) else 0) + rest j)
      ∙ sym (sum_by-cons length (list z c) (zip2 list zs cs))

  -- at most m arcs for each block
  pub few_before : (t m : ℕ) → ((z c : ℕ) → length (list z c) ≤ m) → (zones codes : List ℕ)
      → arcs_before list of_zone t zones codes ≤ length zones * m
  few_before t m few [] codes = omega arith
  few_before t m few (z ∷ zs) [] = omega arith
  few_before t m few (z ∷ zs) (c ∷ cs) = one (nat_lt (get_or of_zone z 0) t) (few_before t m few zs cs) (few z c)
    where
      one : (b : Bool) → arcs_before list of_zone t zs cs ≤ length zs * m → length (list z c) ≤ m
          → (if b then length (list z c) else 0) + arcs_before list of_zone t zs cs ≤ suc (length zs) * m
      one true rest here = omega (arith, rest, here)
      one false rest here = omega (arith, rest, here)

-- codes with empty rows add nothing
pub sum_to : {X : Type 0} (f : X → ℕ) (xs : List X) (d : X) (k to : ℕ) → k ≤ to → to ≤ length xs
    → ((j : ℕ) → k ≤ j → j < to → f (get_or xs j d) ≡ 0) → sum_by f (take to xs) ≡ sum_by f (take k xs)
sum_to f xs d k zero le within none = let same : zero ≡ k = omega arith in ap (λ m. sum_by f (take m xs)) same
sum_to f xs d k (suc to) le within none = ⊎_elim
    (λ less.
    let more : suc to ≡ to + 1 = omega arith in
    let rest = sum_to f xs d k to (omega arith) (omega arith) (λ j low up. none j low (omega (arith, up))) in
    omega (arith, ap (λ m. sum_by f (take m xs)) more, sum_by_more f xs to d within, none to (omega arith) (omega arith), rest))
    (λ all. let same : suc to ≡ k = omega arith in ap (λ m. sum_by f (take m xs)) same)
    (cases_lt k (suc to))

-- if a row is empty for one code, it is empty for the next ones, up to where it reaches the next identifier
pub none_in : (codes own : List ℕ) (row : Row) (k j : ℕ) → IsStrictlyIncreasing codes → IsStrictlyIncreasing own → k ≤ j → j < length own
    → start_of (get_or own k 0 + row.past) codes ≤ start_of (get_or own k 0 + row.first) codes
    → (k < j → start_of (get_or own k 0 + row.first) codes < length codes
    → get_or own j 0 + row.past ≤ get_or codes (start_of (get_or own k 0 + row.first) codes) 0)
    → count_in codes row (get_or own j 0) ≡ 0
none_in codes own row k j rise own_rises le lt empty below = ⊎_elim
    (λ later.
    let id = start_of (get_or own k 0 + row.first) codes in
    let first = start_grows (get_or own k 0 + row.first) (get_or own j 0 + row.first) codes rise (omega (arith, no_less own k j own_rises le lt)) in
    ⊎_elim
    (λ there.
    let past = start_before (get_or own j 0 + row.past) id codes there (below later there) in
    omega (arith, first, past))
    (λ not_before.
    let few = start_within (get_or own j 0 + row.past) codes in
    omega (arith, first, few, not_before))
    (cases_lt id (length codes)))
    (λ same.
    let here : k ≡ j = omega (arith, le, same) in
    subst (λ (j : ℕ). count_in codes row (get_or own j 0) ≡ 0) here (omega (arith, empty)))
    (cases_lt k j)

-- ---- the codes of the blocks with a table ascend

cons_rises : (x : ℕ) (xs : List ℕ) → IsStrictlyIncreasing xs → ((c : ℕ) → Contains xs c → x < c) → IsStrictlyIncreasing (x ∷ xs)
cons_rises x xs rise below zero lt = below (get_or xs 0 0) (Contains-get_or xs 0 0 (omega (arith, lt)))
cons_rises x xs rise below (suc k) lt =
    let e : suc k + 1 ≡ suc (k + 1) = omega arith in
    subst (λ n. get_or xs k 0 < get_or (x ∷ xs) n 0) (sym e) (rise k (omega (arith, lt)))

codes_among : (of_zone : List ℕ) (t : ℕ) (zones codes : List ℕ) (c : ℕ) → Contains (codes_with of_zone t zones codes) c → Contains codes c
codes_among of_zone t [] codes c h = absurd (let lt = h.1 in omega arith)
codes_among of_zone t (z ∷ zs) [] c h = h
codes_among of_zone t (z ∷ zs) (x ∷ cs) c h = one (get_or of_zone z 0 == t) (codes_among of_zone t zs cs c) h
  where
    own : List ℕ
    own = codes_with of_zone t zs cs

    one : (b : Bool) → (Contains own c → Contains cs c) → Contains (if b then x ∷ own else own) c → Contains (x ∷ cs) c
    one true among h = ⊎_elim
        (λ is. (0, omega arith, is))
        (λ later. Contains-append_right (x ∷ []) cs c (among later))
        (cons_cases x own c h)
    one false among h = Contains-append_right (x ∷ []) cs c (among h)

pub codes_rise : (of_zone : List ℕ) (t : ℕ) (zones codes : List ℕ) → IsStrictlyIncreasing codes → IsStrictlyIncreasing (codes_with of_zone t zones codes)
codes_rise of_zone t [] codes rise = λ k lt. absurd (omega (arith, lt))
codes_rise of_zone t (z ∷ zs) [] rise = λ k lt. absurd (omega (arith, lt))
codes_rise of_zone t (z ∷ zs) (x ∷ cs) rise = one (get_or of_zone z 0 == t) (codes_rise of_zone t zs cs (tail_rises x cs rise))
  where
    own : List ℕ
    own = codes_with of_zone t zs cs

    one : (b : Bool) → IsStrictlyIncreasing own → IsStrictlyIncreasing (if b then x ∷ own else own)
    one true rest = cons_rises x own rest (λ c h. first_below x cs c rise (codes_among of_zone t zs cs c h))
    one false rest = rest
