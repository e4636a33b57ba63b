-- Consecutive blocks whose numbers of blocks in a row grow by 1, shrink by 1 or stay equal.
use Rattle.std.proofs.Common.{◌≡◌, ℕ, zero, suc, ◌+◌, ◌*◌, ◌<◌, ◌≤◌, Bool, true, false, List, length, take, get_or, sym, ap, ◌∙◌, arith, if◌then◌else◌}
use Rattle.std.specs.Prelude.{sum_by}
use Rattle.std.specs.List.Sorted.{IsStrictlyIncreasing}
use Rattle.std.proofs.lemmas.List.Sums.{sum_by_more}
use Rattle.precedence.specs.inner.Arcs.{count_in, Continues}
use Rattle.precedence.specs.inner.Rows.{start_of}
use Rattle.precedence.specs.declared.cones.cone_rows.Row.{Row}
use Rattle.precedence.proofs.ranges.Starts.{start_grows}

-- an even count: the next step adds twice the last count to the number of counts times the sum of the first and last
step : (rise fall : Bool) (n c a b first past : ℕ) → c + first ≡ past
    → a + (first + (if fall then n else 0)) ≡ past + (if rise then n else 0)
    → b + (first + (if fall then suc n else 0)) ≡ past + (if rise then suc n else 0)
    → (n + 1) * (c + a) + 2 * b ≡ (suc n + 1) * (c + b)
step false false n c a b first past hc ha hb =
    let ac : a ≡ c = omega arith in
    let bc : b ≡ c = omega arith in
    omega (arith, ac, bc, ap (λ m. n * m) ac, ap (λ m. n * m) bc)
step true true n c a b first past hc ha hb =
    let ac : a ≡ c = omega arith in
    let bc : b ≡ c = omega arith in
    omega (arith, ac, bc, ap (λ m. n * m) ac, ap (λ m. n * m) bc)
step true false n c a b first past hc ha hb =
    let ac : a ≡ c + n = omega arith in
    let bc : b ≡ c + n + 1 = omega arith in
    omega (arith, ac, bc, ap (λ m. n * m) ac, ap (λ m. n * m) bc)
step false true n c a b first past hc ha hb =
    let ac : a + n ≡ c = omega arith in
    let bc : b + n + 1 ≡ c = omega arith in
    omega (arith, ac, bc, ap (λ m. n * m) ac, ap (λ m. n * m) bc)

-- a block and the n after it follow one another, and the start and end of the row's range move by 1 for each, or stay
pub record AreEven (codes own : List ℕ) (row : Row) (k n first past : ℕ) (first_moves past_moves : Bool) : Type 0 where
  pub rising : IsStrictlyIncreasing codes
  pub within : k + n < length own
  pub follow : (t : ℕ) → t ≤ n → get_or own (k + t) 0 ≡ get_or own k 0 + t
  pub firsts : Continues codes (get_or own k 0 + row.first) first n first_moves
  pub pasts : Continues codes (get_or own k 0 + row.past) past n past_moves

module _ (codes own : List ℕ) (row : Row) (k n first past : ℕ) (first_moves past_moves : Bool)
    (even : AreEven codes own row k n first past first_moves past_moves) where
  -- the start and end of the row's range for each of them
  pub begins : (t : ℕ) → t ≤ n → start_of (get_or own (k + t) 0 + row.first) codes ≡ first + (if first_moves then t else 0)
  begins t le =
      let at : get_or own (k + t) 0 + row.first ≡ (get_or own k 0 + row.first) + t = omega (arith, even.follow t le) in
      ap (λ m. start_of m codes) at ∙ even.firsts t le

  pub ends : (t : ℕ) → t ≤ n → start_of (get_or own (k + t) 0 + row.past) codes ≡ past + (if past_moves then t else 0)
  ends t le =
      let at : get_or own (k + t) 0 + row.past ≡ (get_or own k 0 + row.past) + t = omega (arith, even.follow t le) in
      ap (λ m. start_of m codes) at ∙ even.pasts t le

  pub no_later : (t : ℕ) → t ≤ n → first + (if first_moves then t else 0) ≤ past + (if past_moves then t else 0)
  no_later t le =
      omega (
        arith,
        begins t le,
        ends t le,
        start_grows (get_or own (k + t) 0 + row.first) (get_or own (k + t) 0 + row.past) codes even.rising (omega (arith, row.in_order)),
      )

  -- the number of blocks for each
  has : (t : ℕ) → t ≤ n
      → count_in codes row (get_or own (k + t) 0) + (first + (if first_moves then t else 0)) ≡ past + (if past_moves then t else 0)
  has t le = omega (arith, begins t le, ends t le, no_later t le)

  has_first : count_in codes row (get_or own k 0) + first ≡ past
  has_first = let at : k + 0 ≡ k = omega arith in none first_moves past_moves (ap (λ m. count_in codes row (get_or own m 0)) (sym at)) (has 0 (omega arith))
    where
      none : (rise fall : Bool) → count_in codes row (get_or own k 0) ≡ count_in codes row (get_or own (k + 0) 0)
          → count_in codes row (get_or own (k + 0) 0) + (first + (if rise then 0 else 0)) ≡ past + (if fall then 0 else 0)
          → count_in codes row (get_or own k 0) + first ≡ past
      none true true at h = omega (arith, at, h)
      none true false at h = omega (arith, at, h)
      none false true at h = omega (arith, at, h)
      none false false at h = omega (arith, at, h)

  -- the number of blocks for all
  sum_up_to : (m : ℕ) → m ≤ n → 2 * sum_by (count_in codes row) (take (k + m + 1) own)
      ≡ 2 * sum_by (count_in codes row) (take k own)
      + (m + 1) * (count_in codes row (get_or own k 0) + count_in codes row (get_or own (k + m) 0))
  sum_up_to zero le =
      let at : k + 0 ≡ k = omega arith in
      let to : k + 0 + 1 ≡ k + 1 = omega arith in
      omega (
        arith,
        ap (λ m. count_in codes row (get_or own m 0)) at,
        ap (λ m. sum_by (count_in codes row) (take m own)) to,
        sum_by_more (count_in codes row) own k 0 (omega (arith, even.within)),
      )
  sum_up_to (suc m) le =
      let at : k + suc m ≡ k + m + 1 = omega arith in
      let to : k + suc m + 1 ≡ (k + suc m) + 1 = omega arith in
      omega (
        arith,
        ap (λ m. sum_by (count_in codes row) (take m own)) at,
        sum_by_more (count_in codes row) own (k + suc m) 0 (omega (arith, even.within, le)),
        sum_up_to m (omega (arith, le)),
        step past_moves first_moves m (count_in codes row (get_or own k 0)) (count_in codes row (get_or own (k + m) 0))
            (count_in codes row (get_or own (k + suc m) 0)) first past has_first (has m (omega (arith, le))) (has (suc m) le),
      )

  pub sum_even : 2 * sum_by (count_in codes row) (take (k + n + 1) own)
      ≡ 2 * sum_by (count_in codes row) (take k own)
      + (n + 1) * (count_in codes row (get_or own k 0) + count_in codes row (get_or own (k + n) 0))
  sum_even = sum_up_to n (omega arith)
