-- Blocks that follow one another, and the start of the codes from a target on among them.
use Rattle.std.proofs.Common.{◌≡◌, ℕ, zero, suc, ◌+◌, ◌-◌, ◌<◌, ◌≤◌, List, length, get_or, ap, ◌∙◌, arith, ⊎_elim}
use Rattle.std.specs.List.Sorted.{IsStrictlyIncreasing}
use Rattle.std.proofs.lemmas.Bool.{cases_lt}
use Rattle.std.proofs.lemmas.List.Kept.{AllPairs-from_increasing}
use Rattle.precedence.specs.inner.SameCone.{HaveSameCone, HaveSameConeFrom, FollowAlong, FollowFrom, Follows}
use Rattle.precedence.specs.inner.Rows.{start_of}
use Rattle.precedence.proofs.ranges.Starts.{start_after, start_before, start_within}

module _ (codes of_zone zones : List ℕ) where
  pub first_follows : (id : ℕ) → id < length codes → Follows codes of_zone zones id 0
  first_follows id lt =
      let at : id + 0 ≡ id = omega arith in
      record {
        within = omega (arith, lt);
        code = let same = ap (λ n. get_or codes n 0) at in omega (arith, same);
        table = ap (λ n. get_or of_zone (get_or zones n 0) 0) at;
      }

  pub one_more : (id count : ℕ) → id < length codes → get_or codes (id + 1) 0 ≡ get_or codes id 0 + 1
      → get_or of_zone (get_or zones (id + 1) 0) 0 ≡ get_or of_zone (get_or zones id 0) 0
      → HaveSameConeFrom codes of_zone zones (id + 1) count → HaveSameConeFrom codes of_zone zones id (count + 1)
  one_more id count lt code table after zero less = first_follows id lt
  one_more id count lt code table after (suc j) less =
      let h = after j (omega (arith, less)) in
      let at : id + suc j ≡ (id + 1) + j = omega arith in
      record {
        within = let within = h.within in omega (arith, within);
        code = let same = ap (λ n. get_or codes n 0) at in let there = h.code in omega (arith, same, there, code);
        table = ap (λ n. get_or of_zone (get_or zones n 0) 0) at ∙ h.table ∙ table;
      }

pub codes_along : (codes of_zone zones same_cone : List ℕ) → HaveSameCone codes of_zone zones same_cone → FollowAlong codes same_cone
codes_along codes of_zone zones same_cone all = (all.each, λ id lt j less. let h = all.follow id lt j less in (h.within, h.code))

-- no two identifiers have the same code
pub one_code : (codes : List ℕ) (a b : ℕ) → IsStrictlyIncreasing codes → a < length codes → b < length codes
    → get_or codes a 0 ≡ get_or codes b 0 → a ≡ b
one_code codes a b rising in_a in_b same = ⊎_elim
    (λ less. absurd (omega (arith, same, AllPairs-from_increasing codes rising a b 0 less in_b)))
    (λ no. ⊎_elim
    (λ more. absurd (omega (arith, same, AllPairs-from_increasing codes rising b a 0 more in_a)))
    (λ neither. omega (arith, no, neither))
    (cases_lt b a))
    (cases_lt a b)

-- Codes follow one another from an identifier on.
module _ (codes : List ℕ) (rising : IsStrictlyIncreasing codes) (first count : ℕ) (lt : first < length codes)
    (along : FollowFrom codes first count) where
  low : (target k : ℕ) → target ≡ get_or codes first 0 + k → k ≤ count → first + k ≤ start_of target codes
  low target zero at le = ⊎_elim
      (λ some.
      let before = AllPairs-from_increasing codes rising (first - 1) first 0 (omega (arith, some)) lt in
      omega (arith, some, start_after target (first - 1) codes rising (omega (arith, lt)) (omega (arith, before, at))))
      (λ none. omega (arith, none))
      (cases_lt 0 first)
  low target (suc k) at le =
      let h = along k (omega (arith, le)) in
      omega (arith, start_after target (first + k) codes rising h.0 (let code = h.1 in omega (arith, code, at)))

  up : (target k : ℕ) → target ≡ get_or codes first 0 + k → k ≤ count → start_of target codes ≤ first + k
  up target zero at le = omega (arith, start_before target first codes lt (omega (arith, at)))
  up target (suc k) at le = ⊎_elim
      (λ less.
      let h = along k (omega (arith, le)) in
      let next = AllPairs-from_increasing codes rising (first + k) (first + suc k) 0 (omega arith) less in
      start_before target (first + suc k) codes less (let code = h.1 in omega (arith, next, code, at)))
      (λ past. omega (arith, past, start_within target codes))
      (cases_lt (first + suc k) (length codes))

  -- the start of the codes from a target on that is at most `count` above the first code
  pub start_is : (target k : ℕ) → target ≡ get_or codes first 0 + k → k ≤ count → start_of target codes ≡ first + k
  start_is target k at le = omega (arith, low target k at le, up target k at le)

-- the start of the codes from a code of the list on
pub start_at : (codes : List ℕ) (k : ℕ) → IsStrictlyIncreasing codes → k < length codes → (target : ℕ) → get_or codes k 0 ≡ target → start_of target codes ≡ k
start_at codes k rising lt target is =
    omega (arith, start_is codes rising k 0 lt (λ j less. absurd (omega arith)) target 0 (omega (arith, is)) (omega arith))
