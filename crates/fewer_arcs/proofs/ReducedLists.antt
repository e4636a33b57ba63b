-- The reduced list.
use Rattle.std.proofs.Common.{◌≡◌, ℕ, ◌≤◌, Bool, true, false, not, List, Contains, length, refl, sym, ap, ◌∙◌, arith, inl, inr, ⊎_elim, ◌⊎◌}
use Rattle.std.specs.List.Sorted.{IsStrictlyIncreasing}
use Rattle.std.proofs.lemmas.Bool.{cases_Bool}
use Rattle.std.proofs.lemmas.List.Filters.{length-filter_both}
use Rattle.std.proofs.lemmas.List.Kept.{IsStrictlyIncreasing-filter}
use Rattle.precedence.specs.PredecessorOfAny.{is_predecessor_of_any}
use Rattle.fewer_arcs.specs.Reduced.{reduced_list}
use Rattle.fewer_arcs.specs.ReducedList.{IsPredecessorOfAny, IsReduced, IsCoveringSet}
use Rattle.precedence.proofs.Members.{kept_from, kept_in}
use Rattle.fewer_arcs.proofs.Members.{true_if_predecessor, predecessor_if_true}

module _ (lists : List (List ℕ)) (list : List ℕ) where
  abbrev free : ℕ → Bool
  free c = not (is_predecessor_of_any lists list c)

  no_predecessor_if_free : (c : ℕ) → free c ≡ true → IsPredecessorOfAny lists list c → ⊥
  no_predecessor_if_free c passes w =
      let is = true_if_predecessor lists list c w in
      let both : false ≡ true = sym (ap not is) ∙ passes in
      let bad : ⊥ = cc in bad

  pub retained_among : (c : ℕ) → Contains (reduced_list lists list) c → Contains list c
  retained_among c has = (kept_from free list c has).0

  pub retained_apart : (c : ℕ) → Contains (reduced_list lists list) c → IsPredecessorOfAny lists list c → ⊥
  retained_apart c has = no_predecessor_if_free c (kept_from free list c has).1

  pub retained_or_dropped : (c : ℕ) → Contains list c → Contains (reduced_list lists list) c ⊎ IsPredecessorOfAny lists list c
  retained_or_dropped c has = ⊎_elim
      (λ is. inr (predecessor_if_true lists list c is))
      (λ no. inl (kept_in free list c has (ap not no)))
      (cases_Bool (is_predecessor_of_any lists list c))

  -- a reduced list is no longer than the list
  pub reduced_is_no_longer : length (reduced_list lists list) ≤ length list
  reduced_is_no_longer = omega (arith, length-filter_both free (is_predecessor_of_any lists list) (λ c. twice (is_predecessor_of_any lists list c)) list)
    where
      twice : (b : Bool) → b ≡ not (not b)
      twice true = refl
      twice false = refl

  pub is_reduced : IsStrictlyIncreasing list → IsReduced lists list (reduced_list lists list)
  is_reduced rising = record {
    rising = IsStrictlyIncreasing-filter free list rising;
    among = retained_among;
    dropped = retained_or_dropped;
    apart = retained_apart;
  }

  pub in_choice : (some : List ℕ) → IsCoveringSet lists list some → (c : ℕ) → Contains (reduced_list lists list) c → Contains some c
  in_choice some all c has = ⊎_elim
      (λ own. own)
      (λ w. absurd (retained_apart c has (w.0, all.among w.0 w.1, w.2)))
      (all.others c (retained_among c has))
