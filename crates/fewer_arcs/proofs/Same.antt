-- Reduced lists are equivalent to the lists.
use Rattle.std.proofs.Common.{◌≡◌, ℕ, ◌+◌, ◌<◌, ◌≤◌, zero, suc, true, List, [], Contains, get_or, length, subst, sym, ap, ◌∙◌, arith, inl, inr, ⊎_elim, ◌⊎◌}
use Rattle.std.proofs.lemmas.Bool.{cases_lt}
use Rattle.std.proofs.lemmas.List.{get_or-map, get_or_past, length-map}
use Rattle.precedence.specs.Closed.{ComeLater, HasArc, HasPath}
use Rattle.fewer_arcs.specs.Reduced.{reduced, reduced_list}
use Rattle.fewer_arcs.specs.ReducedList.{IsPredecessorOfAny, IsReduced, Rise}
use Rattle.fewer_arcs.specs.Implied.{HavePaths, AreImplied}
use Rattle.fewer_arcs.proofs.ReducedLists.{is_reduced, retained_among, retained_apart, retained_or_dropped}

-- a missing list is empty, and so is its reduced list
pub reduced_at : (lists : List (List ℕ)) (b : ℕ) → get_or (reduced lists) b [] ≡ reduced_list lists (get_or lists b [])
reduced_at lists b = ⊎_elim
    (λ lt. get_or-map (reduced_list lists) lists b [] [] lt)
    (λ past.
    let none : get_or lists b [] ≡ [] = get_or_past lists b [] past in
    get_or_past (reduced lists) b [] (omega (arith, length-map lists (reduced_list lists))) ∙ ap (reduced_list lists) (sym none))
    (cases_lt b (length lists))

module _ (lists : List (List ℕ)) where
  pub among : (b c : ℕ) → HasArc (reduced lists) b c → HasArc lists b c
  among b c has = retained_among lists (get_or lists b []) c (subst (λ list. Contains list c) (reduced_at lists b) has)

  -- a retained predecessor of b is a predecessor of none of b's predecessors
  pub apart : (b c d : ℕ) → HasArc (reduced lists) b c → HasArc lists b d → HasArc lists d c → ⊥
  apart b c d has own arc =
      retained_apart lists (get_or lists b []) c (subst (λ list. Contains list c) (reduced_at lists b) has) (d, own, arc)

  arc_retained_or_dropped : (b c : ℕ) → HasArc lists b c → HasArc (reduced lists) b c ⊎ IsPredecessorOfAny lists (get_or lists b []) c
  arc_retained_or_dropped b c has = ⊎_elim
      (λ retained. inl (subst (λ list. Contains list c) (sym (reduced_at lists b)) retained))
      (λ predecessor. inr predecessor)
      (retained_or_dropped lists (get_or lists b []) c has)

  pub list_is_reduced : (b : ℕ) → Rise lists → b < length lists → IsReduced lists (get_or lists b []) (get_or (reduced lists) b [])
  list_is_reduced b rise lt =
      subst (λ list. IsReduced lists (get_or lists b []) list) (sym (reduced_at lists b)) (is_reduced lists (get_or lists b []) (rise b lt))

  module _ (later : ComeLater lists) where
    -- any relation: a dropped arc is two arcs, both of which are shorter
    module _ (R : ℕ → ℕ → Type 0) (through : (a b c : ℕ) → R a b → R b c → R a c) (along : (b c : ℕ) → HasArc (reduced lists) b c → R b c) where
      holds_near : (k b c : ℕ) → c ≤ b + k → HasArc lists b c → R b c
      holds_near zero b c le has = absurd (let less = later b c has in omega arith)
      holds_near (suc k) b c le has = ⊎_elim
          (λ retained. along b c retained)
          (λ w.
          let first = later b w.0 w.1 in
          let second = later w.0 c w.2 in
          through b w.0 c (holds_near k b w.0 (omega arith) w.1) (holds_near k w.0 c (omega arith) w.2))
          (arc_retained_or_dropped b c has)

      pub holds : (b c : ℕ) → HasArc lists b c → R b c
      holds b c has = holds_near c b c (omega arith) has

    pub same : AreImplied lists (reduced lists)
    same R through along b c has = holds (λ b c. R b c ≡ true) through along b c has

    pub paths : HavePaths lists (reduced lists)
    paths = holds (λ b c. (n : ℕ) × HasPath (reduced lists) n b c)
        (λ a b c first then'. joined (reduced lists) first.0 a b c then'.0 first.1 then'.1) (λ b c arc. (zero, arc))
      where
        joined : (lists : List (List ℕ)) (n a b c m : ℕ) → HasPath lists n a b → HasPath lists m b c → (k : ℕ) × HasPath lists k a c
        joined lists zero a b c m first then' = (suc m, (b, first, then'))
        joined lists (suc n) a b c m first then' = let rest = joined lists n first.0 b c m first.2 then' in (suc rest.0, (first.0, first.1, rest.1))
