-- The coefficients of a list, group by group.
use Rattle.std.proofs.Common.{◌≡◌, ℕ, ◌+◌, ◌<◌, cond, List, [], ◌∷◌, ◌++◌, length, take, drop, get_or, map, refl, sym, ◌∙◌, ap, add-zero, subst, All, ℤ}
use Rattle.std.specs.Prelude.{filter, slice_index_or, ◌==◌}
use Rattle.std.proofs.Math.Seq.{take-add}
use Rattle.std.proofs.lemmas.List.{get_or-drop, get_or-map, get_or-take, map-append}
use Rattle.std.proofs.lemmas.List.Elements.{filter-append}
use Rattle.mine_instance.specs.Largest.{first_largest}
use Rattle.mine_instance.specs.coefs.Groups.{coefs_in, pairs_of}
use Rattle.mine_instance.specs.coefs.CoveredPairs.{coef_of}
use Rattle.mine_instance.specs.cpit.OfCpit.{is_chosen, at_only_destination}
use Rattle.mine_instance.specs.declared.coefs.coef.Coef.{Coef}
use Rattle.mine_instance.specs.declared.coefs.group.CoefGroup.{CoefGroup}

-- the coefficients so far, followed by a group
pub group_more : (all group : List Coef) (from n : ℕ) → group ≡ take n (drop from all) → take (from + n) all ≡ take from all ++ group
group_more all group from n is = take-add from n all ∙ ap (λ xs. take from all ++ xs) (sym is)

-- the block of a group is the block of its first coefficient
first_block : (group : CoefGroup) (all : List Coef) (from : ℕ) (d : Coef) → 0 < length (pairs_of group.pairs)
    → coefs_in group ≡ take (length (pairs_of group.pairs)) (drop from all) → (get_or all from d).b ≡ group.b
first_block group all from d some is =
    let pairs = pairs_of group.pairs in
    sym (ap (λ (c : Coef). c.b) (sym (get_or-map (coef_of group.b group.v) pairs 0 (0, 0) d some))
    ∙ ap (λ cs. (get_or cs 0 d).b) is
    ∙ ap (λ (c : Coef). c.b) (get_or-take (length pairs) (drop from all) 0 d some ∙ get_or-drop from all 0 d
    ∙ ap (λ k. get_or all k d) (add-zero from)))

-- it is one of the blocks of the coefficients
pub group_there : (group : CoefGroup) (all : List Coef) (from n : ℕ) → 0 < length (pairs_of group.pairs)
    → coefs_in group ≡ take (length (pairs_of group.pairs)) (drop from all) → from < length all → All (λ coef. coef.b < n) all → group.b < n
group_there group all from n some is within there =
    let d : Coef = record { b = 0; d = 0; r = 0; v = group.v } in
    subst (λ b. b < n) (first_block group all from d some is) (there from d within)

-- the coefficients of a block at its destination are the chosen ones
pub same_choice : (values : List (List ℤ)) (b : ℕ) (v : ℤ) (destination : ℕ) (pairs : List (ℕ × ℕ))
    → destination ≡ first_largest (slice_index_or values b [])
    → filter (λ c. c.d == destination) (map (coef_of b v) pairs) ≡ filter (is_chosen values) (map (coef_of b v) pairs)
same_choice values b v destination [] is = refl
same_choice values b v destination (p ∷ pairs) is =
    let rest = same_choice values b v destination pairs is in
    λ j. cond (p.0 == is j) (coef_of b v p ∷ rest j) (rest j)

-- the chosen coefficients with another group
pub chosen_more : (values : List (List ℤ)) (all group : List Coef) (from n : ℕ) → group ≡ take n (drop from all)
    → map at_only_destination (filter (is_chosen values) (take (from + n) all))
    ≡ map at_only_destination (filter (is_chosen values) (take from all)) ++ map at_only_destination (filter (is_chosen values) group)
chosen_more values all group from n is = rw (group_more all group from n is, filter-append, map-append) refl
