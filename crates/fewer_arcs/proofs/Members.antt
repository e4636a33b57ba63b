-- Predecessors of any of the given blocks, as members of lists.
use Rattle.std.proofs.Common.{◌≡◌, ℕ, true, List, [], ap, ◌∙◌, get_or}
use Rattle.std.proofs.lemmas.List.Folds.{Any-from_list_any, list_any_at}
use Rattle.precedence.specs.IdRanges.{is_in}
use Rattle.precedence.specs.PredecessorOfAny.{is_predecessor_of_any}
use Rattle.precedence.proofs.Members.{contains_true, true_contains}
use Rattle.fewer_arcs.specs.ReducedList.{IsPredecessorOfAny}

pub predecessor_if_true : (lists : List (List ℕ)) (blocks : List ℕ) (c : ℕ) → is_predecessor_of_any lists blocks c ≡ true → IsPredecessorOfAny lists blocks c
predecessor_if_true lists blocks c h =
    let w = Any-from_list_any (λ d. is_in (get_or lists d []) c) blocks h in
    (w.1, (w.0, w.2, w.3), true_contains (get_or lists w.1 []) c w.4)

pub true_if_predecessor : (lists : List (List ℕ)) (blocks : List ℕ) (c : ℕ) → IsPredecessorOfAny lists blocks c → is_predecessor_of_any lists blocks c ≡ true
true_if_predecessor lists blocks c w =
    let at = w.1 in
    list_any_at (λ d. is_in (get_or lists d []) c) blocks at.0 w.0 at.1
    (ap (λ d. is_in (get_or lists d []) c) at.2 ∙ contains_true (get_or lists w.0 []) c w.2)
