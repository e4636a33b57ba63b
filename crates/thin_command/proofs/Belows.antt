-- Reduced lists have no new identifiers.
use Rattle.std.proofs.Common.{◌≡◌, ℕ, ◌<◌, List, [], All, get_or, length, not, subst, sym, arith}
use Rattle.std.proofs.lemmas.List.{get_or_default, length-map}
use Rattle.std.proofs.lemmas.List.Elements.{All-filter, All-map}
use Rattle.precedence.specs.PredecessorOfAny.{is_predecessor_of_any}
use Rattle.fewer_arcs.specs.Reduced.{reduced, reduced_list}
use Rattle.mine_instance.specs.Instance.{Instance}
use Rattle.mine_instance.specs.Valid.{IsValid}

reduced_below : (lists : List (List ℕ)) (n : ℕ) → All (λ ids. All (λ id. id < n) ids) lists → All (λ ids. All (λ id. id < n) ids) (reduced lists)
reduced_below lists n below =
    All-map (λ ids. All (λ id. id < n) ids) (reduced_list lists) lists
    (λ k d lt. All-filter (λ c. not (is_predecessor_of_any lists (get_or lists k d) c)) (λ id. id < n) (get_or lists k d) (below k d lt))

valid_below : (i : Instance) → IsValid i → All (λ ids. All (λ id. id < length i.preds) ids) i.preds
valid_below i valid k d within j e inside =
    let lists = i.preds in
    let same : get_or lists k d ≡ get_or lists k [] = get_or_default lists k d [] within in
    let below : All (λ id. id < length i.blocks) (get_or lists k d) =
    subst (λ (ids : List ℕ). All (λ id. id < length i.blocks) ids) (sym same) (valid.preds k within).below in
    omega (arith, below j e inside, valid.lengths.preds)

-- the reduced lists of a valid instance have identifiers of blocks only
pub valid_reduced : (i : Instance) → IsValid i
    → All (λ ids. All (λ id. id < length (reduced i.preds)) ids) (reduced i.preds)
valid_reduced i valid =
    subst (λ n. All (λ ids. All (λ id. id < n) ids) (reduced i.preds)) (sym (length-map i.preds (reduced_list i.preds)))
    (reduced_below i.preds (length i.preds) (valid_below i valid))
