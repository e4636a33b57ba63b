-- The number of identifiers in ranges, and properties of a range from properties of all identifiers.
use Rattle.std.proofs.Common.{◌≡◌, ◌∙◌, ℕ, zero, suc, ◌+◌, ◌-◌, ◌<◌, ◌≤◌, List, [], ◌∷◌, ◌++◌, All, length, take, drop, get_or, sym, ap, arith, append-nil, length-append, subst}
use Rattle.std.proofs.lemmas.Grind.{flat_map-append}
use Rattle.std.proofs.lemmas.List.{get_or-append-add, get_or_append_left, take_more, take-append-drop}
use Rattle.std.proofs.lemmas.List.FromFn.{get_or-range_with_len, length-range_with_len}
use Rattle.precedence.specs.IdRanges.{ids_of, ids_of_range}
use Rattle.precedence.specs.declared.lists.id_range.IdRange.{IdRange}

-- the first ranges and the next
pub count_more : (ranges : List IdRange) (i : ℕ) (range : IdRange) → i < length ranges → range ≡ get_or ranges i range
    → length (ids_of (take (i + 1) ranges)) ≡ length (ids_of (take i ranges)) + range.len
count_more ranges i range lt is =
    ap (λ prefix. length (ids_of prefix)) (take_more ranges i range lt ∙ ap (λ r. take i ranges ++ r ∷ []) (sym is))
    ∙ ap length (flat_map-append ids_of_range (take i ranges) (range ∷ []) ∙ ap (λ ids. ids_of (take i ranges) ++ ids) (append-nil (ids_of_range range)))
    ∙ length-append (ids_of (take i ranges)) (ids_of_range range)
    ∙ ap (λ n. length (ids_of (take i ranges)) + n) (length-range_with_len range.first range.len)

-- the first ranges have no more identifiers than all
pub count_within : (ranges : List IdRange) (i : ℕ) → length (ids_of (take i ranges)) ≤ length (ids_of ranges)
count_within ranges i =
    let parts = ap (λ rs. length (ids_of rs)) (sym (take-append-drop i ranges)) ∙ ap length (flat_map-append ids_of_range (take i ranges) (drop i ranges))
    ∙ length-append (ids_of (take i ranges)) (ids_of (drop i ranges)) in
    omega (arith, parts)

-- the identifiers of a range are below an upper bound of all ranges
pub range_below : (n : ℕ) (ranges : List IdRange) (i : ℕ) (range : IdRange) → i < length ranges → range ≡ get_or ranges i range
    → All (λ id. id < n) (ids_of ranges) → range.first + range.len ≤ n
range_below n (r ∷ ranges) zero range lt is all =
    let long = length-range_with_len r.first r.len in
    let place = r.len - 1 in
    let within : place < length (ids_of_range r) = omega (arith, r.some, long) in
    let last = all place 0 (omega (arith, within, length-append (ids_of_range r) (ids_of ranges))) in
    let at = get_or_append_left (ids_of_range r) (ids_of ranges) 0 place within
    ∙ get_or-range_with_len r.first r.len place 0 (omega (arith, r.some)) in
    subst (λ (one : IdRange). one.first + one.len ≤ n) (sym is) (omega (arith, r.some, last, at))
range_below n (r ∷ ranges) (suc i) range lt is all =
    range_below n ranges i range (omega (arith, lt)) is
    (λ k d h.
    subst (λ id. id < n) (get_or-append-add (ids_of_range r) (ids_of ranges) k d)
    (all (length (ids_of_range r) + k) d (omega (arith, h, length-append (ids_of_range r) (ids_of ranges)))))
range_below n [] i range lt is all = absurd (omega (arith, lt))
