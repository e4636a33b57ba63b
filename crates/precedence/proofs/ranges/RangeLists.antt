-- Lists of ranges.
use Rattle.std.proofs.Common.{◌≡◌, ℕ, zero, suc, ◌+◌, ◌-◌, ◌≤◌, List, [], ◌∷◌, ◌++◌, length, get_or, slice_set, sym, ap, ◌∙◌, arith, append_assoc, append-nil}
use Rattle.std.specs.List.{range_with_len}
use Rattle.std.proofs.lemmas.Grind.{flat_map-append}
use Rattle.precedence.specs.IdRanges.{ids_of, ids_of_range}
use Rattle.precedence.specs.declared.lists.id_range.IdRange.{IdRange}
use Rattle.precedence.proofs.ranges.RangesOfRows.{range_more}

-- the next range
pub ids_push : (ranges : List IdRange) (range : IdRange) → ids_of (ranges ++ range ∷ []) ≡ ids_of ranges ++ ids_of_range range
ids_push ranges range = flat_map-append ids_of_range ranges (range ∷ []) ∙ ap (λ ids. ids_of ranges ++ ids) (append-nil (ids_of_range range))

-- the last range, lengthened by the identifier that follows it
pub ids_lengthen : (ranges : List IdRange) (k id : ℕ) (last longer : IdRange) → length ranges ≡ k + 1 → last ≡ get_or ranges k last
    → longer.first ≡ last.first → longer.len ≡ last.len + 1 → last.first + last.len ≡ id → ids_of (slice_set ranges k longer) ≡ ids_of ranges ++ id ∷ []
ids_lengthen [] k id last longer long is first len next = absurd (let no : ⊥ = omega (arith, long) in no)
ids_lengthen (range ∷ []) zero id last longer long is first len next =
    append-nil (ids_of_range longer)
    ∙ (λ j. range_with_len (first j) (len j))
    ∙ range_more last.first last.len id next
    ∙ ap (λ (r : IdRange). ids_of_range r ++ id ∷ []) is
    ∙ ap (λ ids. ids ++ id ∷ []) (sym (append-nil (ids_of_range range)))
ids_lengthen (range ∷ other ∷ ranges) zero id last longer long is first len next = absurd (let no : ⊥ = omega (arith, long) in no)
ids_lengthen (range ∷ ranges) (suc k) id last longer long is first len next =
    ap (λ ids. ids_of_range range ++ ids) (ids_lengthen ranges k id last longer (omega (arith, long)) is first len next)
    ∙ sym (append_assoc (ids_of_range range) (ids_of ranges) (id ∷ []))

-- an empty range adds nothing
pub no_range : (first past : ℕ) (ids : List ℕ) → past ≤ first → ids ++ range_with_len first (past - first) ≡ ids
no_range first past ids le =
    let none : past - first ≡ 0 = omega arith in
    ap (λ n. ids ++ range_with_len first n) none ∙ append-nil ids

pub ruleset pushed_range = (ids_push, no_range)
