-- The reduced list by the codes and the cones of the blocks.
use Rattle.std.proofs.Common.{◌≡◌, ℕ, ◌^◌, ◌<◌, Bool, true, false, not, List, [], filter, length, get_or, sym, ap, ◌∙◌, arith, ⊎_elim}
use Rattle.std.specs.List.{range_with_len}
use Rattle.std.specs.List.Sorted.{IsStrictlyIncreasing}
use Rattle.std.proofs.lemmas.Bool.{both_ways, cases_Bool, cases_lt}
use Rattle.std.proofs.lemmas.List.{get_or_default}
use Rattle.std.proofs.lemmas.List.Folds.{Any-from_list_any, list_any_at}
use Rattle.std.proofs.lemmas.List.Kept.{IsStrictlyIncreasing-filter}
use Rattle.precedence.specs.PredecessorOfAny.{is_predecessor_of_any}
use Rattle.precedence.specs.IdRanges.{is_in}
use Rattle.precedence.specs.inner.Between.{cone_of, is_in_cone, IsBetween}
use Rattle.precedence.specs.inner.LazyPredsFields.{lazy_lists_of, scene_in, IsLazyPreds}
use Rattle.precedence.specs.inner.lanes.Windows.{AreRetained}
use Rattle.precedence.specs.inner.Lists.{ids_in_rows}
use Rattle.precedence.specs.inner.Rows.{is_in_rows}
use Rattle.precedence.specs.declared.cones.cone_rows.Row.{Row}
use Rattle.precedence.specs.declared.lists.lazy_preds.LazyPreds.TheInside.{Inside}
use Rattle.precedence.proofs.AllLists.{few_found, found_at, lazy_length}
use Rattle.precedence.proofs.Members.{contains_true, kept_from, kept_in, one_list, true_contains}
use Rattle.precedence.proofs.LawFacts.{range_rises}
use Rattle.precedence.proofs.PositionsWhere.{exact_nowhere, exact_where, where_at}

ids_in_rows_within : (from : ℕ) (rows : List Row) (codes : List ℕ) (x : ℕ) → is_in (ids_in_rows from rows codes) x ≡ true → x < length codes
ids_in_rows_within from rows codes x h = ⊎_elim
    (λ lt. lt)
    (λ past. absurd (both_ways _ (exact_nowhere (is_in_rows from rows) x codes 0 past) h))
    (cases_lt x (length codes))

ids_in_rows_rise : (from : ℕ) (rows : List Row) (codes : List ℕ) → IsStrictlyIncreasing (ids_in_rows from rows codes)
ids_in_rows_rise from rows codes =
    rw (where_at (is_in_rows from rows) 0 codes)
    (IsStrictlyIncreasing-filter (λ k. is_in_rows from rows (get_or codes k 0)) (range_with_len 0 (length codes)) (range_rises 0 (length codes)))

module _ (f : Inside) (keeps : IsLazyPreds f) (lists : List (List ℕ)) (is : lazy_lists_of f ≡ lists) (block : ℕ) (within : block < length lists) where
  abbrev codes : List ℕ
  codes = f.places.codes.items

  abbrev cone : ℕ → List Row
  cone = cone_of f.tables.tables.items f.tables.of_zone.items f.zones.items

  few : length lists ≡ length codes
  few = sym (ap length is) ∙ lazy_length f keeps ∙ keeps.each

  -- the list of any block
  list_is : (d : ℕ) → d < length codes → get_or lists d [] ≡ ids_in_rows (get_or codes d 0) (cone d) codes
  list_is d there =
      let in_zones : d < length f.zones.items = omega (arith, there, keeps.each) in
      found_at f keeps lists d (get_or f.zones.items d 0) (get_or codes d 0) is (omega (arith, there, few))
      (get_or_default f.zones.items d 0 (get_or f.zones.items d 0) in_zones) (get_or_default codes d 0 (get_or codes d 0) there)

  list_of : (d c : ℕ) → d < length codes → c < length codes → is_in (get_or lists d []) c ≡ is_in_cone codes cone d c
  list_of d c there lt = ap (λ list. is_in list c) (list_is d there) ∙ exact_where (is_in_rows (get_or codes d 0) (cone d)) c codes 0 lt

  abbrev list : List ℕ
  list = get_or lists block []

  here : block < length codes
  here = omega (arith, within, few)

  -- a list has no more identifiers than there are blocks
  pub few_listed : length list < 2 ^ 63
  few_listed =
      let zone = get_or f.zones.items block 0 in
      let from = get_or codes block 0 in
      let in_zones : block < length f.zones.items = omega (arith, here, keeps.each) in
      few_found f keeps lists block zone from is within (get_or_default f.zones.items block 0 zone in_zones) (get_or_default codes block 0 from here)

  in_codes : (d : ℕ) → is_in list d ≡ true → d < length codes
  in_codes d has = ids_in_rows_within (get_or codes block 0) (cone block) codes d (sym (ap (λ list. is_in list d) (list_is block here)) ∙ has)

  -- a block between is a predecessor of a block of the list
  any_is : (c d : ℕ) → c < length codes → IsBetween codes cone block c d → is_predecessor_of_any lists list c ≡ true
  any_is c d there mid =
      let at = true_contains list d (list_of block d here mid.within ∙ mid.above) in
      list_any_at (λ d. is_in (get_or lists d []) c) list at.0 d at.1
      (ap (λ d. is_in (get_or lists d []) c) at.2 ∙ list_of d c mid.within there ∙ mid.below)

  mid_is : (c : ℕ) → c < length codes → is_predecessor_of_any lists list c ≡ true → (d : ℕ) × IsBetween codes cone block c d
  mid_is c there some =
      let w = Any-from_list_any (λ d. is_in (get_or lists d []) c) list some in
      let own = contains_true list w.1 (w.0, w.2, w.3) in
      let lt = in_codes w.1 own in (
        w.1,
        record {
          within = lt;
          above = sym (list_of block w.1 here lt) ∙ own;
          below = sym (list_of w.1 c lt there) ∙ w.4;
        },
      )

  abbrev free : ℕ → Bool
  free c = not (is_predecessor_of_any lists list c)

  pub retained_is : (ids : List ℕ) → AreRetained (scene_in f) block ids → ids ≡ filter free list
  retained_is ids r = one_list ids (filter free list) r.rising
      (IsStrictlyIncreasing-filter free list (rw (list_is block here) (ids_in_rows_rise (get_or codes block 0) (cone block) codes)))
      (λ c has.
      let s = r.sound c has in
      kept_in free list c (true_contains list c (list_of block c here s.0 ∙ s.1))
      (⊎_elim (λ yes. absurd (let mid = mid_is c s.0 yes in s.2 mid.0 mid.1)) (λ no. ap not no) (cases_Bool (is_predecessor_of_any lists list c))))
      (λ c has.
      let w = kept_from free list c has in
      let own = contains_true list c w.0 in
      let there = in_codes c own in
      ⊎_elim
      (λ found. found)
      (λ mid.
      let yes = any_is c mid.0 there mid.1 in
      let both : false ≡ true = sym (ap not yes) ∙ w.1 in
      absurd (let bad : ⊥ = cc in bad))
      (r.complete c there (sym (list_of block c here there) ∙ own)))
