-- The lines of coefficients, group by group.
use Rattle.std.proofs.Common.{◌≡◌, ℕ, suc, ◌+◌, ◌-◌, ◌<◌, ◌≤◌, All, Bor, cond, false, ⊎_elim, List, [], ◌∷◌, ◌++◌, length, map, take, drop, get_or, refl, subst, sym, ap, ◌∙◌, arith, append_assoc, length-append, rules}
use Rattle.std.proofs.Math.Seq.{drop-drop, drop-append_seam, take-add, take-suc}
use Rattle.std.proofs.lemmas.Bool.{cases_Bool, eqb-true}
use Rattle.std.proofs.lemmas.Bool.Decides.{nat_tests}
use Rattle.std.proofs.lemmas.List.{drop-take, flat_map_more, get_or-drop, get_or-map, get_or-take, length-map, length-take, length-drop, take_all}
use Rattle.std.proofs.lemmas.List.Concat.{concat_is}
use Rattle.std.proofs.lemmas.List.Elements.{All-map}
use Rattle.std.proofs.lemmas.List.Folds.{concat-append, flat_map-map}
use Rattle.std.specs.List.{concat, drop-map, flat_map, take-map}
use Rattle.std.specs.Prelude.{◌==◌, ◌&&◌, decimal, if◌then◌else◌, IsTrue, nat_lt, slice_index_or, ℤ}
use Rattle.pit_units.specs.Decimal.{shortest}
use Rattle.mine_instance.specs.Largest.{first_largest}
use Rattle.mine_instance.specs.coefs.CoveredPairs.{coef_of}
use Rattle.mine_instance.specs.declared.coefs.coef.Coef.{Coef}
use Rattle.minelib_writing.specs.declared.lines.coefs.CoefForm.TheVariants.{OfChosen}
use Rattle.pit_units.specs.Line.{line_in}
use Rattle.minelib_writing.specs.inner.CoefParts.{coef_part, coef_text, cpit_coef_text, has_values}

-- the line of a coefficient, with its tonnes at the end
pub coef_text_is : (c : Coef)
    → coef_text c ≡ decimal c.b ++ 32 ∷ (decimal c.d ++ 32 ∷ (decimal c.r ++ 32 ∷ (shortest c.v ++ 10 ∷ [])))
coef_text_is c = search (rules, append_assoc)

-- the line of a coefficient in a CPIT
pub cpit_coef_text_is : (c : Coef) → cpit_coef_text c ≡ decimal c.b ++ 32 ∷ (decimal c.r ++ 32 ∷ (shortest c.v ++ 10 ∷ []))
cpit_coef_text_is c = search (rules, append_assoc)

-- bytes written before the end of a line leave the end unchanged
pub end_kept : (prefix old new : List ℕ) (start end : ℕ) → start ≤ end → end ≤ 256 → length old ≡ 304 → length new ≡ 304
    → line_in new start ≡ prefix ++ line_in old end → line_in new end ≡ line_in old end
end_kept prefix old new start end before within wide as_wide more =
    let count : 256 - start ≡ (end - start) + (256 - end) = omega (arith, before, within) in
    let back : start + (end - start) ≡ end = omega (arith, before) in
    let less : end - start ≡ length prefix =
    omega (
      arith,
      ap length more,
      length-append prefix (line_in old end),
      length-take (256 - start) (drop start new),
      length-drop start new,
      length-take (256 - end) (drop end old),
      length-drop end old,
      before,
      within,
      wide,
      as_wide,
    ) in
    sym
    (ap (λ n. drop (end - start) (take n (drop start new))) count ∙ drop-take (end - start) (256 - end) (drop start new)
    ∙ ap (take (256 - end)) (drop-drop (end - start) start new ∙ ap (λ n. drop n new) back))
    ∙ ap (λ k. drop k (line_in new start)) less ∙ ap (drop (length prefix)) more ∙ drop-append_seam prefix (line_in old end)

-- the next line
pub next_line : {X : Type 0} (f : X → List ℕ) (out now new line : List ℕ) (xs : List X) (i : ℕ) (x : X) → i < length xs → x ≡ get_or xs i x
    → now ≡ out ++ flat_map f (take i xs) → new ≡ now ++ line → line ≡ f x → new ≡ out ++ flat_map f (take (i + 1) xs)
next_line f out now new line xs i x within read so_far more is_line =
    let one : suc i ≡ i + 1 = omega arith in
    more ∙ ap (λ ys. ys ++ line) so_far ∙ ap (λ ys. (out ++ flat_map f (take i xs)) ++ ys) is_line ∙ flat_map_more f out (take i xs) x
    ∙ ap (λ ys. out ++ flat_map f ys) (ap (λ y. take i xs ++ y ∷ []) read ∙ sym (take-suc xs i x within)
    ∙ ap (λ n. take n xs) one)

-- the lines of all pairs are the lines of the group's coefficients
pub all_lines : (text : Coef → List ℕ) (b : ℕ) (v : ℤ) (out now : List ℕ) (pairs all : List (ℕ × ℕ)) (i : ℕ) → pairs ≡ all
    → length pairs ≤ i → now ≡ out ++ flat_map (λ pair. text (coef_of b v pair)) (take i pairs) → now ≡ out ++ flat_map text (map (coef_of b v) all)
all_lines text b v out now pairs all i is ended so_far =
    so_far ∙ ap (λ ps. out ++ flat_map (λ pair. text (coef_of b v pair)) ps) (take_all i pairs ended ∙ is)
    ∙ ap (λ lines. out ++ lines) (sym (flat_map-map text (coef_of b v) all))

-- a property of all coefficients of a group holds for a pair's coefficient
pub of_pair : (P : Coef → Type 0) (b : ℕ) (v : ℤ) (pairs all : List (ℕ × ℕ)) (i : ℕ) → pairs ≡ all → i < length pairs
    → All P (map (coef_of b v) all) → P (coef_of b v (get_or pairs i (0, 0)))
of_pair P b v pairs all i is within fit =
    let d = coef_of b v (0, 0) in
    subst P (get_or-map (coef_of b v) pairs i (0, 0) d within)
    ((subst (λ ps. All P (map (coef_of b v) ps)) (sym is) fit) i d (omega (arith, within, length-map pairs (coef_of b v))))

-- the coefficients at a block's destination are the chosen ones
pub chosen_parts : {V : Type 0} (list : V → List (List ℤ)) (values : Bor V) (b : ℕ) (v : ℤ) (destination : ℕ) (pairs : List (ℕ × ℕ))
    → destination ≡ first_largest (slice_index_or (list values.now) b [])
    → flat_map (λ c. if c.d == destination then cpit_coef_text c else []) (map (coef_of b v) pairs)
    ≡ flat_map (coef_part list (OfChosen values)) (map (coef_of b v) pairs)
chosen_parts list values b v destination [] is = refl
chosen_parts list values b v destination (p ∷ pairs) is =
    let rest = chosen_parts list values b v destination pairs is in
    λ j. cond (p.0 == is j) (cpit_coef_text (coef_of b v p)) [] ++ rest j

-- the parts of the next group
pub group_parts : (f : Coef → List ℕ) (all group : List Coef) (index count n : ℕ) → group ≡ take n (drop (index + count) all)
    → concat (take (count + n) (drop index (map f all))) ≡ concat (take count (drop index (map f all))) ++ flat_map f group
group_parts f all group index count n is =
    let parts = drop index (map f all) in
    let next : take n (drop count parts) ≡ map f group =
    ap (take n) (drop-drop count index (map f all) ∙ drop-map f (index + count) all) ∙ take-map f n (drop (index + count) all)
    ∙ ap (map f) (sym is) in
    ap concat (take-add count n parts) ∙ concat-append (take count parts) (take n (drop count parts))
    ∙ ap (λ ps. concat (take count parts) ++ concat ps) next
    ∙ ap (λ text. concat (take count parts) ++ text) (concat_is (map f group) ∙ flat_map-map (λ part. part) f group)

-- a property of all coefficients holds for the coefficients of a group
pub of_group : (P : Coef → Type 0) (all group : List Coef) (from n : ℕ) → from + n ≤ length all → group ≡ take n (drop from all)
    → All P all → All P group
of_group P all group from n within is fit k d h =
    let few : length group ≤ n = omega (arith, ap length is, length-take n (drop from all)) in
    let low : k < n = omega (arith, h, few) in
    subst P (sym (ap (λ xs. get_or xs k d) is ∙ get_or-take n (drop from all) k d low ∙ get_or-drop from all k d))
    (fit (from + k) d (omega (arith, low, within)))

-- the facts about its tonnes hold for each coefficient of a group
pub known_of : (P : ℤ → Type 0) (b : ℕ) (v : ℤ) (pairs : List (ℕ × ℕ)) → P v → All (λ c. P c.v) (map (coef_of b v) pairs)
known_of P b v pairs known = All-map (λ (c : Coef). P c.v) (coef_of b v) pairs (λ k d h. known)

-- a block with values is in the list, and its values are not empty
pub has_some : {V : Type 0} (list : V → List (List ℤ)) (values : Bor V) (b : ℕ) → IsTrue (has_values list (OfChosen values) b)
    → (b < length (list values.now)) × (0 < length (slice_index_or (list values.now) b []))
has_some list values b h = parts (length (list values.now)) (length (slice_index_or (list values.now) b [])) h
  where
    parts : (n m : ℕ) → IsTrue (nat_lt b n && nat_lt 0 m) → (b < n) × (0 < m)
    parts n m h = (grind (arith, nat_tests), grind (arith, nat_tests))

-- different numbers
pub differ : (a b : ℕ) → (a ≡ b → ⊥) → (a == b) ≡ false
differ a b h = ⊎_elim (λ same. absurd (h (eqb-true a b same))) (λ other. other) (cases_Bool (a == b))
