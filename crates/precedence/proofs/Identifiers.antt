-- The sorted table of cells numbers the blocks.
use Rattle.std.proofs.Common.{◌≡◌, ℕ, ◌+◌, ◌<◌, Bool, true, false, List, [], ◌∷◌, All, Contains, length, map, get_or, cond, nat_lt, nat_eq, count_by, sym, ap, subst, ◌∙◌, arith}
use Rattle.std.specs.Bool.{IsTrue}
use Rattle.std.specs.List.{IsAllAdjacentAnswer, IsDistinct}
use Rattle.std.specs.List.Sorted.{IsNonDecreasing, IsNonDecreasingBy, IsPermutation, IsStrictlyIncreasing}
use Rattle.std.specs.Map.{keys_of, values_of}
use Rattle.std.proofs.lemmas.Bool.{false≢true, ltb-true}
use Rattle.std.proofs.lemmas.Bool.Decides.{nat_tests}
use Rattle.std.proofs.lemmas.Grind.{same_number_lists}
use Rattle.std.proofs.lemmas.List.{length-map, get_or-map}
use Rattle.std.proofs.lemmas.List.Elements.{All-from_get_or, Contains-get_or, at_from_Contains}
use Rattle.std.proofs.lemmas.List.Sorted.{All-permutation, Contains-permutation, IsPermutation-map, length_permutation, sum_by-IsPermutation}
use Rattle.std.proofs.lemmas.Map.Keys.{IsDistinct-IsPermutation, IsStrictlyIncreasing-from_distinct}
use Rattle.plan_parts.specs.declared.block.Block.{Block}
use Rattle.precedence.specs.Codes.{place_code, place_codes}
use Rattle.precedence.specs.Identifier.{id}
use Rattle.precedence.specs.Numbering.{IsNumbering}
use Rattle.precedence.specs.inner.Seen.{placed, IsPlaced, IsSortedTable}
use Rattle.precedence.proofs.Order.{id_is}
use Rattle.precedence.proofs.SeenPlaces.{keys-placed, length-placed, placed_at, all_placed}
use Rattle.precedence.proofs.ranges.Starts.{count_below}

keys_permuted : (listed : List Block) (entries : List (ℕ × ℕ)) → IsPermutation (placed 0 listed) entries
    → IsPermutation (place_codes listed) (keys_of entries)
keys_permuted listed entries permuted = rw (← keys-placed 0 listed) (IsPermutation-map (λ e. e.0) (placed 0 listed) entries permuted)

-- the entries of blocks, sorted by cell, ascend strictly if no two blocks have the same cell
pub keys_rise : (listed : List Block) (entries : List (ℕ × ℕ)) → IsPermutation (placed 0 listed) entries
    → IsNonDecreasingBy (λ e. e.0) entries → IsDistinct nat_eq (place_codes listed) → IsStrictlyIncreasing (keys_of entries)
keys_rise listed entries permuted sorted distinct = IsStrictlyIncreasing-from_distinct (keys_of entries) no_falls
    (IsDistinct-IsPermutation nat_eq (λ x y. grind (arith, nat_tests)) (place_codes listed) (keys_of entries)
    (keys_permuted listed entries permuted) distinct)
  where
    no_falls : IsNonDecreasing (keys_of entries)
    no_falls i j d le lt =
        let long = length-map entries (λ (e : ℕ × ℕ). e.0) in
        let low = get_or-map (λ (e : ℕ × ℕ). e.0) entries i (0, 0) d (omega arith) in
        let high = get_or-map (λ (e : ℕ × ℕ). e.0) entries j (0, 0) d (omega arith) in
        omega (arith, sorted i j (0, 0) le (omega arith))

-- the entries ascend strictly if a test finds each below the next
pub keys_rise_if_sorted : (entries : List (ℕ × ℕ)) (r : Bool) → IsAllAdjacentAnswer (λ e f t. t ≡ nat_lt e.0 f.0) entries r → IsTrue r
    → IsStrictlyIncreasing (keys_of entries)
keys_rise_if_sorted entries false exact passed k lt = absurd (false≢true passed)
keys_rise_if_sorted entries true exact passed k lt =
    let long = length-map entries (λ (e : ℕ × ℕ). e.0) in
    let low = get_or-map (λ (e : ℕ × ℕ). e.0) entries k (0, 0) 0 (omega arith) in
    let high = get_or-map (λ (e : ℕ × ℕ). e.0) entries (k + 1) (0, 0) 0 (omega arith) in
    omega (arith, low, high, ltb-true _ _ (sym (exact k (0, 0) (omega arith))))

module _ (listed : List Block) (entries : List (ℕ × ℕ)) (table : IsSortedTable listed entries)
    (positions : List ℕ) (are : positions ≡ values_of entries) where
  as_many : length entries ≡ length listed
  as_many = length_permutation (placed 0 listed) entries table.permuted ∙ length-placed 0 listed

  pub as_many_positions : length positions ≡ length listed
  as_many_positions = ap length are ∙ length-map entries (λ e. e.1) ∙ as_many

  each_placed : All (IsPlaced listed) entries
  each_placed = All-permutation (IsPlaced listed) (placed 0 listed) entries table.permuted (all_placed listed)

  position_is : (k : ℕ) (e : ℕ × ℕ) → k < length listed → get_or positions k 0 ≡ (get_or entries k e).1
  position_is k e lt = ap (λ ps. get_or ps k 0) are ∙ get_or-map (λ e. e.1) entries k e 0 (omega (arith, as_many))

  inside : (k : ℕ) → k < length listed → get_or positions k 0 < length listed
  inside k lt = omega (arith, position_is k (0, 0) lt, (each_placed k (0, 0) (omega (arith, as_many))).0)

  pub all_inside : All (λ p. p < length listed) positions
  all_inside = All-from_get_or (λ p. p < length listed) positions 0 (λ k lt. inside k (omega (arith, as_many_positions)))

  module _ (blocks : List Block) (exact : (d : Block) → blocks ≡ map (λ p. get_or listed p d) positions)
      (long : length blocks ≡ length positions) where
    -- the block at k
    block_is : (k : ℕ) (d : Block) → k < length listed → get_or blocks k d ≡ get_or listed (get_or positions k 0) d
    block_is k d lt =
        ap (λ bs. get_or bs k d) (exact d) ∙ get_or-map (λ p. get_or listed p d) positions k 0 d (omega (arith, as_many_positions))

    code_is : (k : ℕ) (d : Block) → k < length listed → place_code (get_or blocks k d) ≡ get_or (keys_of entries) k 0
    code_is k d lt =
        ap place_code (block_is k d lt)
        ∙ ap (λ p. place_code (get_or listed p d)) (position_is k (0, 0) lt)
        ∙ (each_placed k (0, 0) (omega (arith, as_many))).1 d
        ∙ sym (get_or-map (λ e. e.0) entries k (0, 0) 0 (omega (arith, as_many)))

    numbers : (k : ℕ) (d : Block) → k < length listed → id listed (get_or blocks k d) ≡ k
    numbers k d lt =
        let c = place_code (get_or blocks k d) in
        id_is listed (get_or blocks k d)
        ∙ sym (sum_by-IsPermutation (λ key. cond (nat_lt key c) 1 0) (place_codes listed) (keys_of entries)
        (keys_permuted listed entries table.permuted))
        ∙ ap (λ t. count_by (λ key. nat_lt key t) (keys_of entries)) (code_is k d lt)
        ∙ count_below (keys_of entries) k table.rising (omega (arith, length-map entries (λ (e : ℕ × ℕ). e.0), as_many))

    -- an entry has the cell of the block at position i of the list
    place_of : (i : ℕ) (d : Block) → i < length listed → (k : ℕ) × (k < length listed) × (get_or positions k 0 ≡ i)
    place_of i d lt =
        let e : ℕ × ℕ = (place_code (get_or listed i d), i) in
        let first : (0 + i) ≡ i = omega arith in
        let same : get_or (placed 0 listed) i e ≡ e = placed_at 0 listed i d e lt ∙ ap (λ p. (place_code (get_or listed i d), p)) first in
        let P : ℕ × ℕ → Type 0 = Contains (placed 0 listed) in
        let there = subst P same (Contains-get_or (placed 0 listed) i e (omega (arith, length-placed 0 listed))) in
        let here = at_from_Contains entries e (Contains-permutation (placed 0 listed) entries e table.permuted there) in
        let within : here.0 < length listed = omega (arith, here.1, as_many) in
        (here.0, within, position_is here.0 e within ∙ ap (λ e. e.1) (here.2 e))

    -- the identifier of the block is the entry's index
    id_at : (i : ℕ) (d : Block) (lt : i < length listed) → id listed (get_or listed i d) ≡ (place_of i d lt).0
    id_at i d lt =
        let at = place_of i d lt in
        ap (id listed) (ap (λ p. get_or listed p d) (sym at.2) ∙ sym (block_is at.0 d at.1)) ∙ numbers at.0 d at.1

    pub numbering_is : IsNumbering listed (record { blocks = blocks; positions = positions })
    numbering_is = record {
      blocks = long ∙ as_many_positions;
      positions = as_many_positions;
      identifiers = numbers;
      within = inside;
      at_position = λ k d lt. sym (block_is k d lt);
      numbered = λ i d lt. omega (arith, id_at i d lt, (place_of i d lt).1);
      found = λ i d lt. ap (λ k. get_or positions k 0) (id_at i d lt) ∙ (place_of i d lt).2;
    }

    -- the blocks ascend
    pub blocks_rise : IsStrictlyIncreasing (place_codes blocks)
    blocks_rise =
        let keys = keys_of entries in
        let codes_long = length-map blocks place_code in
        let keys_long = length-map entries (λ (e : ℕ × ℕ). e.0) in
        rw (same_number_lists (place_codes blocks) keys (omega (arith, as_many, as_many_positions, long))
        (λ k lt. code_at blocks k (get_or keys k 0) (omega arith) (λ d. code_is k d (omega (arith, as_many_positions, long))))) table.rising
      where
        -- a block's code, if it is known for every default
        code_at : (bs : List Block) (k c : ℕ) → k < length bs → ((d : Block) → place_code (get_or bs k d) ≡ c)
            → get_or (place_codes bs) k 0 ≡ c
        code_at [] k c lt h = absurd (omega arith)
        code_at (b ∷ bs) k c lt h = get_or-map place_code (b ∷ bs) k b 0 lt ∙ h b
