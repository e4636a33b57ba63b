-- The lazily computed coefficients equal the blocks' coefficients, and the coefficients of a block are consecutive.
use Rattle.std.proofs.Common.{◌≡◌, ℕ, zero, suc, ◌+◌, ◌*◌, ◌/◌, ◌%◌, ◌<◌, ◌≤◌, Bool, true, false, cond, List, [], ◌∷◌, ◌++◌, length, map, take, drop, get_or, refl, sym, ◌∙◌, ap, arith, append-nil, mod-lt, mul-zero}
use Rattle.std.specs.Prelude.{vec_len, ◌==◌}
use Rattle.std.specs.List.{flat_map, enumerate_from}
use Rattle.std.proofs.lemmas.List.{length-map, length-drop, drop-append-le, drop-map, nil_from_length}
use Rattle.std.proofs.lemmas.List.Concat.{flat_map-append, length-flat_map}
use Rattle.std.proofs.lemmas.List.FromFn.{length-enumerate_from}
use Rattle.std.proofs.lemmas.List.Sums.{sum_by-le}
use Rattle.std.proofs.Math.Nat.{div-add-mod, div-lt_iff_lt-mul, mul-le-mul_right}
use Rattle.std.proofs.Math.Seq.{drop-append_seam, drop-drop, take-append_seam}
use Rattle.plan_parts.specs.declared.block.Block.{Block}
use Rattle.mine_instance.specs.declared.coefs.coef.Coef.{Coef}
use Rattle.mine_instance.specs.declared.coefs.lazy.LazyCoefs.TheInside.{Inside}
use Rattle.mine_instance.specs.declared.coefs.lazy.HeavyBlock.{HeavyBlock}
use Rattle.mine_instance.specs.coefs.CoveredPairs.{block_coefs, block_coef, coefs_of}
use Rattle.mine_instance.specs.inner.LazyCoefFields.{heavy_one, heavy_of, heavy_coef, heavy_coefs, lazy_coefs, lazy_coefs_of}
use Rattle.mine_instance.proofs.BuildFacts.{length-flat}

one_block : (pairs : List (ℕ × ℕ)) (k : ℕ) (b : Block) → lazy_coefs pairs (heavy_one (k, b)) ≡ block_coefs pairs (k, b)
one_block pairs k b = at (b.kg == 0)
  where
    heavy : HeavyBlock
    heavy = record { b = k; kg = b.kg }

    at : (none : Bool) → lazy_coefs pairs (cond none [] (heavy ∷ [])) ≡ cond none [] (map (block_coef k b) pairs)
    at true = refl
    at false = append-nil (heavy_coefs pairs heavy)

numbered_blocks : (pairs : List (ℕ × ℕ)) (blocks : List (ℕ × Block))
    → lazy_coefs pairs (flat_map heavy_one blocks) ≡ flat_map (block_coefs pairs) blocks
numbered_blocks pairs [] = refl
numbered_blocks pairs (b ∷ bs) =
    flat_map-append (heavy_coefs pairs) (heavy_one b) (flat_map heavy_one bs)
    ∙ (λ j. one_block pairs b.0 b.1 j ++ numbered_blocks pairs bs j)

-- the computed coefficients equal the blocks' coefficients; blocks without tonnage have none
pub lazy_are : (pairs : List (ℕ × ℕ)) (blocks : List Block) → lazy_coefs pairs (heavy_of blocks) ≡ coefs_of pairs blocks
lazy_are pairs blocks = numbered_blocks pairs (enumerate_from 0 blocks)

-- their number is at most the number of blocks
pub heavy_few : (blocks : List Block) → length (heavy_of blocks) ≤ length blocks
heavy_few blocks =
    let numbered = enumerate_from 0 blocks in
    let most = sum_by-le (λ e. length (heavy_one e)) 1 numbered (λ k d h. at_most_one (get_or numbered k d)) in
    omega (arith, length-flat_map heavy_one numbered, most, length-enumerate_from 0 blocks)
  where
    at_most_one : (e : ℕ × Block) → length (heavy_one e) ≤ 1
    at_most_one e = by (e.1.kg == 0) (record { b = e.0; kg = e.1.kg })
      where
        by : (none : Bool) (heavy : HeavyBlock) → length (cond none [] (heavy ∷ [])) ≤ 1
        by true heavy = omega arith
        by false heavy = omega arith

-- one for each block and pair
pub length-lazy : (pairs : List (ℕ × ℕ)) (heavy : List HeavyBlock) → length (lazy_coefs pairs heavy) ≡ length heavy * length pairs
length-lazy pairs heavy = length-flat (heavy_coefs pairs) (length pairs) (λ block. length-map pairs (heavy_coef block)) heavy

pub ruleset counts = (length-lazy)

-- without pairs there are none
pub none_found : (pairs : List (ℕ × ℕ)) (blocks : List Block) → length pairs ≡ 0 → coefs_of pairs blocks ≡ []
none_found pairs blocks none =
    sym (lazy_are pairs blocks)
    ∙ nil_from_length (lazy_coefs pairs (heavy_of blocks))
    (length-lazy pairs (heavy_of blocks) ∙ ap (λ n. length (heavy_of blocks) * n) none ∙ mul-zero (length (heavy_of blocks)))

-- the row with a place, and the place in the row
pub row_and_place : (index width n : ℕ) → index < n * width
    → (0 < width) × (index / width < n) × (index % width < width) × (index / width * width + index % width ≡ index)
row_and_place index width n h =
    let some : 0 < width = wide width h in
    let whole : index / width * width + index % width ≡ index =
    let back : width * (index / width) + index % width ≡ index = div-add-mod index width in grind (arith, back) in
    (some, (div-lt_iff_lt-mul some).1 h, mod-lt index some, whole)
  where
    wide : (width : ℕ) → index < n * width → 0 < width
    wide zero h = absurd (grind arith)
    wide (suc width) h = omega arith

-- the coefficients from a block on
from_block : (pairs : List (ℕ × ℕ)) (heavy : List HeavyBlock) (i j : ℕ) (b : HeavyBlock) → i < length heavy → j ≤ length pairs
    → b ≡ get_or heavy i b
    → drop (i * length pairs + j) (lazy_coefs pairs heavy) ≡ drop j (heavy_coefs pairs b) ++ lazy_coefs pairs (drop (suc i) heavy)
from_block pairs [] i j b h k is = absurd (omega (arith, h))
from_block pairs (x ∷ heavy) zero j b h k is =
    let all = length-map pairs (heavy_coef x) in
    let same : zero * length pairs + j ≡ j = grind arith in
    ap (λ n. drop n (heavy_coefs pairs x ++ lazy_coefs pairs heavy)) same
    ∙ drop-append-le j (heavy_coefs pairs x) (lazy_coefs pairs heavy) (omega (arith, all, k))
    ∙ ap (λ y. drop j (heavy_coefs pairs y) ++ lazy_coefs pairs heavy) (sym is)
from_block pairs (x ∷ heavy) (suc i) j b h k is =
    let own = heavy_coefs pairs x in
    let all : length own ≡ length pairs = length-map pairs (heavy_coef x) in
    let past : suc i * length pairs + j ≡ length own + (i * length pairs + j) = grind (arith, all) in
    ap (λ n. drop n (own ++ lazy_coefs pairs heavy)) past
    ∙ sym (drop-drop (i * length pairs + j) (length own) (own ++ lazy_coefs pairs heavy))
    ∙ ap (drop (i * length pairs + j)) (drop-append_seam own (lazy_coefs pairs heavy))
    ∙ from_block pairs heavy i j b (omega (arith, h)) k is

-- the coefficients of a block at the pairs from one pair on are consecutive
pub of_block : (pairs : List (ℕ × ℕ)) (heavy : List HeavyBlock) (i j : ℕ) (b : HeavyBlock) → i < length heavy → j ≤ length pairs
    → b ≡ get_or heavy i b
    → map (heavy_coef b) (drop j pairs) ≡ take (length (drop j pairs)) (drop (i * length pairs + j) (lazy_coefs pairs heavy))
of_block pairs heavy i j b h k is =
    let own = map (heavy_coef b) (drop j pairs) in
    let others = lazy_coefs pairs (drop (suc i) heavy) in
    let many : length own ≡ length (drop j pairs) = length-map (drop j pairs) (heavy_coef b) in
    sym (take-append_seam own others) ∙ ap (λ n. take n (own ++ others)) many
    ∙ ap (take (length (drop j pairs))) (ap (λ xs. xs ++ others) (sym (drop-map (heavy_coef b) j pairs)) ∙ sym (from_block pairs heavy i j b h k is))

module _ (f : Inside) (all : List Coef) (width : ℕ) (is : lazy_coefs_of f ≡ all) (len : width ≡ vec_len f.pairs) where
  wide : width ≡ length f.pairs.items
  wide = omega (arith, len, f.pairs.ok)

  -- their number
  length-all : length all ≡ length f.heavy.items * width
  length-all = sym (ap length is) ∙ length-lazy f.pairs.items f.heavy.items ∙ ap (λ n. length f.heavy.items * n) (sym wide)

  -- the block and the pair at a place
  pub place_of : (index : ℕ) → index < length all
      → (0 < width) × (index / width < length f.heavy.items) × (index % width < width) × (index / width * width + index % width ≡ index)
  place_of index h = row_and_place index width (length f.heavy.items) (omega (arith, h, length-all))

  -- the coefficients of a block at the pairs from one pair on start at the place of the first
  pub group_is : (from : ℕ) (b : HeavyBlock) → from < length all → b ≡ get_or f.heavy.items (from / width) b
      → map (heavy_coef b) (drop (from % width) f.pairs.items)
      ≡ take (length (drop (from % width) f.pairs.items)) (drop from all)
  group_is from b h at =
      let place = place_of from h in
      let here : from / width * length f.pairs.items + from % width ≡ from =
      ap (λ n. from / width * n + from % width) (sym wide) ∙ place.3 in
      of_block f.pairs.items f.heavy.items (from / width) (from % width) b place.1 (omega (arith, place.2, wide)) at
      ∙ (λ j. take (length (drop (from % width) f.pairs.items)) (drop (here j) (is j)))

  -- and all of them are there
  pub whole_within : (from : ℕ) → from < length all → from + length (drop (from % width) f.pairs.items) ≤ length all
  whole_within from h =
      let place = place_of from h in
      let pairs = f.pairs.items in
      let next : (from / width + 1) * width ≤ length f.heavy.items * width = mul-le-mul_right width (omega (arith, place.1)) in
      let row : (from / width + 1) * width ≡ from / width * width + width = grind arith in
      omega (arith, length-drop (from % width) pairs, place.2, place.3, next, row, wide, length-all)
