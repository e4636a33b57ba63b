-- The positions of a block's values among all values.
use Rattle.std.proofs.Common.{◌≡◌, ℕ, zero, suc, ◌+◌, ◌*◌, ◌<◌, ◌≤◌, List, [], ◌∷◌, ◌++◌, length, take, drop, get_or, refl, sym, ◌∙◌, ap, add-one, arith, zero-mul, All, length-drop, length-take-le}
use Rattle.std.proofs.Math.Nat.{mul-le-mul_right}
use Rattle.std.specs.List.{flat_map}
use Rattle.std.proofs.lemmas.List.{drop-drop, drop-append-le, take_all, take-append-drop, take-append-le}
use Rattle.std.proofs.lemmas.List.Concat.{flat_map-cons}
use Rattle.std.proofs.lemmas.List.Elements.{All-from_get_or}
use Rattle.mine_instance.specs.ByBlock.{by_block}

pub length-by_block : {A : Type 0} (n width : ℕ) (items : List A) → length (by_block n width items) ≡ n
length-by_block zero width items = refl
length-by_block (suc n) width items = ap suc (length-by_block n width (drop width items))

-- the values of a block end where the values of the next block begin
pub block_within : (i n width : ℕ) → i < n → i * width + width ≤ n * width
block_within i n width h = grind (arith, mul-le-mul_right)

pub get_or-by_block : {A : Type 0} (n width i : ℕ) (items : List A) → i < n
    → get_or (by_block n width items) i [] ≡ take width (drop (i * width) items)
get_or-by_block zero width i items h = absurd (omega arith)
get_or-by_block (suc n) width zero items h = rw zero-mul refl
get_or-by_block (suc n) width (suc i) items h =
    get_or-by_block n width i (drop width items) (omega arith)
    ∙ ap (take width) (drop-drop (i * width) width items ∙ ap (λ k. drop k items) (grind arith))

-- each block has `width` values
pub blocks_have_width : {A : Type 0} (n width : ℕ) (items : List A) → length items ≡ n * width
    → All (λ values. length values ≡ width) (by_block n width items)
blocks_have_width n width items whole =
    All-from_get_or (λ values. length values ≡ width) (by_block n width items) [] (λ k h. at k (rw length-by_block at h))
  where
    at : (k : ℕ) → k < n → length (get_or (by_block n width items) k []) ≡ width
    at k h =
        let room : k * width + width ≤ n * width = block_within k n width h in
        ap length (get_or-by_block n width k items h)
        ∙ length-take-le width (drop (k * width) items) (omega (arith, length-drop (k * width) items))

-- the items after the first block's
rest_whole : {A : Type 0} (n width : ℕ) (items : List A) → length items ≡ suc n * width → length (drop width items) ≡ n * width
rest_whole n width items whole = grind (arith, length-drop)

-- appending another block
pub by_block-push : {A : Type 0} (n width : ℕ) (items values : List A) → length items ≡ n * width → length values ≡ width
    → by_block (suc n) width (items ++ values) ≡ by_block n width items ++ values ∷ []
by_block-push zero width [] values whole wide = ap (λ r. r ∷ []) (take_all width values (omega arith))
by_block-push zero width (x ∷ items) values whole wide = absurd (grind (arith))
by_block-push (suc n) width items values whole wide =
    let within : width ≤ length items = grind arith in
    rw (take-append-le width items values within, drop-append-le width items values within)
    (ap (λ lists. take width items ∷ lists) (by_block-push n width (drop width items) values (rest_whole n width items whole) wide))

-- together they are the items
pub by_block-flat : {A : Type 0} (n width : ℕ) (items : List A) → length items ≡ n * width
    → flat_map (λ values. values) (by_block n width items) ≡ items
by_block-flat zero width [] whole = refl
by_block-flat zero width (x ∷ items) whole = absurd (grind arith)
by_block-flat (suc n) width items whole =
    flat_map-cons (λ values. values) (take width items) (by_block n width (drop width items))
    ∙ ap (λ rest. take width items ++ rest) (by_block-flat n width (drop width items) (rest_whole n width items whole))
    ∙ take-append-drop width items

-- appending a block to blocks with the same number of values; without blocks, any width is theirs
pub block_pushed : {A : Type 0} (n width : ℕ) (items values : List A) → length items ≡ n * width
    → All (λ r. length r ≡ length values) (by_block n width items)
    → (length items ≡ n * length values) × (by_block (n + 1) (length values) (items ++ values) ≡ by_block n width items ++ values ∷ [])
block_pushed zero width items values whole all =
    let none : length items ≡ 0 * length values = grind arith in
    (none, by_block-push zero (length values) items values none refl)
block_pushed (suc n) width items values whole all =
    let within : width ≤ length items = grind arith in
    let same : width ≡ length values = sym (length-take-le width items within) ∙ all 0 [] (omega arith) in (
      whole ∙ ap (λ w. suc n * w) same,
      ap (λ m. by_block m (length values) (items ++ values)) (add-one (suc n))
          ∙ ap (λ w. by_block (suc (suc n)) w (items ++ values)) (sym same) ∙ by_block-push (suc n) width items values whole (sym same),
    )

pub ruleset by_blocks = (length-by_block, block_within, get_or-by_block)
