-- Items whose worths stand in one list, of each item as many.
use Rattle.std.proofs.Common.{◌≡◌, ℕ, zero, suc, ◌+◌, ◌*◌, ◌<◌, ◌≤◌, ℤ, List, [], ◌∷◌, ◌++◌, length, take, drop, get_or, cond, nat_lt, Option, Some, None, refl, sym, ap, ◌∙◌, arith, zero-mul, length-append, length-drop, length-take-le}
use Rattle.std.specs.List.{slice_get}
use Rattle.std.specs.Option.{option_map}
use Rattle.std.proofs.Math.Nat.{mul-le-mul_right}
use Rattle.std.proofs.lemmas.Bool.{cond-true, lt-ltb}
use Rattle.std.proofs.lemmas.List.{drop-drop, drop-append-le, take_all, take-append-le}
use Rattle.std.proofs.lemmas.Option.{slice_get_read}
use Rattle.plan_parts.proofs.BlockFacts.{block_again}
use Rattle.plan_parts.specs.Block.{block_with}
use Rattle.plan_parts.specs.declared.block.Block.{Block}
use Rattle.plan_parts.specs.declared.ranges.TheConstants.{MAX_ZONES}
use Rattle.rows.specs.declared.item.Item.{Item}
use Rattle.rows.specs.declared.item.Valued.{Valued}
use Rattle.rows.specs.Packed.{row_in}
use Rattle.rows.specs.inner.EntryView.{EntryView}
use Rattle.rows.specs.inner.Entries.{item_of, item_with, items_of}

pub length-items_of : (width : ℕ) (ws : List ℤ) (es : List EntryView) → length (items_of width ws es) ≡ length es
length-items_of width ws [] = refl
length-items_of width ws (e ∷ es) = ap suc (length-items_of width (drop width ws) es)

-- the worths of an entry end where those of the next one begin
pub own_within : (i n width : ℕ) → i < n → i * width + width ≤ n * width
own_within i n width h = grind (arith, mul-le-mul_right)

-- the worths behind those of the first entry
rest_whole : (n width : ℕ) (ws : List ℤ) → length ws ≡ suc n * width → length (drop width ws) ≡ n * width
rest_whole n width ws whole = grind (arith, length-drop)

-- each entry has as many worths
pub own_long : (width : ℕ) (ws : List ℤ) (n i : ℕ) → length ws ≡ n * width → i < n → length (take width (drop (i * width) ws)) ≡ width
own_long width ws n i whole within =
    let room = own_within i n width within in
    length-take-le width (drop (i * width) ws) (omega (arith, length-drop (i * width) ws))

pub entry_block : (own : List ℤ) (file number : ℕ) (block : Option Block)
    → option_map (λ (row : Valued). row.block) (row_in (item_of own file number block)) ≡ block
entry_block own file number None = refl
entry_block own file number (Some block) = refl

-- a block comes back from its fields, and its zone says that there is one
pub block_kept : (b : Block) (kg : ℕ) → kg ≡ b.kg
    → cond (nat_lt b.zone MAX_ZONES) (Some (block_with b.x b.y b.z kg b.grade b.zone)) None ≡ Some b
block_kept b kg same =
    cond-true (nat_lt b.zone MAX_ZONES) _ _ (lt-ltb b.zone MAX_ZONES b.zone_in_range)
    ∙ ap Some (ap (λ k. block_with b.x b.y b.z k b.grade b.zone) same ∙ block_again b)

pub item_at : (width : ℕ) (ws : List ℤ) (es : List EntryView) (i : ℕ) →
    slice_get (items_of width ws es) i ≡ option_map (item_with (take width (drop (i * width) ws))) (slice_get es i)
item_at width ws [] i = refl
item_at width ws (e ∷ es) zero = rw zero-mul refl
item_at width ws (e ∷ es) (suc i) =
    item_at width (drop width ws) es i
    ∙ ap (λ own. option_map (item_with (take width own)) (slice_get es i))
    (drop-drop (i * width) width ws ∙ ap (λ k. drop k ws) (grind arith))

-- the item of an entry that is read
pub item_there : (width : ℕ) (ws : List ℤ) (es : List EntryView) (items : List Item) (i : ℕ) (e : EntryView) → items_of width ws es ≡ items
    → i < length items → e ≡ get_or es i e → slice_get items i ≡ Some (item_with (take width (drop (i * width) ws)) e)
item_there width ws es items i e is within read =
    let below : i < length es = omega (arith, within, ap length is, length-items_of width ws es) in
    ap (λ items. slice_get items i) (sym is) ∙ item_at width ws es i
    ∙ ap (option_map (item_with (take width (drop (i * width) ws)))) (slice_get_read es _ i e refl below read)

pub items_push : (width : ℕ) (ws own : List ℤ) (es : List EntryView) (e : EntryView) → length ws ≡ length es * width → length own ≡ width
    → items_of width (ws ++ own) (es ++ e ∷ []) ≡ items_of width ws es ++ item_with own e ∷ []
items_push width [] own [] e whole wide = ap (λ o. item_with o e ∷ []) (take_all width own (omega arith))
items_push width (w ∷ ws) own [] e whole wide = absurd (grind (arith))
items_push width ws own (x ∷ es) e whole wide =
    let within : width ≤ length ws = grind arith in
    rw (take-append-le width ws own within, drop-append-le width ws own within)
    (ap (λ items. item_with (take width ws) x ∷ items)
    (items_push width (drop width ws) own es e (rest_whole (length es) width ws whole) wide))

whole_more : (all n width later after : ℕ) → all ≡ n * width → later ≡ all + width → after ≡ n + 1 → later ≡ after * width
whole_more all n width later after whole is_later is_after = rw is_after (next all n width later whole is_later)
  where
    next : (all n width later : ℕ) → all ≡ n * width → later ≡ all + width → later ≡ (n + 1) * width
    next all n width later whole is_later = grind arith

-- the list and its worths, where one item more was kept
module _ (width : ℕ) (ws own later : List ℤ) (es after : List EntryView) (e : EntryView) (whole : length ws ≡ length es * width)
    (wide : length own ≡ width) (is_later : later ≡ ws ++ own) (is_after : after ≡ es ++ e ∷ []) where
  pub still_whole : length later ≡ length after * width
  still_whole =
      ap length is_later
      ∙ whole_more (length ws) (length es) width (length (ws ++ own)) (length (es ++ e ∷ [])) whole
      (length-append ws own ∙ ap (λ n. length ws + n) wide) (length-append es (e ∷ []))
      ∙ ap (λ after. length after * width) (sym is_after)

  pub one_more : items_of width later after ≡ items_of width ws es ++ item_with own e ∷ []
  one_more = rw (is_later, is_after) (items_push width ws own es e whole wide)

pub ruleset entries = (length-items_of, own_within, item_at)
