-- The table of cells: its keys, its positions, and the result of a look-up.
use Rattle.std.proofs.Common.{◌≡◌, ℕ, ◌+◌, ◌<◌, false, List, [], ◌∷◌, ◌++◌, Some, All, length, take, get_or, nat_eq, refl, sym, ap, subst, ◌∙◌, arith}
use Rattle.std.specs.Map.{keys_of, lookup}
use Rattle.std.specs.List.{enumerate_from, IsDistinct}
use Rattle.std.proofs.lemmas.Bool.{eqb-true, eq-eqb}
use Rattle.std.proofs.lemmas.List.{get_or-map, get_or-take, length-take, length-map, map-append}
use Rattle.std.proofs.lemmas.List.Elements.{All-contains}
use Rattle.std.proofs.lemmas.List.FromFn.{get_or-enumerate_from, length-enumerate_from}
use Rattle.std.proofs.lemmas.Map.Keys.{apart_from_distinct}
use Rattle.std.proofs.lemmas.Map.Views.{Contains-from_lookup}
use Rattle.indexmap.proofs.CallerLemmas.{insert_entry-new}
use Rattle.plan_parts.specs.declared.block.Block.{Block}
use Rattle.precedence.specs.Codes.{place_code, place_codes}
use Rattle.precedence.specs.Identifier.{IsFirstAgain, is_same_cell}
use Rattle.precedence.specs.inner.Seen.{placed, with_place, IsPlaced}
use Rattle.precedence.proofs.Order.{same_is}
use Rattle.precedence.proofs.PositionsWhere.{numbered_more}

pub length-placed : (n : ℕ) (bs : List Block) → length (placed n bs) ≡ length bs
length-placed n bs = length-map (enumerate_from n bs) with_place ∙ length-enumerate_from n bs

pub keys-placed : (n : ℕ) (bs : List Block) → keys_of (placed n bs) ≡ place_codes bs
keys-placed n [] = refl
keys-placed n (b ∷ bs) = ap (λ ks. place_code b ∷ ks) (keys-placed (n + 1) bs)

-- the entry at i
pub placed_at : (n : ℕ) (bs : List Block) (i : ℕ) (d : Block) (e : ℕ × ℕ) → i < length bs
    → get_or (placed n bs) i e ≡ (place_code (get_or bs i d), n + i)
placed_at n bs i d e lt =
    get_or-map with_place (enumerate_from n bs) i (0, d) e (omega (arith, length-enumerate_from n bs))
    ∙ ap with_place (get_or-enumerate_from n bs i (0, d) lt)

-- every entry has the position and the cell of a block
pub all_placed : (listed : List Block) → All (IsPlaced listed) (placed 0 listed)
all_placed [] k e lt = absurd (omega arith)
all_placed (b ∷ bs) k e lt =
    let listed : List Block = b ∷ bs in
    let within : k < length listed = omega (arith, length-placed 0 listed) in
    let own : (d : Block) → get_or (placed 0 listed) k e ≡ (place_code (get_or listed k d), 0 + k) = λ d. placed_at 0 listed k d e within in
    let there : (get_or (placed 0 listed) k e).1 ≡ k = ap (λ (p : ℕ × ℕ). p.1) (own b) ∙ omega arith in
    (omega (arith, there), λ d. ap (λ i. place_code (get_or listed i d)) there ∙ sym (ap (λ (p : ℕ × ℕ). p.0) (own d)))

-- blocks whose table has no cell twice are in different cells
pub apart : (bs : List Block) (i j : ℕ) (d : Block) → IsDistinct nat_eq (keys_of (placed 0 bs)) → i < j → j < length bs
    → is_same_cell (get_or bs i d) (get_or bs j d) ≡ false
apart bs i j d distinct lt within =
    let long = length-map bs place_code in
    let code : (k : ℕ) → k < length bs → place_code (get_or bs k d) ≡ get_or (place_codes bs) k 0 =
    λ k h. sym (get_or-map place_code bs k d 0 h) in
    same_is (get_or bs i d) (get_or bs j d) ∙ (λ t. nat_eq (code i (omega arith) t) (code j within t))
    ∙ apart_from_distinct nat_eq (place_codes bs) i j 0 (subst (IsDistinct nat_eq) (keys-placed 0 bs) distinct) lt (omega arith)

-- the table of the blocks before a block, with its own cell appended, is the table including the block
pub placed_on : (listed : List Block) (position place : ℕ) (block : Block) (table more : List (ℕ × ℕ)) → position < length listed
    → block ≡ get_or listed position block → place ≡ place_code block → table ≡ placed 0 (take position listed)
    → more ≡ table ++ (place, position) ∷ []
    → more ≡ placed 0 (take (position + 1) listed)
placed_on listed position place block table more lt is at before push =
    rw (numbered_more listed position block lt is, map-append) (push ∙ (λ j. before j ++ (at j, position) ∷ []))

-- the error at a cell that the table has
pub first_again : (listed : List Block) (first again c : ℕ) → again < length listed
    → ((d : Block) → place_code (get_or listed again d) ≡ c)
    → lookup (nat_eq c) (placed 0 (take again listed)) ≡ Some first
    → IsDistinct nat_eq (keys_of (placed 0 (take again listed)))
    → IsFirstAgain listed first again
first_again listed first again c within place found distinct =
    let front = take again listed in
    let long = length-take again listed in
    let there = All-contains (IsPlaced front) (placed 0 front) (c, first) (all_placed front)
    (Contains-from_lookup eqb-true c first (placed 0 front) found) in
    record {
      before = omega (arith, there.0);
      within = within;
      same = λ d.
          let read = get_or-take again listed first d (omega (arith, there.0)) in
          same_is (get_or listed first d) (get_or listed again d)
          ∙ eq-eqb _ _ (ap place_code (sym read) ∙ there.1 d ∙ sym (place d));
      none_before = λ i j e lt below.
          let u = get_or-take again listed i e (omega (arith, lt, below)) in
          let v = get_or-take again listed j e below in
          let w = apart front i j e distinct lt (omega arith) in
          rw (← u, ← v) w;
    }

pub ruleset noted = (insert_entry-new)
