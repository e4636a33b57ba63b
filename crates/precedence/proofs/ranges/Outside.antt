-- Blocks outside the rows of a cone.
use Rattle.std.proofs.Common.{◌≡◌, ℕ, ◌+◌, ◌-◌, ◌/◌, ◌<◌, ◌≤◌, ◌||◌, true, false, List, All, [], ◌∷◌, length, drop, get_or, take, length-take, length-drop, refl, sym, ap, subst, ◌∙◌, arith}
use Rattle.std.proofs.lemmas.List.{get_or-drop, get_or-map, get_or-take}
use Rattle.std.proofs.lemmas.List.Elements.{All-head, All-tail}
use Rattle.plan_parts.specs.declared.block.Block.{Block}
use Rattle.precedence.specs.Codes.{place_code, place_codes}
use Rattle.precedence.specs.inner.Outside.{x_of, IsInColumns, IsNoWider}
use Rattle.precedence.specs.inner.lanes.Bits.{has_bit}
use Rattle.precedence.specs.inner.Rows.{is_in_row, is_in_rows}
use Rattle.precedence.specs.declared.cones.cone_rows.Row.{Row}

-- a block's code has its index along x
pub x_is : (b : Block) → x_of (place_code b) ≡ b.x
x_is b = omega (arith, b.x_in_grid)

-- the columns of a part of the blocks have each of them
pub in_columns : (columns : ℕ) (blocks : List Block) (start end m : ℕ) → start ≤ m → m < end → end ≤ length blocks
    → ((k : ℕ) (d : Block) → k < length (take (end - start) (drop start blocks))
    → has_bit columns ((get_or (take (end - start) (drop start blocks)) k d).x / 79) ≡ true)
    → IsInColumns columns (get_or (place_codes blocks) m 0)
in_columns columns [] start end m le lt within held = absurd (omega arith)
in_columns columns (b ∷ bs) start end m le lt within held =
    let blocks : List Block = b ∷ bs in
    let long : m - start < length (take (end - start) (drop start blocks)) =
    omega (arith, length-take (end - start) (drop start blocks), length-drop start blocks) in
    let at : start + (m - start) ≡ m = omega arith in
    let same : get_or (take (end - start) (drop start blocks)) (m - start) b ≡ get_or blocks m b =
    get_or-take (end - start) (drop start blocks) (m - start) b (omega arith)
    ∙ get_or-drop start blocks (m - start) b ∙ ap (λ n. get_or blocks n b) at in
    let h = held (m - start) b long in
    let x : x_of (get_or (place_codes blocks) m 0) ≡ (get_or blocks m b).x =
    ap x_of (get_or-map place_code blocks m b 0 (omega arith)) ∙ x_is (get_or blocks m b) in
    let x_at = ap (λ (b : Block). b.x) same in
    record {
      small = let in_grid = (get_or blocks m b).x_in_grid in omega (arith, x, in_grid);
      bit = subst (λ n. has_bit columns (n / 79) ≡ true) (x_at ∙ sym x) h;
    }

-- a code in no row that is no wider is in none of these rows
pub in_no_rows : (west east from code : ℕ) (rows : List Row) → All (IsNoWider west east) rows
    → ((row : Row) → IsNoWider west east row → is_in_row from row code ≡ false) → is_in_rows from rows code ≡ false
in_no_rows west east from code [] all none = refl
in_no_rows west east from code (row ∷ rows) all none =
    let first = none row (All-head (IsNoWider west east) row rows all) in
    let rest = in_no_rows west east from code rows (All-tail (IsNoWider west east) row rows all) none in
    ap (λ b. b || is_in_rows from rows code) first ∙ rest
