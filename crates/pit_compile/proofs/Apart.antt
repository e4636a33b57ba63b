-- Blocks that are numbered stand apart, and what holds of listed blocks holds of the numbered ones.
use Rattle.std.proofs.Common.{◌≡◌, ◌<◌, ◌&&◌, ◌||◌, ◌==◌, ℕ, List, Bool, true, false, nat_lt, refl, sym, ◌∙◌, ap, subst, arith, length, get_or, All}
use Rattle.std.specs.Prelude.{count_by, slice_index_or}
use Rattle.std.proofs.lemmas.Bool.{and_parts, eqb-true}
use Rattle.plan_parts.specs.declared.block.Block.{Block}
use Rattle.precedence.specs.Identifier.{id, is_same_cell}
use Rattle.precedence.specs.Numbering.{NumberingView, IsNumbering}
use Rattle.pit_compile.specs.Verdict.{AreApart}

-- the identifier of a block that would stand at this place
id_at : List Block → ℕ → ℕ → ℕ → ℕ
id_at listed x y z = count_by (λ a. nat_lt a.z z || ((a.z == z) && (nat_lt a.y y || ((a.y == y) && nat_lt a.x x)))) listed

same_id : (listed : List Block) (a b : Block) → is_same_cell a b ≡ true → id listed a ≡ id listed b
unfolding id_at
same_id listed a b h =
    let zs = and_parts _ _ h in
    let xy = and_parts _ _ zs.0 in
    ap (λ x. id_at listed x a.y a.z) (eqb-true a.x b.x xy.0)
    ∙ ap (λ y. id_at listed b.x y a.z) (eqb-true a.y b.y xy.1)
    ∙ ap (λ z. id_at listed b.x b.y z) (eqb-true a.z b.z zs.1)

-- blocks that are numbered stand apart
pub apart : (listed : List Block) (n : NumberingView) → IsNumbering listed n → AreApart listed
apart listed n h i j d before within = by_test (is_same_cell (slice_index_or listed i d) (slice_index_or listed j d)) refl
  where
    first : i < length listed
    first = omega arith

    by_test : (b : Bool) → is_same_cell (slice_index_or listed i d) (slice_index_or listed j d) ≡ b → b ≡ false
    by_test false e = refl
    by_test true e =
        let same : i ≡ j =
        sym (h.found i d first) ∙ ap (λ k. get_or n.positions k 0)
        (same_id listed (slice_index_or listed i d) (slice_index_or listed j d) e) ∙ h.found j d within in
        absurd (omega arith)

-- a fact of the blocks of a list holds of the numbered ones
pub numbered_too : (P : Block → Type 0) (listed : List Block) (n : NumberingView) → IsNumbering listed n → All P listed → All P n.blocks
numbered_too P listed n h all k d within =
    let there : k < length listed = omega (arith, h.blocks) in
    subst P (h.at_position k d there) (all (get_or n.positions k 0) d (h.within k there))
