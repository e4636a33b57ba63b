use Rattle.std.proofs.Common.{◌≡◌, ◌-◌, ◌<◌, ◌≤◌, ℕ, List, length, get_or, set, sym, ap, ◌∙◌, arith, ⊎_elim}
use Rattle.std.proofs.lemmas.Bool.{cases_eq}
use Rattle.std.proofs.lemmas.List.{get_or_default, get_or-set_same, get_or-set_other, length-set}
use Rattle.plan_parts.specs.declared.block.Block.{Block}
use Rattle.precedence.specs.inner.Rows.{IsWithin}
use Rattle.precedence.specs.inner.ZoneTables.{Holds, IsWider}
use Rattle.precedence.specs.declared.cones.cone_rows.Extent.{Extent}
use Rattle.precedence.proofs.cones.bounds.extents_of.Goals as goal

-- a wider extent reaches at least as far
reaches : (extent other : Extent) (low high : Block) → IsWider extent other → IsWithin other low high → IsWithin extent low high
reaches extent other low high wide near = record {
  rows = omega (arith, wide.rows, near.rows);
  benches = omega (arith, wide.benches, near.benches);
}

-- if one extent is replaced by a wider one, each still reaches as far
still_reaches : (extents : List Extent) (zone place : ℕ) (more e : Extent) (low high : Block) → zone < length extents
    → IsWider more (get_or extents zone more) → IsWithin (get_or extents place e) low high
    → IsWithin (get_or (set extents zone more) place e) low high
still_reaches extents zone place more e low high lt wide near = ⊎_elim
    (λ same.
    let here : get_or extents place e ≡ get_or extents zone more =
    ap (λ n. get_or extents n e) same ∙ get_or_default extents zone e more lt in
    let there : get_or (set extents zone more) place e ≡ more =
    ap (λ n. get_or (set extents zone more) n e) same ∙ get_or-set_same extents zone more e lt in
    rw there (reaches more (get_or extents zone more) low high wide (rw here at near)))
    (λ other. rw (get_or-set_other extents zone place more e other) near)
    (cases_eq place zone)

pub loop-i-preserved : goal.loop-i-preserved
loop-i-preserved c =
    let blocks = c.args.blocks.now in
    let i = c.loop-i.i - 1 in
    let b = c.index-blocks-i.result in
    let extents = c.loop-i.extents.items in
    let more = c.extent_to_bounds.result in
    let one = c.widened-bounds.ensures in
    let had = c.loop-i.invariant in
    let inside : i < length blocks = omega (arith, had.inside, c.loop-i-test.true) in
    let zone : b.zone < length extents =
    omega (arith, c.requires i b inside, ap (λ (b : Block). b.zone) c.index-blocks-i.is, had.each) in
    let was : get_or extents b.zone more ≡ c.index.result.now =
    get_or_default extents b.zone more c.index.result.now zone ∙ sym c.index.ensures in
    let block_is : (k : ℕ) (d : Block) → k ≡ i → get_or blocks k d ≡ b =
    (λ k d same. ap (λ n. get_or blocks n d) same ∙ get_or_default blocks i d b inside ∙ sym c.index-blocks-i.is) in
    let held : (k : ℕ) (d : Block) → i ≤ k → k < length blocks → Holds c.widened-bounds.result (get_or blocks k d) =
    (λ k d le lt. ⊎_elim
    (λ same. rw (block_is k d same) one.holds)
    (λ other. one.more (get_or blocks k d) (had.holds k d (omega (arith, other)) lt))
    (cases_eq k i)) in
    record {
      inside = omega (arith, had.inside);
      each = length-set extents b.zone more ∙ had.each;
      holds = held;
      north = one.north had.north;
      top = one.top had.top;
      near = λ k j d e le after lt. ⊎_elim
          (λ same. rw (block_is k d same) (rw (get_or-set_same extents b.zone more e zone)
          (c.extent_to_bounds.ensures.within (get_or blocks j d) (held j d (omega arith) lt))))
          (λ other. still_reaches extents b.zone (get_or blocks k d).zone more e (get_or blocks k d) (get_or blocks j d) zone
          (rw was c.extent_to_bounds.ensures.wider)
          (had.near k j d e (omega (arith, other)) after lt))
          (cases_eq k i);
    }

pub returns-clause-near : goal.returns-clause-near
returns-clause-near c = λ i j d e le lt. c.loop-i.invariant.near i j d e (omega (arith, c.loop-i-test.false)) le lt
