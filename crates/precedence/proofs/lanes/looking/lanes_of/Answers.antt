use Rattle.std.proofs.Common.{ℕ, ◌<◌, ap, subst, ◌∙◌, length, get_or, arith}
use Rattle.std.proofs.lemmas.List.Kept.{AllPairs-from_increasing}
use Rattle.precedence.specs.inner.lanes.Windows.{of_table, scene}
use Rattle.precedence.specs.inner.lanes.Looking.{HasBlocks, IsJoined}
use Rattle.precedence.specs.inner.Between.{codes_in}
use Rattle.precedence.proofs.bits.Looking.{has_none, has_past, has_range, joined_below, table_read, too_far}
use Rattle.precedence.proofs.bits.Words.{below_by_bits, no_bit}
use Rattle.precedence.proofs.ranges.Starts.{no_less}
use Rattle.precedence.proofs.lanes.looking.lanes_of.Goals as goal

pub loop-id-init : goal.loop-id-init
loop-id-init c =
    let b = c.args.cones.now in
    let id = c.args.id in
    record {
      later = omega arith;
      fits = omega arith;
      few = λ p bit. absurd (no_bit p bit);
      blocks = has_none b (of_table (scene b) c.args.number) (get_or c.as_slice-codes.result.now id 0) 64 id
          (λ i lt. rw c.as_slice-codes.ensures.value (AllPairs-from_increasing (codes_in b) b.places.now.rising i id 0 lt c.requires));
    }

pub range_from-bits-requires-clause-low : goal.range_from-bits-requires-clause-low
range_from-bits-requires-clause-low c =
    let b = c.args.cones.now in
    let len = c.as_slice-codes.ensures.len in
    rw c.as_slice-codes.ensures.value (no_less (codes_in b) c.args.id c.loop-id.id b.places.now.rising c.loop-id.invariant.later (let lt = c.loop-id-test.true in omega (arith, lt, ap length c.as_slice-codes.ensures.value)))

pub loop-id-preserved-then-index-number : goal.loop-id-preserved-then-index-number
loop-id-preserved-then-index-number c =
    let b = c.args.cones.now in
    let had = c.loop-id.invariant in
    let id = c.loop-id.id in
    let range = c.range_from-bits.ensures in
    let past = c.range_from-bits.result.1 in
    let lt : id < length (codes_in b) = omega (arith, range.later, range.within) in
    let table = table_read b id c.index.result.now lt c.index.ensures ∙ c.if-index-number.true in
    let joins : IsJoined c.loop-id.lanes c.range_from-bits.result.0 c.joined-lanes.result =
    record { left = c.joined-lanes.ensures.left; right = c.joined-lanes.ensures.right; either = c.joined-lanes.ensures.either } in
    record {
      later = omega (arith, had.later, range.later);
      fits = omega arith;
      few = λ p bit. joined_below c.loop-id.lanes c.range_from-bits.result.0 c.joined-lanes.result 64 p joins had.few range.below bit;
      blocks = has_range b (of_table (scene b) c.args.number) (get_or c.as_slice-codes.result.now c.args.id 0) 64 id past 64 c.range_from-bits.result.0 range
          c.loop-id.lanes c.joined-lanes.result (omega arith) (λ i le less. range.table i le less ∙ table)
          joins had.blocks;
    }

pub returns-else-codes-id-clause-few : goal.returns-else-codes-id-clause-few
returns-else-codes-id-clause-few c = below_by_bits c.loop-id.lanes 64 c.loop-id.invariant.fits c.loop-id.invariant.few

pub returns-after-loop-id-clause-few : goal.returns-after-loop-id-clause-few
returns-after-loop-id-clause-few c = below_by_bits c.loop-id.lanes 64 c.loop-id.invariant.fits c.loop-id.invariant.few

pub returns-else-codes-id-clause-complete : goal.returns-else-codes-id-clause-complete
returns-else-codes-id-clause-complete c = λ i other lt at.
    let b = c.args.cones.now in
    let id = c.loop-id.id in
    let value = c.as_slice-codes.ensures.value in
    let here = ap (λ cs. get_or cs id 0) value in
    let first = ap (λ cs. get_or cs c.args.id 0) value in
    let blocks = subst (λ (n : ℕ). HasBlocks (scene b) (of_table (scene b) c.args.number) n 64 id c.loop-id.lanes) first c.loop-id.invariant.blocks in
    (has_past b (of_table (scene b) c.args.number) (get_or (codes_in b) c.args.id 0) 64 id (length (codes_in b)) c.loop-id.lanes
    (too_far b (of_table (scene b) c.args.number) (get_or (codes_in b) c.args.id 0) 64 id (λ less. let far = c.if-codes-id.false in omega (arith, far, here, first)))
    blocks).complete i other lt at.within at
