use Rattle.std.proofs.Common.{◌≡◌, ℕ, ◌+◌, ◌&&◌, true, refl, sym, ◌∙◌, arith}
use Rattle.std.proofs.lemmas.Bool.{and_from, and_parts}
use Rattle.precedence.specs.inner.lanes.Bits.{has_bit}
use Rattle.precedence.proofs.bits.Words.{below_by_bits, lane_below}
use Rattle.precedence.proofs.lanes.windows.served_at_once.Goals as goal

-- lanes that see a bit are lanes
of_lanes : (lanes word i result : ℕ) → has_bit result i ≡ (has_bit lanes i && has_bit word (i + 0)) → has_bit result i ≡ true → has_bit lanes i ≡ true
of_lanes lanes word i result seen has = (and_parts (has_bit lanes i) _ (sym seen ∙ has)).0

pub returns-then-blocks_seen-strips-clause-few : goal.returns-then-blocks_seen-strips-clause-few
returns-then-blocks_seen-strips-clause-few c =
    below_by_bits c.seen_at.result 64 (omega arith) (λ i has. lane_below c.args.lanes 64 i c.requires (of_lanes c.args.lanes _ i c.seen_at.result (c.seen_at.ensures i) has))

pub returns-then-blocks_seen-strips-clause-among : goal.returns-then-blocks_seen-strips-clause-among
returns-then-blocks_seen-strips-clause-among c = λ i has. of_lanes c.args.lanes _ i c.seen_at.result (c.seen_at.ensures i) has

pub returns-then-blocks_seen-strips-clause-first : goal.returns-then-blocks_seen-strips-clause-first
returns-then-blocks_seen-strips-clause-first c = λ lane. c.seen_at.ensures 0 ∙ and_from _ _ lane refl
