use Rattle.pit_units.proofs.Digits.{decimals_more}
use Rattle.pit_units.proofs.reading.decimals.Goals as goal

pub loop-place-preserved : goal.loop-place-preserved
loop-place-preserved c =
    rw c.from.ensures (decimals_more c.args.fraction.now c.loop-place.place c.loop-place.value c.decimal_at.result c.loop-place-test.true
    c.decimal_at.ensures.digit c.decimal_at.ensures.value c.loop-place.invariant.0 c.loop-place.invariant.1)
