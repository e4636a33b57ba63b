use Rattle.std.proofs.Common.{inr, arith}
use Rattle.precedence.proofs.bits.StripsMet.{start_at, starts_rise}
use Rattle.precedence.proofs.ranges.Starts.{start_before_in}
use Rattle.precedence.proofs.lanes.dropping.next_strip.Goals as goal

pub start_of-requires : goal.start_of-requires
start_of-requires c = starts_rise c.args.strips.now c.as_slice-starts.result.now c.as_slice-starts.ensures.value

pub returns-clause-passed : goal.returns-clause-passed
returns-clause-passed c = λ j s from before lt.
    let starts = c.as_slice-starts.result.now in
    let h = start_at c.args.strips.now starts c.as_slice-starts.ensures.value j s lt in
    let below = start_before_in c.saturating_sub-target.result j starts (omega (arith, c.max.ensures, c.start_of.ensures)) in
    inr (omega (arith, h, below, c.saturating_sub-target.ensures, c.saturating_add.ensures))
