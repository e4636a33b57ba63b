use Rattle.std.proofs.Common.{arith}
use Rattle.precedence.proofs.bits.Gathered.{gathers_one, gathers_more}
use Rattle.precedence.proofs.lanes.bits.gathered.Goals as goal

pub loop-done-init : goal.loop-done-init
loop-done-init c = record { some = omega arith; within = omega arith; gathers = gathers_one c.args.word c.args.first }

pub loop-done-preserved : goal.loop-done-preserved
loop-done-preserved c = record {
  some = omega arith;
  within = omega arith;
  gathers = gathers_more c.args.word c.args.first c.loop-done.done c.min-step.result c.loop-done.seen (omega arith) c.loop-done.invariant.gathers;
}

pub returns-clause-some : goal.returns-clause-some
returns-clause-some c = λ i yes.
    let h = c.loop-done.invariant.gathers.some i yes in
    (h.0, h.1, omega (arith, h.2), h.3)

pub returns-clause-all : goal.returns-clause-all
returns-clause-all c = λ i at low up yes. c.loop-done.invariant.gathers.all i at low (omega (arith, up, c.loop-done-test.false)) yes
