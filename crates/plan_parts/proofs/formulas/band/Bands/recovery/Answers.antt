use Rattle.std.proofs.Common.{None, Some}
use Rattle.plan_parts.proofs.BandFacts.{recovery_is}
use Rattle.plan_parts.proofs.formulas.band.Bands.recovery.Goals as goal

pub returns-in-Some-clause-value : goal.returns-in-Some-clause-value
returns-in-Some-clause-value c =
    let begun = rw (c.as_slice-bands.ensures.value, c.self.view_is) at c.count_begun.ensures.begun in
    let last = rw (c.as_slice-bands.ensures.value, c.self.view_is) at c.in-Some.ensures.value in
    recovery_is c.args.self.now _ c.args.grade (Some c.in-Some.band.now) begun last

pub returns-in-None-clause-value : goal.returns-in-None-clause-value
returns-in-None-clause-value c =
    let begun = rw (c.as_slice-bands.ensures.value, c.self.view_is) at c.count_begun.ensures.begun in
    let last = rw (c.as_slice-bands.ensures.value, c.self.view_is) at c.in-None.ensures.value in
    recovery_is c.args.self.now _ c.args.grade None begun last
