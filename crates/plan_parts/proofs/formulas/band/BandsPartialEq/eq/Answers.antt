use Rattle.plan_parts.specs.inner.Equality.{bands_decided}
use Rattle.plan_parts.proofs.BandFacts.{answered}
use Rattle.plan_parts.proofs.formulas.band.BandsPartialEq.eq.Goals as goal

pub returns-clause-equal : goal.returns-clause-equal
returns-clause-equal c = answered bands_decided _ _ _
    (rw (← c.self.view_is, ← c.other.view_is, ← c.as_slice.ensures.value, ← c.as_slice-2.ensures.value) c.eq.ensures)
