use Rattle.std.proofs.Common.{◌∙◌, subst, sym}
use Rattle.mine_instance.specs.Valid.{IsValid}
use Rattle.mine_instance.specs.WellFormed.{IsWellFormed}
use Rattle.mine_instance.proofs.CpitFacts.{coefs_there, cpit_is_one}
use Rattle.mine_instance.proofs.WellFormedLaws.{cpit_well_formed}
use Rattle.mine_instance.proofs.cpit_building.build_cpit.Goals as goal

pub chosen_of-requires-clause-there : goal.chosen_of-requires-clause-there
chosen_of-requires-clause-there g c = coefs_there _ (subst IsValid (sym c.instance.view_is) c.requires)

pub new-requires-2 : goal.new-requires-2
new-requires-2 g c =
    let limits = c.in_ok-limits.ensures.items ∙ c.as_slice.ensures in
    rw (c.in_ok-values.ensures, c.new.ensures, c.in_ok-coefs.ensures, limits, c.in_ok-name.ensures)
    (cpit_is_one _ (subst IsValid (sym c.instance.view_is) c.requires))

pub returns-clause-kept : goal.returns-clause-kept
returns-clause-kept g c = λ kept.
    let limits = c.in_ok-limits.ensures.items ∙ c.as_slice.ensures in
    rw (c.new-2.ensures, c.in_ok-values.ensures, c.new.ensures, c.in_ok-coefs.ensures, limits, c.in_ok-name.ensures)
    (cpit_well_formed _ (subst IsWellFormed (sym c.instance.view_is) kept))
