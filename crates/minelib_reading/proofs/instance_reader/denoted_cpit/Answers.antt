use Rattle.minelib_lines.specs.declared.problem.Problem.TheVariants.{Cpit}
use Rattle.minelib_reading.proofs.models.WellFormedRead.{cpit_is_well_formed}
use Rattle.minelib_reading.proofs.models.ValidRead.{cpit_is_valid, model_is_valid}
use Rattle.minelib_reading.proofs.instance_reader.denoted_cpit.Goals as goal

pub into_cpit-requires-clause-name : goal.into_cpit-requires-clause-name
into_cpit-requires-clause-name c = (model_is_valid Cpit c.args.n c.args.text.now c.in-Ok.model c.in-Ok.ensures).name

pub into_cpit-requires-clause-cpit : goal.into_cpit-requires-clause-cpit
into_cpit-requires-clause-cpit c = (cpit_is_valid c.args.n c.args.text.now c.in-Ok.model c.requires c.in-Ok.ensures).0

pub returns-clause-blocks : goal.returns-clause-blocks
returns-clause-blocks c =
    rw (c.into_cpit.ensures) ((cpit_is_valid c.args.n c.args.text.now c.in-Ok.model c.requires c.in-Ok.ensures).1)

pub returns-clause-kept : goal.returns-clause-kept
returns-clause-kept c = rw (c.into_cpit.ensures) (cpit_is_well_formed c.args.n c.args.text.now c.in-Ok.model c.in-Ok.ensures)
