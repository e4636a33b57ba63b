use Rattle.std.proofs.Common.{rules}
use Rattle.minelib_lines.specs.declared.problem.Problem.TheVariants.{Pcpsp}
use Rattle.minelib_reading.specs.Denotes.{denoted}
use Rattle.minelib_reading.proofs.models.WellFormedRead.{read_well_formed}
use Rattle.minelib_reading.proofs.models.ValidRead.{model_is_valid, read_valid}
use Rattle.minelib_reading.proofs.instance_reader.denoted_instance.Goals as goal

pub into_instance-requires : goal.into_instance-requires
into_instance-requires c = (model_is_valid Pcpsp _ c.args.pcpsp.now c.in-Ok-read_model.model c.in-Ok-read_model.ensures).name

pub returns-in-Ok-read_model-clause-valid : goal.returns-in-Ok-read_model-clause-valid
unfolding denoted
returns-in-Ok-read_model-clause-valid c =
    read_valid c.args.blocks.now c.args.prec.now c.args.pcpsp.now c.into_instance.result (search rules)

pub returns-in-Ok-read_model-clause-kept : goal.returns-in-Ok-read_model-clause-kept
unfolding denoted
returns-in-Ok-read_model-clause-kept c =
    read_well_formed c.args.blocks.now c.args.prec.now c.args.pcpsp.now c.into_instance.result (search rules)
