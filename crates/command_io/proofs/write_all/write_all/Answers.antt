use Rattle.std.proofs.Common.{◌∙◌, rules}
use Rattle.command_io.proofs.Outputs.{took_more}
use Rattle.command_io.proofs.write_all.write_all.Goals as goal

pub loop-taken-preserved : goal.loop-taken-preserved
loop-taken-preserved g c = record {
  prefix = took_more _ _ _ c.args.bytes.now c.loop-taken.taken c.in_ok-taken.field-0
      c.loop-taken.invariant.prefix c.in_ok-taken.ensures.puts.takes;
  works = c.in_ok-taken.ensures.puts.works ∙ c.loop-taken.invariant.works;
  within = search rules;
}
