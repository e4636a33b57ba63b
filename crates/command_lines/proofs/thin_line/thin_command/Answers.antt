use Rattle.std.proofs.lemmas.Result.{IfOk-weaker}
use Rattle.command_lines.specs.CommandLine.{capacity_word, out_word, plan_word, valuers_word, zone_word}
use Rattle.command_lines.specs.ThinLine.{thin_program, thin_top}
use Rattle.command_lines.proofs.Commands.{grown}
use Rattle.command_lines.proofs.thin_line.thin_command.Goals as goal

pub returns : goal.returns
unfolding thin_program
returns c =
    let one = grown _ c.in_ok-arg.field-0 c.plan_option.result thin_top plan_word c.top_command.ensures c.plan_option.ensures.rule
    c.plan_option.ensures.local c.in_ok-arg.ensures in
    let two = grown _ c.in_ok-arg-2.field-0 c.out_option.result _ out_word one c.out_option.ensures.rule
    c.out_option.ensures.local c.in_ok-arg-2.ensures in
    let three = grown _ c.in_ok-arg-3.field-0 c.valuers_option.result _ valuers_word two c.valuers_option.ensures.rule
    c.valuers_option.ensures.local c.in_ok-arg-3.ensures in
    let four = grown _ c.in_ok-arg-4.field-0 c.capacity_option.result _ capacity_word three c.capacity_option.ensures.rule
    c.capacity_option.ensures.local c.in_ok-arg-4.ensures in
    IfOk-weaker c.arg-5.result _ _ (λ new adds. (grown _ new c.zones.result _ zone_word four c.zones.ensures.rule c.zones.ensures.local adds).0)
    c.arg-5.ensures
