use Rattle.std.proofs.Common.{codes}
use Rattle.std.proofs.lemmas.Result.{IfOk-weaker}
use Rattle.clap.specs.Words.{new_app}
use Rattle.command_lines.specs.CommandLine.{capacity_word, compile_words, out_word, plan_word, valuers_word, zone_word}
use Rattle.command_lines.proofs.Commands.{grown}
use Rattle.command_lines.proofs.command_line.compile_command.Goals as goal

pub returns : goal.returns
unfolding compile_words
returns c =
    let one = grown _ c.in_ok-arg.field-0 c.plan_option.result
    (new_app (codes "compile")) plan_word c.subcommand.ensures c.plan_option.ensures.rule
    c.plan_option.ensures.local c.in_ok-arg.ensures in
    let two = grown _ c.in_ok-arg-2.field-0 c.out_option.result _ out_word one c.out_option.ensures.rule
    c.out_option.ensures.local c.in_ok-arg-2.ensures in
    let three = grown _ c.in_ok-arg-3.field-0 c.valuers_option.result _ valuers_word two c.valuers_option.ensures.rule
    c.valuers_option.ensures.local c.in_ok-arg-3.ensures in
    let four = grown _ c.in_ok-arg-4.field-0 c.capacity_option.result _ capacity_word three c.capacity_option.ensures.rule
    c.capacity_option.ensures.local c.in_ok-arg-4.ensures in
    IfOk-weaker c.arg-5.result _ _ (λ new adds. grown _ new c.zones.result _ zone_word four c.zones.ensures.rule c.zones.ensures.local adds)
    c.arg-5.ensures
