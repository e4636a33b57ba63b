use Rattle.std.proofs.Common.{codes}
use Rattle.std.proofs.lemmas.Result.{IfOk-weaker}
use Rattle.clap.specs.Words.{new_app}
use Rattle.command_lines.specs.CommandLine.{base_word, check_words}
use Rattle.command_lines.proofs.Commands.{grown}
use Rattle.command_lines.proofs.command_line.check_command.Goals as goal

pub returns : goal.returns
unfolding check_words
returns c =
    IfOk-weaker c.arg.result _ _ (λ new adds. grown c.subcommand.result new c.base.result
    (new_app (codes "check")) base_word c.subcommand.ensures c.base.ensures.rule c.base.ensures.local adds)
    c.arg.ensures
