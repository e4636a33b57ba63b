-- A command that gets its arguments and subcommands one by one.
use Rattle.std.proofs.Common.{◌≡◌, ◌∙◌, ◌||◌, ap₂, false}
use Rattle.clap.specs.Words.{AddsArg, AddsSubcommand, App, Rule, app_of, rule_of, with_rule, with_subcommand}
use Rattle.clap.specs.declared.builder.arg.Arg.{Arg}
use Rattle.clap.specs.declared.builder.command.Command.{Command}
use Rattle.command_lines.specs.CommandLine.{check_words, compile_words, program, top_words}
use Rattle.command_lines.specs.inner.Commands.{IsCommandOf}

pub grown : (old new : Command) (arg : Arg) (app : App) (rule : Rule) → IsCommandOf app old → rule_of arg ≡ rule → arg.global ≡ false
    → AddsArg old arg new
    → IsCommandOf (with_rule app rule) new
grown old new arg app rule like is local adds =
    (adds.shape local ∙ ap₂ with_rule like.0 is, adds.globals ∙ ap₂ (λ a b. a || b) like.1 local)

pub has_subcommand : (old sub new : Command) (app arguments : App) → app_of old ≡ app → IsCommandOf arguments sub → AddsSubcommand old sub new
    → app_of new ≡ with_subcommand app arguments.top
has_subcommand old sub new app arguments like is adds = adds.shape is.1 ∙ ap₂ (λ a w. with_subcommand a w.top) like is.0

pub has_both : (top compile check one new : Command) → app_of top ≡ top_words → IsCommandOf compile_words compile
    → IsCommandOf check_words check
    → AddsSubcommand top compile one → AddsSubcommand one check new → app_of new ≡ program
unfolding program
has_both top compile check one new like is also first second =
    has_subcommand one check new _ check_words (has_subcommand top compile one top_words compile_words like is first) also second
