-- The command line of pitc_thin, and the run that its arguments state.
use Rattle.std.specs.Prelude.{List, true, codes}
use Rattle.clap.specs.Words.{App, Text, matches_of, new_app, with_rule}
use Rattle.command_lines.specs.CommandLine.{FindsArguments, capacity_word, out_word, plan_word, valuers_word, zone_word}
use Rattle.command_lines.specs.declared.job.RunArguments.{RunArguments}

-- the program itself, which has no subcommand and accepts `--version`
unfoldable pub thin_top : App
thin_top = record (new_app (codes "pitc_thin")) { top = record (new_app (codes "pitc_thin")).top { has_version = true } }

-- `pitc_thin --plan P --out FILE [--valuers N] [--capacity N] ZONE..`
unfoldable pub thin_program : App
thin_program = with_rule (with_rule (with_rule (with_rule (with_rule thin_top plan_word) out_word) valuers_word) capacity_word) zone_word

-- the run has the values that clap finds in these arguments, which begin with the program's name
unfoldable pub StatesRun : List Text → RunArguments → Type 0
StatesRun arguments run = FindsArguments (matches_of thin_program arguments) run
