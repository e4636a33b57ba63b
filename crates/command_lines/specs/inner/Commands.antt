-- A program's command line during its construction, and what is searched in clap's matches.
use Rattle.std.specs.Prelude.{◌≡◌, MatchOption, Option, false, true}
use Rattle.clap.specs.Words.{App, app_of, is_simple_and_free}
use Rattle.clap.specs.declared.builder.Command.TheViews.{out-Command as fields_of}
use Rattle.clap.specs.declared.builder.command.Command.{Command}

-- the command accepts these arguments, and its subcommands share no argument
abbrev pub IsCommandOf : App → Command → Type 0
IsCommandOf arguments command = (app_of command ≡ arguments) × ((fields_of command).has_globals ≡ false)

-- the same, and clap's contract covers all arguments that it accepts
abbrev pub IsLineOf : App → Command → Type 0
IsLineOf app command = (app_of command ≡ app) × (is_simple_and_free app ≡ true)

-- the result has the property, or there is no result and nothing has the property
abbrev pub FindsIfAny : {A : Type 0} → (A → Type 0) → Option A → Type 0
FindsIfAny {A} Found answer = MatchOption answer ((some : A) → Found some → ⊥) Found
