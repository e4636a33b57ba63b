-- The program's command line, and the jobs that its arguments state.
use Rattle.std.specs.Prelude.{◌≡◌, ◌≢◌, ◌⊎◌, ℕ, ◌<◌, ◌≤◌, List, [], ◌∷◌, ◌++◌, Option, Some, true, codes, length, map, string_bytes}
use Rattle.std.specs.Str.Parse.{IsNumeral, digits_value, without_leading_plus}
use Rattle.clap.specs.Lexer.{usize_max}
use Rattle.clap.specs.Words.{App, IsAmong, Row, Rule, Text, all_of, fault_of, first_of, kind_of, new_app, new_rule, one_of, subcommand_of, with_rule, with_subcommand}
use Rattle.clap.specs.declared.builder.value_parser.ValueParser.TheVariants as parser
use Rattle.clap.specs.declared.error.Error.{Error}
use Rattle.clap.specs.declared.error.kind.ErrorKind.TheVariants as kind
use Rattle.command_lines.specs.declared.job.Job.{Job}
use Rattle.command_lines.specs.declared.job.Job.TheVariants.{Check, Compile}
use Rattle.command_lines.specs.declared.job.JobFault.{JobFault}
use Rattle.command_lines.specs.declared.job.JobFault.TheVariants.{OutOfMemory, Line}
use Rattle.command_lines.specs.declared.job.RunArguments.{RunArguments}
use Rattle.plan_parts.specs.declared.settings.Settings.{Settings}
use Rattle.plan_parts.specs.declared.ranges.TheConstants.{MAX_CAPACITY, MAX_VALUERS}

-- the required argument BASE
unfoldable pub base_word : Rule
base_word = record (new_rule (codes "base")) { required = true; value_names = 1 }

-- `check BASE`
unfoldable pub check_words : App
check_words = with_rule (new_app (codes "check")) base_word

-- the required option `--plan P`
unfoldable pub plan_word : Rule
plan_word = record (new_rule (codes "plan")) { long = Some (codes "plan"); required = true; value_names = 1 }

-- the required option `--out BASE`
unfoldable pub out_word : Rule
out_word = record (new_rule (codes "out")) { long = Some (codes "out"); required = true; value_names = 1 }

-- the option `--name N`, an integer from 1 to `most`, by default `default`
abbrev pub number_word : Text → Text → ℕ → Rule
number_word name default most = record (new_rule name) { long = Some name; value_names = 1; defaults = default ∷ []; parser = Some (parser.Unsigned 1 most) }

-- `--valuers N`, from 1 to 64, by default 4
unfoldable pub valuers_word : Rule
valuers_word = number_word (codes "valuers") (codes "4") MAX_VALUERS

-- `--capacity N`, from 1 to 4096, by default 64
unfoldable pub capacity_word : Rule
capacity_word = number_word (codes "capacity") (codes "64") MAX_CAPACITY

-- one or more required arguments ZONE
unfoldable pub zone_word : Rule
zone_word = record (new_rule (codes "zone")) {
  required = true;
  value_names = 1;
  range = Some (record { start_inclusive = 1; end_inclusive = usize_max });
}

-- `compile --plan P --out BASE [--valuers N] [--capacity N] ZONE..`
unfoldable pub compile_words : App
compile_words = with_rule (with_rule (with_rule (with_rule (with_rule (new_app (codes "compile")) plan_word) out_word) valuers_word) capacity_word) zone_word

-- the program itself: a subcommand is required, and `--version` is accepted
unfoldable pub top_words : App
top_words = record (new_app (codes "pitc")) { top = record (new_app (codes "pitc")).top { subcommand_required = true; has_version = true } }

-- the program with its subcommands
unfoldable pub program : App
program = with_subcommand (with_subcommand top_words compile_words.top) check_words.top

-- the text is an integer, which may begin with `+`
abbrev pub IsNumberOf : Text → ℕ → Type 0
IsNumberOf text n = IsNumeral 10 (without_leading_plus text) × (n ≡ digits_value 10 (without_leading_plus text))

-- clap found this integer for the argument, from 1 to `most`
abbrev pub FindsNumber : List Row → Text → ℕ → ℕ → Type 0
FindsNumber rows id most n = (text : Text) × (one_of id rows ≡ Some text) × IsNumberOf text n × (1 ≤ n) × (n ≤ most)

-- clap found these settings
abbrev pub FindsSettings : List Row → Settings → Type 0
FindsSettings rows settings = FindsNumber rows (codes "valuers") MAX_VALUERS settings.valuers × FindsNumber rows (codes "capacity") MAX_CAPACITY settings.capacity

-- clap found the subcommand `check` with this BASE
pub record FindsCheck (found : Option (Text × List Row)) (base : Text) : Type 0 where
  pub rows : List Row
  pub is_check : found ≡ Some (codes "check", rows)
  pub has_base : first_of (codes "base") rows ≡ Some base

-- clap found these values of a run, given or by default, with at least one ZONE
pub record FindsRun (rows : List Row) (plan out : Text) (settings : Settings) (zones : List Text) : Type 0 where
  pub has_plan : first_of (codes "plan") rows ≡ Some plan
  pub has_out : first_of (codes "out") rows ≡ Some out
  pub has_settings : FindsSettings rows settings
  pub has_zones : all_of (codes "zone") rows ≡ Some zones
  pub some_zone : 0 < length zones

abbrev pub FindsArguments : List Row → RunArguments → Type 0
FindsArguments rows run = FindsRun rows (string_bytes run.plan) (string_bytes run.out) run.settings (map string_bytes run.zones.items)

-- clap found the subcommand `compile` with these values
pub record FindsCompile (found : Option (Text × List Row)) (run : RunArguments) : Type 0 where
  pub rows : List Row
  pub is_compile : found ≡ Some (codes "compile", rows)
  pub has_arguments : FindsArguments rows run

-- the job has the values that clap found
abbrev pub Finds : Option (Text × List Row) → Job → Type 0
Finds found (Check base) = FindsCheck found (string_bytes base)
Finds found (Compile run) = FindsCompile found run

-- the job has the values that clap finds in these arguments, which begin with the program's name
unfoldable pub StatesJob : List Text → Job → Type 0
StatesJob arguments job = Finds (subcommand_of program arguments) job

-- an error of clap means that memory was refused, or is returned unchanged
abbrev pub HandsOn : Error → JobFault → Type 0
HandsOn error OutOfMemory = kind_of error ≡ kind.OutOfMemory
HandsOn error (Line same) = (same ≡ error) × (kind_of error ≢ kind.OutOfMemory)

-- refused memory has its own fault
abbrev pub IsNoMemoryLine : JobFault → Type 0
IsNoMemoryLine OutOfMemory = Unit {0}
IsNoMemoryLine (Line error) = kind_of error ≢ kind.OutOfMemory

-- an error of clap rejects the arguments: it shows neither the help nor the version
abbrev pub IsRefusal : Error → Type 0
IsRefusal error = (kind_of error ≢ kind.DisplayHelp) × (kind_of error ≢ kind.DisplayVersion)

-- a text that ends with a line feed, so it is not empty
abbrev pub IsEndedText : Text → Type 0
IsEndedText text = (arguments : Text) × (text ≡ arguments ++ 10 ∷ [])

-- such a text was appended
abbrev pub AppendsText : (old new : Text) → Type 0
AppendsText old new = (text : Text) × IsEndedText text × (new ≡ old ++ text)

-- the arguments are rejected by an error of a kind that clap has for them, or since they state nothing of this type; or memory was
-- refused
abbrev pub RefusesBy : {A : Type 0} → App → (A → Type 0) → List Text → JobFault → Type 0
RefusesBy app States arguments OutOfMemory = Unit {0}
RefusesBy {A} app States arguments (Line error) = IsAmong (kind_of error) (fault_of app arguments) ⊎ ((stated : A) → States stated → ⊥)
