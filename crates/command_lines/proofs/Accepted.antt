-- clap's contract for a program's command line.
use Rattle.std.proofs.Common.{◌≡◌, List, [], None, Ok, Option, Result, Some, inl, inr, refl, subst, sym, true}
use Rattle.std.proofs.lemmas.Bool.{and_parts}
use Rattle.clap.proofs.OnLiterals.{clap_on_literals}
use Rattle.clap.specs.Words.{App, FailsBy, HasKind, HasMatchesOf, IsAmong, Kinds, Text, fault_of, found_of, is_simple_and_free, kind_of, matches_of, rows_of, subcommand_of, subcommand_rows_of}
use Rattle.clap.specs.declared.error.Error.{Error}
use Rattle.clap.specs.declared.parser.matches.ArgMatches.{ArgMatches}
use Rattle.command_lines.specs.CommandLine.{HandsOn, RefusesBy, base_word, capacity_word, check_words, compile_words, out_word, plan_word, program, top_words, valuers_word, zone_word}
use Rattle.command_lines.specs.ThinLine.{thin_program, thin_top}
use Rattle.command_lines.specs.inner.Commands.{FindsIfAny}
use Rattle.command_lines.specs.declared.job.JobFault.{JobFault}
use Rattle.command_lines.specs.declared.job.JobFault.TheVariants.{OutOfMemory, Line}

pub job_line : is_simple_and_free program ≡ true
unfolding clap_on_literals program top_words compile_words check_words plan_word out_word valuers_word capacity_word zone_word base_word
job_line = refl

pub run_line : is_simple_and_free thin_program ≡ true
unfolding clap_on_literals thin_program thin_top plan_word out_word valuers_word capacity_word zone_word
run_line = refl

module _ (own app : App) (arguments : List Text) (same : own ≡ app) (line : is_simple_and_free app ≡ true) where
  -- a parse of the command line has the values of the arguments
  pub found_in : (matches : ArgMatches) → HasMatchesOf own arguments matches
      → (rows_of (found_of matches) ≡ matches_of app arguments) × (subcommand_rows_of matches ≡ subcommand_of app arguments)
  found_in matches has = subst (λ a. HasMatchesOf a arguments matches) same has (and_parts _ _ line).0

  -- a parse of the command line fails by the faults that clap has for the arguments
  pub line_fails : {T : Type 0} (r : Result T Error) → (is_simple_and_free own ≡ true → FailsBy (fault_of own arguments) r)
      → FailsBy (fault_of app arguments) r
  line_fails r fails = subst (λ a. is_simple_and_free a ≡ true → FailsBy (fault_of a arguments) r) same fails line

-- if there are matches, there is no fault
pub no_fault : {T : Type 0} (kinds : Kinds) (r : Result T Error) (m : T) → FailsBy kinds r → r ≡ Ok m → kinds ≡ []
no_fault kinds r m fails is = subst (FailsBy kinds) is fails

module _ {A : Type 0} (app : App) (States : A → Type 0) (arguments : List Text) where
  -- what was found is what the arguments state
  pub was_found : (answer : Option A) (a : A) → FindsIfAny States answer → answer ≡ Some a → States a
  was_found answer a finds is = subst (FindsIfAny States) is finds

  -- an error that is returned unchanged is an error of the arguments
  pub passed_on : (error : Error) (fault : JobFault) → HasKind (fault_of app arguments) error → HandsOn error fault → RefusesBy app States arguments fault
  passed_on error OutOfMemory has on = tt
  passed_on error (Line same) (inl memory) on = absurd (on.1 memory)
  passed_on error (Line same) (inr among) on = inl (subst (λ e. IsAmong (kind_of e) (fault_of app arguments)) (sym on.0) among)

  -- and so is any error if nothing was found
  pub none_found : (answer : Option A) (fault : JobFault) → FindsIfAny States answer → answer ≡ None → RefusesBy app States arguments fault
  none_found answer OutOfMemory finds none = tt
  none_found answer (Line error) finds none = inr (subst (FindsIfAny States) none finds)
