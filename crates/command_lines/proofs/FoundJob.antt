-- From clap's matches to the job that the arguments state, or to none.
use Rattle.std.proofs.Common.{◌≡◌, ◌∙◌, List, [], Option, Some, None, ap, arith, codes, refl, slice_index, string_bytes, subst, sym, unwrap_or}
use Rattle.clap.specs.Words.{Row, Text, first_of}
use Rattle.command_lines.specs.CommandLine.{Finds, FindsArguments}
use Rattle.command_lines.specs.declared.job.Job.{Job}
use Rattle.command_lines.specs.declared.job.Job.TheVariants.{Check, Compile}
use Rattle.command_lines.specs.declared.job.RunArguments.{RunArguments}

-- the name and the rows of the match
abbrev name_in : Option (Text × List Row) → Text
name_in found = (unwrap_or found ([], [])).0

abbrev rows_in : Option (Text × List Row) → List Row
rows_in found = (unwrap_or found ([], [])).1

apart : (found : Option (Text × List Row)) (rows other : List Row) → found ≡ Some (codes "check", rows)
    → found ≡ Some (codes "compile", other) → ⊥
apart found rows other is was =
    let bad : 104 ≡ 111 = ap (λ f. slice_index (name_in f) 1) (sym is ∙ was) in
    absurd (omega (arith, bad))

-- rows without BASE state no job of `check`
pub no_base : (rows : List Row) → first_of (codes "base") rows ≡ None → (job : Job) → Finds (Some (codes "check", rows)) job → ⊥
no_base rows none (Check base) found =
    let same : rows ≡ found.rows = ap rows_in found.is_check in
    let bad : None ≡ Some (string_bytes base) = sym none ∙ ap (first_of (codes "base")) same ∙ found.has_base in
    cc
no_base rows none (Compile run) found = apart _ rows found.rows refl found.is_compile

-- nor of `compile`, if values of a run are missing
pub no_compile : (rows : List Row) → ((run : RunArguments) → FindsArguments rows run → ⊥) → (job : Job) → Finds (Some (codes "compile", rows)) job → ⊥
no_compile rows none (Check base) found = apart _ found.rows rows found.is_check refl
no_compile rows none (Compile run) found =
    let same : found.rows ≡ rows = ap rows_in (sym found.is_compile) in
    none run (subst (λ r. FindsArguments r run) same found.has_arguments)
