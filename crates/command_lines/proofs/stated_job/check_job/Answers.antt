use Rattle.std.proofs.Common.{rules, ◌≡◌, ◌∙◌, None, Some, codes, refl, string_bytes, sym}
use Rattle.clap.proofs.WalkLemmas.{first_value-rows}
use Rattle.clap.specs.Words.{first_value, found_of, rows_of}
use Rattle.command_lines.proofs.FoundJob.{no_base}
use Rattle.command_lines.proofs.stated_job.check_job.Goals as goal

pub returns-in_default : goal.returns-in_default
returns-in_default c =
    let found = found_of c.args.found.now in
    let none : first_value found (codes "base") ≡ None = search rules in
    no_base (rows_of found) (sym (first_value-rows found (codes "base")) ∙ none)

pub returns : goal.returns
returns c =
    let found = found_of c.args.found.now in
    let has_base : first_value found (codes "base") ≡ Some (string_bytes c.in_ok-base.base) = search rules in
    record { rows = rows_of found; is_check = refl; has_base = sym (first_value-rows found (codes "base")) ∙ has_base }
