use Rattle.std.proofs.Common.{inl, inr, refl, rules, ◌∙◌}
use Rattle.check_command.proofs.Checks.{counted_files, found_in_file, is_read}
use Rattle.text_lines.specs.declared.text_fault.TextFile.TheVariants.{Blocks, Prec, Pcpsp, Cpit}
use Rattle.check_command.proofs.check.count_all.Goals as goal

pub returns-in-Ok-clause-counts : goal.returns-in-Ok-clause-counts
returns-in-Ok-clause-counts g c =
    let all = counted_files c.args.base.now g.O.Opened.Feed.state g.O.File.AtPath.path _ _ _ _ _ _ _ _ _ (rw c.new.ensures at c.in_ok-count_file.ensures.counts)
    c.in_ok-count_file-2.ensures.counts c.in_ok-count_file-3.ensures.counts c.in_ok-count_file-4.ensures.counts in
    rw c.in-Ok.is at all

pub returns-in-Err-clause-fault : goal.returns-in-Err-clause-fault
returns-in-Err-clause-fault g c =
    let all = counted_files c.args.base.now g.O.Opened.Feed.state g.O.File.AtPath.path _ _ _ _ _ _ _ _ _ (rw c.new.ensures at c.in_ok-count_file.ensures.counts)
    c.in_ok-count_file-2.ensures.counts c.in_ok-count_file-3.ensures.counts c.in_ok-count_file-4.ensures.counts in
    inr (inl (c.in-Err.fault, refl, (all.0, all.1, all.2 ∙ c.in-Err.is)))

pub returns-in_err-count_file-clause-fault : goal.returns-in_err-count_file-clause-fault
returns-in_err-count_file-clause-fault g c =
    let found = found_in_file c.args.base.now g.O.Opened.Feed.state g.O.File.AtPath.path _ _ Blocks _ c.in_err-count_file.field-0.0
    refl c.in_err-count_file.ensures.fault in
    search rules

pub returns-in_err-count_file-2-clause-fault : goal.returns-in_err-count_file-2-clause-fault
returns-in_err-count_file-2-clause-fault g c =
    let found = found_in_file c.args.base.now g.O.Opened.Feed.state g.O.File.AtPath.path _ _ Prec _ c.in_err-count_file-2.field-0.0
    (is_read c.args.base.now g.O.Opened.Feed.state g.O.File.AtPath.path Blocks _ _ _ _ (λ e. absurd cc) c.in_ok-count_file.ensures.counts) c.in_err-count_file-2.ensures.fault in
    search rules

pub returns-in_err-count_file-3-clause-fault : goal.returns-in_err-count_file-3-clause-fault
returns-in_err-count_file-3-clause-fault g c =
    let found = found_in_file c.args.base.now g.O.Opened.Feed.state g.O.File.AtPath.path _ _ Pcpsp _ c.in_err-count_file-3.field-0.0
    (_, (is_read c.args.base.now g.O.Opened.Feed.state g.O.File.AtPath.path Blocks _ _ _ _ (λ e. absurd cc) c.in_ok-count_file.ensures.counts), (is_read c.args.base.now g.O.Opened.Feed.state g.O.File.AtPath.path Prec _ _ _ _ (λ e. absurd cc) c.in_ok-count_file-2.ensures.counts)) c.in_err-count_file-3.ensures.fault in
    search rules

pub returns-in_err-count_file-4-clause-fault : goal.returns-in_err-count_file-4-clause-fault
returns-in_err-count_file-4-clause-fault g c =
    let found = found_in_file c.args.base.now g.O.Opened.Feed.state g.O.File.AtPath.path _ _ Cpit _ c.in_err-count_file-4.field-0.0
    (_, _, (is_read c.args.base.now g.O.Opened.Feed.state g.O.File.AtPath.path Blocks _ _ _ _ (λ e. absurd cc) c.in_ok-count_file.ensures.counts), (is_read c.args.base.now g.O.Opened.Feed.state g.O.File.AtPath.path Prec _ _ _ _ (λ e. absurd cc) c.in_ok-count_file-2.ensures.counts), (is_read c.args.base.now g.O.Opened.Feed.state g.O.File.AtPath.path Pcpsp _ _ _ _ (λ e. absurd cc) c.in_ok-count_file-3.ensures.counts)) c.in_err-count_file-4.ensures.fault in
    search rules
