use Rattle.std.proofs.Common.{rules, ◌++◌, ◌∷◌}
use Rattle.std.specs.Prelude.{codes}
use Rattle.std.proofs.lemmas.Result.{on_ok_weaker}
use Rattle.minelib_writing.proofs.SectionsWritten.{continues, lines_then, lines_cut_then, lines_cut_before}
use Rattle.minelib_writing.proofs.sections.write_sections.Goals as goal

pub returns-in_err-write_titled-clause-writes : goal.returns-in_err-write_titled-clause-writes
returns-in_err-write_titled-clause-writes g c =
    let values = codes "OBJECTIVE_FUNCTION:" ∷ g.V.Parted.lines c.args.values.now in
    let coefs = codes "RESOURCE_CONSTRAINT_COEFFICIENTS:" ∷ g.C.Parted.lines c.args.coefs.now in
    let limits = codes "RESOURCE_CONSTRAINT_LIMITS:" ∷ g.L.Parted.lines c.args.limits.now in
    let cut = lines_cut_before (values ++ coefs) limits (lines_cut_before values coefs c.in_err-write_titled.ensures.writes) in
    search rules

pub returns-in_err-write_titled-2-clause-writes : goal.returns-in_err-write_titled-2-clause-writes
returns-in_err-write_titled-2-clause-writes g c =
    let values = codes "OBJECTIVE_FUNCTION:" ∷ g.V.Parted.lines c.args.values.now in
    let coefs = codes "RESOURCE_CONSTRAINT_COEFFICIENTS:" ∷ g.C.Parted.lines c.args.coefs.now in
    let limits = codes "RESOURCE_CONSTRAINT_LIMITS:" ∷ g.L.Parted.lines c.args.limits.now in
    let two = lines_cut_then values coefs c.in_ok-write_titled.ensures.writes.appended c.in_err-write_titled-2.ensures.writes in
    let cut = lines_cut_before (values ++ coefs) limits two in
    search rules

pub returns : goal.returns
returns g c =
    let values = codes "OBJECTIVE_FUNCTION:" ∷ g.V.Parted.lines c.args.values.now in
    let coefs = codes "RESOURCE_CONSTRAINT_COEFFICIENTS:" ∷ g.C.Parted.lines c.args.coefs.now in
    let limits = codes "RESOURCE_CONSTRAINT_LIMITS:" ∷ g.L.Parted.lines c.args.limits.now in
    let two = lines_then values coefs c.in_ok-write_titled.ensures.writes c.in_ok-write_titled-2.ensures.writes in
    record {
      writes = continues _ _ (values ++ coefs) limits c.write_titled-3.result two c.write_titled-3.ensures.writes;
      values = on_ok_weaker c.write_titled-3.result (λ _. c.in_ok-write_titled.ensures.kept) c.write_titled-3.ensures.kept;
      coefs = on_ok_weaker c.write_titled-3.result (λ _. c.in_ok-write_titled-2.ensures.kept) c.write_titled-3.ensures.kept;
      limits = c.write_titled-3.ensures.kept;
    }
