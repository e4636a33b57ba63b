use Rattle.std.proofs.Common.{sym, ◌∙◌, ap, drop, take, ◌+◌}
use Rattle.minelib_reading.specs.ModelKeys.{is_colon}
use Rattle.minelib_reading.proofs.models.ModelFacts.{place_found, place_not_found}
use Rattle.minelib_reading.proofs.model.key_lines.cut_at_colon.Goals as goal

pub returns-in-Some : goal.returns-in-Some
returns-in-Some c =
    let line = c.args.line.now in
    let found = place_found is_colon line c.in-Some.place (sym c.colon_place.ensures ∙ c.in-Some.is) in
    (found.1, ap (λ n. take n line) (sym found.0), c.after.ensures ∙ ap (λ n. drop (n + 1) line) (sym found.0))

pub returns-in-None : goal.returns-in-None
returns-in-None c = place_not_found is_colon c.args.line.now (sym c.colon_place.ensures ∙ c.in-None.is)
