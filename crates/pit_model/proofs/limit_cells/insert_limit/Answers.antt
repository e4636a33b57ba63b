use Rattle.std.proofs.Common.{◌∙◌, ap}
use Rattle.std.specs.List.{insert, position_or_len}
use Rattle.plan_parts.specs.PlanInvariant.{stands_before}
use Rattle.pit_model.proofs.Limits.{inserted}
use Rattle.pit_model.proofs.limit_cells.insert_limit.Goals as goal

pub returns-clause-ok : goal.returns-clause-ok
returns-clause-ok c =
    let limit = c.args.limit in
    let old = c.args.limits.now.items in
    c.in_ok-insert.ensures.items
    ∙ ap (λ i. insert old i limit) (c.index_for-place.ensures.place
    ∙ ap (λ xs. position_or_len (λ m. stands_before limit m) xs) c.as_slice.ensures.value)
    ∙ inserted limit old
