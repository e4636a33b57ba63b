use Rattle.std.proofs.Common.{◌≡◌, ◌<◌, sym, ◌∙◌, ap, length, unwrap_or, false}
use Rattle.std.specs.List.{list_any}
use Rattle.plan_parts.specs.PlanInvariant.{IsBound}
use Rattle.pit_model.specs.Stated.{Stated, is_same_place}
use Rattle.pit_model.proofs.PlanInvariant.{limit_in_range}
use Rattle.pit_model.proofs.draft.Draft.add_limit.Goals as goal

pub invariant_of-self-2 : goal.invariant_of-self-2
invariant_of-self-2 c =
    let kept = c.self.invariant in
    let old = c.self.inside.limits.items in
    let now = c.in_ok-insert_limit.ensures.ok in
    let resource : c.args.limit.resource < length c.self.inside.resources.items =
    rw (ap (λ (d : Stated). length d.resources) c.self.view_is) c.requires.resource in
    let period : c.args.limit.period < unwrap_or c.self.inside.periods 0 =
    rw (ap (λ (d : Stated). unwrap_or d.periods 0) c.self.view_is) c.requires.period in
    let bound : IsBound c.args.limit.bound =
    record { tonnes = c.requires.tonnes; straight = sym c.is_turned.ensures ∙ c.if-is_turned.false } in
    let none : list_any (λ m. is_same_place c.args.limit m) old ≡ false =
    ap (λ xs. list_any (λ m. is_same_place c.args.limit m) xs) (sym c.as_slice.ensures.value) ∙ sym c.is_limited.ensures
    ∙ c.if-is_limited.false in
    rw now (limit_in_range _ c.args.limit kept resource period bound none)
