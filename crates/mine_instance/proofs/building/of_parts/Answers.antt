use Rattle.std.proofs.Common.{◌≡◌, ◌∙◌, true, ap, sym, subst, length}
use Rattle.plan_parts.specs.Name.{is_name}
use Rattle.mine_instance.specs.OfModel.{instance_of}
use Rattle.mine_instance.specs.WellFormed.{IsWellFormed}
use Rattle.mine_instance.specs.Valid.{IsValid}
use Rattle.mine_instance.specs.Instance.{Instance}
use Rattle.mine_instance.proofs.BuildFacts.{by_identifier_is}
use Rattle.mine_instance.proofs.WellFormedLaws.{instance_of_well_formed}
use Rattle.mine_instance.proofs.ModelFacts.{built_is, instance_is_valid}
use Rattle.mine_instance.proofs.building.of_parts.Goals as goal

pub returns : goal.returns
returns g c =
    let plan = c.args.plan.now in
    let blocks = c.args.blocks.items in
    let built = built_is plan blocks _ _ _ _ _ _ _ _ _ _ (c.in_ok-name.ensures ∙ c.name-own.ensures.value) c.rate.ensures.value
    c.periods.ensures.value (ap length c.formulas.ensures.value) (ap length c.resources.ensures.value) c.new.ensures c.requires.preds
    c.requires.values c.requires.coefs (c.new-2.ensures ∙ c.in_ok-limits.ensures.items ∙ c.limits.ensures.value) in
    let P : Instance → Type 0 = λ i. IsValid i in
    let named : is_name plan.name ≡ true = rw (c.name-own.ensures.value) at c.as_str-text.ensures.kept in
    record {
      value = λ listed n numbered same. built ∙ ap (instance_of plan) (sym (by_identifier_is listed n numbered ∙ same));
      valid = subst P (sym built) (instance_is_valid plan blocks c.rate.ensures.kept c.requires.few);
      kept = subst IsWellFormed (sym built) (instance_of_well_formed plan blocks named c.rate.ensures.kept);
    }
