use Rattle.std.proofs.Common.{◌∙◌, arith, sym, ap, length}
use Rattle.std.proofs.lemmas.List.{length-map}
use Rattle.pit_compile.proofs.Collected.{FoundIsHeld, to-order, collected}
use Rattle.rows.specs.ItemsView.{items_in, PackedView}
use Rattle.pit_compile.proofs.collecting.collect.Goals as goal
use Rattle.plan_parts.specs.PlanFormulas.{formulas_of_plan}
use Rattle.valuers.specs.Valuing.{items_by}

pub in_order-requires : goal.in_order-requires
in_order-requires c =
    let given = c.requires in
    let fs = formulas_of_plan c.args.plan.now in
    let lists = sym (length-map c.args.items.items (λ (list : PackedView). list.items)) ∙ ap length given.handed ∙ length-map c.args._gathered.now.took (items_by fs) in
    record {
      few = omega (arith, lists, given.takers);
      files = omega (arith, c.cones.ensures.kept.zones, ap length c.cones.ensures.value);
      complete = to-order fs c.args._gathered.now (items_in c.args.items.items) _ given.whole given.few given.handed
          (given.files ∙ ap length (sym c.cones.ensures.value));
    }

pub returns : goal.returns
returns c =
    let given = c.requires in
    let found : FoundIsHeld = record { row = c.found_is_held.ensures.row; end = c.found_is_held.ensures.end } in
    collected found (formulas_of_plan c.args.plan.now) c.args._gathered.now (items_in c.args.items.items) _ _ given.whole given.handed
    (given.files ∙ ap length (sym c.cones.ensures.value)) c.in_ok-in_order.ensures
