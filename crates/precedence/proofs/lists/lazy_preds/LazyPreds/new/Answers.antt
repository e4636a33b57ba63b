use Rattle.std.proofs.Common.{◌∙◌, ◌<◌, length, ap, sym, arith}
use Rattle.std.proofs.lemmas.List.{length-map}
use Rattle.std.proofs.lemmas.List.Elements.{All-map}
use Rattle.plan_parts.specs.declared.block.Block.{Block}
use Rattle.precedence.specs.Codes.{place_code}
use Rattle.precedence.specs.Cone.{preds}
use Rattle.precedence.specs.Zones.{HasZones}
use Rattle.precedence.specs.inner.Lists.{in_cones}
use Rattle.precedence.proofs.AllLists.{preds_are}
use Rattle.precedence.proofs.lists.lazy_preds.LazyPreds.new.Goals as goal

pub invariant_of-result : goal.invariant_of-result
invariant_of-result c =
    let blocks = c.blocks-blocks.result.now in
    let tables = c.in_ok-tables.tables in
    let zones : HasZones c.args.plan.now blocks = rw c.blocks-blocks.ensures.value c.requires in
    let cones = ap length c.cones-cones.ensures.value in
    record {
      each =
          ap length c.in_ok-zones.ensures ∙ length-map blocks (λ (b : Block). b.zone)
          ∙ sym (ap length c.in_ok-places.ensures ∙ length-map blocks place_code);
      zones = rw c.in_ok-zones.ensures (All-map (λ z. z < length tables.of_zone.items) (λ (b : Block). b.zone) blocks
          (λ k d lt. omega (arith, zones k d lt, c.in_ok-tables.ensures.zones, cones)));
      same_cone = rw (c.as_slice-2.ensures.value, c.as_slice-3.ensures.value, c.as_slice-4.ensures.value) at c.in_ok-same_cone.ensures;
      windows = c.in_ok-windows.ensures _ (omega (arith, c.len.ensures));
    }

pub returns : goal.returns
returns c =
    let tables = c.in_ok-tables.tables in
    (λ j. in_cones tables.tables.items tables.of_zone.items (c.in_ok-places.ensures j) (c.in_ok-zones.ensures j) (c.in_ok-places.ensures j))
    ∙ preds_are c.args.plan.now c.as_slice.result.now tables.tables.items tables.of_zone.items c.blocks-blocks.result.now
    (rw (c.grid.ensures.value, c.cones-cones.ensures.value) at c.in_ok-tables.ensures)
    (rw c.as_slice.ensures.value c.in_ok-extents.ensures.near) (rw c.blocks-blocks.ensures.value c.blocks-blocks.ensures.rising)
    (rw c.blocks-blocks.ensures.value c.requires)
    ∙ ap (preds c.args.plan.now) c.blocks-blocks.ensures.value

pub same_cone_of-requires-clause-zones : goal.same_cone_of-requires-clause-zones
same_cone_of-requires-clause-zones c =
    let blocks = c.blocks-blocks.result.now in
    let tables = c.in_ok-tables.tables in
    let zones : HasZones c.args.plan.now blocks = rw c.blocks-blocks.ensures.value c.requires in
    let cones = ap length c.cones-cones.ensures.value in
    rw (c.as_slice-3.ensures.value, c.as_slice-4.ensures.value)
    (rw c.in_ok-zones.ensures (All-map (λ z. z < length tables.of_zone.items) (λ (b : Block). b.zone) blocks
    (λ k d lt. omega (arith, zones k d lt, c.in_ok-tables.ensures.zones, cones))))
