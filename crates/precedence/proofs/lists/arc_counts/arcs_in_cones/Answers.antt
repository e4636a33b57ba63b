use Rattle.std.proofs.Common.{◌≡◌, ◌+◌, ◌*◌, ◌^◌, ◌<◌, ◌≤◌, ℕ, List, length, get_or, slice_get, sym, ap, ◌∙◌, arith}
use Rattle.std.specs.Prelude.{sum_by}
use Rattle.std.proofs.lemmas.Option.{slice_get-get_or}
use Rattle.plan_parts.specs.declared.ranges.TheConstants.{MAX_BLOCKS}
use Rattle.precedence.specs.Cone.{positions_where}
use Rattle.precedence.specs.inner.Arcs.{arcs_before, codes_with}
use Rattle.precedence.specs.inner.Lists.{in_cone}
use Rattle.precedence.specs.inner.Rows.{is_in_rows}
use Rattle.precedence.specs.inner.ZoneTables.{rows_of_table, zone_rows}
use Rattle.precedence.specs.declared.cones.cone_rows.Row.{Row}
use Rattle.precedence.specs.declared.cones.cone_table.ConeTable.{ConeTable}
use Rattle.precedence.proofs.Arcs.{all_tables, codes_rise, few_before, no_table, table_more}
use Rattle.precedence.proofs.PositionsWhere.{length-positions_where}
use Rattle.precedence.proofs.ranges.SameCone.{codes_along}
use Rattle.precedence.proofs.lists.arc_counts.arcs_in_cones.Goals as goal

pub loop-number-init : goal.loop-number-init
loop-number-init c =
    let t = c.args.tables.now in
    sym (no_table (in_cone t.tables.items t.of_zone.items c.args.places.now.codes.items) t.of_zone.items c.args.zones.now c.args.places.now.codes.items)

pub arcs_in_rows-arcs-requires-clause-in_order : goal.arcs_in_rows-arcs-requires-clause-in_order
arcs_in_rows-arcs-requires-clause-in_order c =
    rw c.as_slice-rows.ensures.value (10 ^ 15, c.index.result.now.in_order)

-- the arcs of the tables before one, and of that table
module _ (tables : List ConeTable) (of_zone codes zones : List ℕ) (number : ℕ) (own : ConeTable) (rows : List Row)
    (within : number < length tables) (is : own ≡ get_or tables number own) (rows_are : rows ≡ own.rows.items) where
  one_more : arcs_before (in_cone tables of_zone codes) of_zone (number + 1) zones codes
      ≡ arcs_before (in_cone tables of_zone codes) of_zone number zones codes
      + sum_by (λ from. length (positions_where (is_in_rows from rows) 0 codes)) (codes_with of_zone number zones codes)
  one_more =
      table_more (in_cone tables of_zone codes) of_zone number (λ from. length (positions_where (is_in_rows from rows) 0 codes))
      (λ z from here.
      let at : zone_rows tables of_zone z ≡ rows =
      ap (λ t. rows_of_table (slice_get tables t)) here
      ∙ ap rows_of_table (slice_get-get_or tables number own within)
      ∙ ap (λ (t : ConeTable). t.rows.items) (sym is) ∙ sym rows_are in
      ap (λ rs. length (positions_where (is_in_rows from rs) 0 codes)) at)
      zones codes

few_in : (tables : List ConeTable) (of_zone codes zones : List ℕ) (n : ℕ) → length codes ≤ MAX_BLOCKS
    → arcs_before (in_cone tables of_zone codes) of_zone n zones codes ≤ length zones * MAX_BLOCKS
few_in tables of_zone codes zones n few =
    few_before (in_cone tables of_zone codes) of_zone n MAX_BLOCKS
    (λ z from. omega (arith, length-positions_where (is_in_rows from (zone_rows tables of_zone z)) 0 codes, few)) zones codes

pub overflow_add-arcs : goal.overflow_add-arcs
overflow_add-arcs c =
    let t = c.args.tables.now in
    let codes = c.args.places.now.codes.items in
    let zones = c.args.zones.now in
    let number = c.loop-number.number in
    let own = ap (sum_by (λ from. length (positions_where (is_in_rows from c.as_slice-rows.result.now) 0 codes)))
    (c.as_slice-own.ensures.value ∙ c.in_ok-own.ensures.own ∙ ap (λ oz. codes_with oz number zones codes) c.as_slice.ensures.value) in
    let more = one_more t.tables.items t.of_zone.items codes zones number c.index.result.now c.as_slice-rows.result.now
    (omega (arith, c.loop-number-test.true, c.len-number-end.ensures)) c.index.ensures c.as_slice-rows.ensures.value in
    omega (
      arith,
      more,
      own,
      few_in t.tables.items t.of_zone.items codes zones (number + 1) c.args.places.now.few,
      c.loop-number.invariant,
      c.arcs_in_rows-arcs.ensures,
      c.requires.each,
      c.args.places.now.few,
    )

pub loop-number-preserved : goal.loop-number-preserved
loop-number-preserved c =
    let t = c.args.tables.now in
    let codes = c.args.places.now.codes.items in
    let zones = c.args.zones.now in
    let number = c.loop-number.number in
    let own = ap (sum_by (λ from. length (positions_where (is_in_rows from c.as_slice-rows.result.now) 0 codes)))
    (c.as_slice-own.ensures.value ∙ c.in_ok-own.ensures.own ∙ ap (λ oz. codes_with oz number zones codes) c.as_slice.ensures.value) in
    let more = one_more t.tables.items t.of_zone.items codes zones number c.index.result.now c.as_slice-rows.result.now
    (omega (arith, c.loop-number-test.true, c.len-number-end.ensures)) c.index.ensures c.as_slice-rows.ensures.value in
    omega (arith, more, own, c.loop-number.invariant, c.arcs_in_rows-arcs.ensures)

pub returns : goal.returns
returns c =
    let t = c.args.tables.now in
    let codes = c.args.places.now.codes.items in
    let zones = c.args.zones.now in
    let number = c.loop-number.number in
    c.loop-number.invariant
    ∙ all_tables (in_cone t.tables.items t.of_zone.items codes) t.of_zone.items number zones codes
    (λ k d lt. let one = t.of_zone.items in
    let z = c.requires.zones k d lt in
    let below = c.args.tables.now.below _ 0 z in
    omega (arith, below, c.loop-number-test.false, c.len-number-end.ensures))

pub arcs_in_rows-arcs-requires-clause-rising : goal.arcs_in_rows-arcs-requires-clause-rising
arcs_in_rows-arcs-requires-clause-rising c =
    rw (c.as_slice-own.ensures.value, c.in_ok-own.ensures.own)
    (codes_rise c.as_slice.result.now c.loop-number.number c.args.zones.now c.args.places.now.codes.items c.args.places.now.rising)

pub arcs_in_rows-arcs-requires-clause-same_cone : goal.arcs_in_rows-arcs-requires-clause-same_cone
arcs_in_rows-arcs-requires-clause-same_cone c =
    codes_along c.args.places.now.codes.items c.args.tables.now.of_zone.items c.args.zones.now c.args.same_cone.now c.requires.same_cone

pub arcs_in_rows-arcs-requires-clause-follow : goal.arcs_in_rows-arcs-requires-clause-follow
arcs_in_rows-arcs-requires-clause-follow c = rw c.as_slice-in-loop-number.ensures.value c.in_ok-follow.ensures
