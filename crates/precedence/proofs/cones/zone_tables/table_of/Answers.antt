use Rattle.std.proofs.Common.{◌∙◌, ap, arith}
use Rattle.precedence.specs.inner.Rows.{pasts}
use Rattle.precedence.proofs.Tables.{apart_all, narrower}
use Rattle.precedence.proofs.cones.zone_tables.table_of.Goals as goal

pub invariant_of-result-clause-in_order : goal.invariant_of-result-clause-in_order
invariant_of-result-clause-in_order c =
    let table = c.in_ok-rows.ensures in
    apart_all 0 c.in_ok-rows.rows.items table.high (omega arith) table.apart

pub invariant_of-result-clause-all_past : goal.invariant_of-result-clause-all_past
invariant_of-result-clause-all_past c = c.in_ok-past.ensures ∙ ap pasts c.as_slice.ensures.value

pub invariant_of-result-clause-no_wider : goal.invariant_of-result-clause-no_wider
invariant_of-result-clause-no_wider c = rw c.as_slice-3.ensures.value at c.widths_of-widths.ensures

pub returns-clause-exact : goal.returns-clause-exact
returns-clause-exact c =
    let rows = c.in_ok-rows.rows.items in
    let table = c.in_ok-rows.ensures in
    record {
      each = λ z cone e lt same. narrower c.args.grid c.args.cone c.extent_for.result _ rows (c.extent_for.ensures z cone e lt same) table;
    }
