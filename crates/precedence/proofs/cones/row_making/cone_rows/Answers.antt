use Rattle.std.proofs.Common.{◌≡◌, ◌+◌, ◌∙◌, min, ap, arith}
use Rattle.precedence.proofs.Tables.{exact_without_rows, is_table}
use Rattle.precedence.proofs.cones.row_making.cone_rows.Goals as goal

pub loop-dz-init : goal.loop-dz-init
loop-dz-init c = rw c.new-rows.ensures.items (exact_without_rows c.args.grid c.args.cone c.args.extent)

pub returns : goal.returns
returns c =
    let a = c.args in
    let top = c.min-top.result in
    let last : c.loop-dz.dz ≡ top + 1 = omega (arith, c.loop-dz-test.false, c.loop-dz.auto.dz-end) in
    is_table a.grid a.cone a.extent top c.loop-dz.rows.items
    (c.min-top.ensures ∙ ap (λ k. min k a.extent.benches) c.from.ensures)
    (rw last at c.loop-dz.invariant)
