use Rattle.std.proofs.Common.{◌≡◌, ◌+◌, ◌*◌, ◌≤◌, ⊎_elim, arith}
use Rattle.std.proofs.lemmas.Bool.{cases_lt}
use Rattle.precedence.proofs.Tables.{exact_with_row, exact_without_row, exact_after_bench}
use Rattle.precedence.proofs.cones.row_making.add_bench.Goals as goal

pub loop-i-preserved : goal.loop-i-preserved
loop-i-preserved c =
    let a = c.args in
    let i = c.loop-i.i in
    let row = c.bench_row.result in
    let counts = c.row_counts-counts in
    let rows = c.loop-i.rows.items in
    let inside : i ≤ 2 * a.extent.rows = omega (arith, c.loop-i-test.true) in
    ⊎_elim
    (λ some. rw (c.in_ok-add_row.ensures.row some)
    (exact_with_row a.grid a.cone a.extent a.dz i c.requires.up c.requires.within inside counts.result counts.ensures
    row c.bench_row.ensures.first c.bench_row.ensures.past some rows c.loop-i.invariant))
    (λ none. rw (c.in_ok-add_row.ensures.no_row none)
    (exact_without_row a.grid a.cone a.extent a.dz i c.requires.up c.requires.within inside counts.result counts.ensures
    row c.bench_row.ensures.first c.bench_row.ensures.past none rows c.loop-i.invariant))
    (cases_lt row.first row.past)

pub returns : goal.returns
returns c =
    let a = c.args in
    let last : c.loop-i.i ≡ 2 * a.extent.rows + 1 = omega (arith, c.loop-i-test.false, c.loop-i.auto.i-end) in
    exact_after_bench a.grid a.cone a.extent a.dz c.loop-i.rows.items (rw last at c.loop-i.invariant)
