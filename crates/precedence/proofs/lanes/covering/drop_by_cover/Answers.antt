use Rattle.std.proofs.Common.{◌≡◌, ◌+◌, ◌-◌, ◌<◌, ℕ, length, subst, arith}
use Rattle.precedence.specs.inner.lanes.Windows.{Meets}
use Rattle.precedence.proofs.bits.Covering.{strip_meets}
use Rattle.precedence.proofs.bits.Dropping.{may_so}
use Rattle.precedence.proofs.lanes.covering.drop_by_cover.Goals as goal

pub returns : goal.returns
returns c =
    let cover = c.args.cover.now in
    let strip = c.index-strip.result.now in
    let table = c.index-tables-cover.result in
    let table_lt : cover.table < length c.args.tables.now = omega (arith, c.if-cover-by_table.false, c.requires.each) in
    let total : strip.start + (c.args.distance - strip.start) ≡ c.args.distance = omega (arith, c.if-distance-strip.false) in
    may_so
    (λ i meets. strip_meets c.args.tables.now c.args.by_table.now c.requires.each c.args.distance i cover.table cover.strip table
    c.index-by_table-cover.result strip table_lt c.index-tables-cover.is c.index-by_table-cover.is
    (omega (arith, c.if-cover-len.false, c.len.ensures)) c.index-strip.ensures (subst (λ d. (e : ℕ) × Meets strip table.rows.items d i e) total meets))
    c.drop_by_rows.ensures.may
