use Rattle.std.proofs.Common.{◌<◌, length, sym, subst, arith}
use Rattle.precedence.specs.inner.lanes.Windows.{AreCovers, MeetsTable}
use Rattle.precedence.proofs.bits.Covering.{cover_is, meets_table, table_meets}
use Rattle.precedence.proofs.bits.Dropping.{drops_all, drops_next, drops_so}
use Rattle.precedence.proofs.lanes.covering.drop_by_all.Goals.{then-place-len+in_ok-keep_cover, else-place-len}
use Rattle.precedence.proofs.lanes.covering.drop_by_all.Goals as goal

pub loop-number-preserved : goal.loop-number-preserved
loop-number-preserved c =
    let tables = c.args.tables.now in
    let by_table = c.args.by_table.now in
    let number = c.loop-number.number in
    let table = c.index-tables-number.result in
    let strips = c.index-by_table-number.result in
    let lt : number < length tables = omega (arith, c.loop-number-test.true) in
    record {
      covers = elim c.if-place-len.branch [
        | then-place-len+in_ok-keep_cover w ↦
            let strip = w.index.result.now in
            let inside : c.get-place.result < length strips.strips.items = omega (arith, w.if-place-len, c.len.ensures) in
            subst (λ cs. AreCovers c.args.lanes by_table cs) (λ i. (sym w.covers-is i).items) (record {
              all = w.in_ok-keep_cover.ensures.all c.args.lanes by_table c.loop-number.invariant.covers.all
                  (cover_is by_table c.args.lanes number c.get-place.result strips strip w.cover_of-cover.result (omega (arith, lt, c.requires.each))
                  c.index-by_table-number.is inside w.index.ensures w.cover_of-cover.ensures.table w.cover_of-cover.ensures.strip
                  w.cover_of-cover.ensures.first w.cover_of-cover.ensures.past w.cover_of-cover.ensures.all);
              few = w.in_ok-keep_cover.ensures.few c.loop-number.invariant.covers.few;
            })
        | else-place-len w ↦ subst (λ cs. AreCovers c.args.lanes by_table cs) (λ i. (sym w.covers-is i).items) c.loop-number.invariant.covers
      ];
      drops = drops_next (MeetsTable tables by_table c.args.distance) 0 number (omega arith) c.loop-number.invariant.drops (drops_so
          (λ i meets. (lt, table_meets tables by_table c.requires.each c.args.distance i number table strips lt c.index-tables-number.is c.index-by_table-number.is meets))
          (λ i meets. meets_table tables by_table c.requires.each c.args.distance number i table strips lt c.index-tables-number.is c.index-by_table-number.is meets)
          c.drop_by_strips-rest.ensures);
    }

pub returns-clause-drops : goal.returns-clause-drops
returns-clause-drops c =
    drops_all (MeetsTable c.args.tables.now c.args.by_table.now c.args.distance) c.loop-number.number
    (λ n i from meets. omega (arith, from, meets.0, c.loop-number-test.false))
    c.loop-number.invariant.drops
