use Rattle.std.proofs.lemmas.List.Elements.{All-push}
use Rattle.precedence.specs.inner.ZoneTables.{IsExact}
use Rattle.precedence.proofs.cones.zone_tables.place_of.Goals as goal

pub returns-clause-exact : goal.returns-clause-exact
returns-clause-exact c =
    let a = c.args in
    rw c.in_ok-push.ensures.items
    (All-push (IsExact a.grid a.cones.now a.extents.now) a.tables.now.items c.in_ok-table.table c.requires.exact c.in_ok-table.ensures.exact)
