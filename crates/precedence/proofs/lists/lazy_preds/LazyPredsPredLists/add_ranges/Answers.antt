use Rattle.precedence.proofs.AllLists.{few_found, found_at}
use Rattle.precedence.proofs.lists.lazy_preds.LazyPredsPredLists.add_ranges.Goals as goal

pub returns-clause-list : goal.returns-clause-list
returns-clause-list c =
    let list = found_at c.self.inside c.self.invariant c.args.self.now c.args.id _ _ c.self.view_is c.requires
    c.index-zone.ensures c.index-from.ensures in
    rw list c.add_ranges_in_cone.ensures

pub returns-clause-countable : goal.returns-clause-countable
returns-clause-countable c =
    few_found c.self.inside c.self.invariant c.args.self.now c.args.id _ _ c.self.view_is c.requires c.index-zone.ensures c.index-from.ensures
