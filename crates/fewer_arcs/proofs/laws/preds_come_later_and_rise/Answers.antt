use Rattle.fewer_arcs.proofs.laws.preds_come_later_and_rise.Goals as goal

pub returns-clause-later : goal.returns-clause-later
returns-clause-later c = λ plan listed n numbering b k has. c.preds_come_later.ensures plan listed n b k numbering has
