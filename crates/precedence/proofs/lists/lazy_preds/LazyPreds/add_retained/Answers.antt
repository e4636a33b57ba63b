use Rattle.std.proofs.Common.{◌++◌, ap, ◌∙◌}
use Rattle.precedence.specs.IdRanges.{ids_of}
use Rattle.precedence.proofs.bits.Retained.{few_listed, retained_is}
use Rattle.precedence.proofs.lists.lazy_preds.LazyPreds.add_retained.Goals as goal

pub returns-clause-retained : goal.returns-clause-retained
returns-clause-retained c =
    let added = rw c.as_slice.ensures.value at c.in_ok-add_retained.ensures.retained in
    added.2 ∙ ap (λ ids. ids_of c.args.ranges.now.items ++ ids)
    (retained_is c.self.inside c.self.invariant c.args.self.now c.self.view_is c.args.block c.requires.block added.0 added.1)

pub returns-clause-countable : goal.returns-clause-countable
returns-clause-countable c = few_listed c.self.inside c.self.invariant c.args.self.now c.self.view_is c.args.block c.requires.block

pub returns-in_err-add_retained-clause-countable : goal.returns-in_err-add_retained-clause-countable
returns-in_err-add_retained-clause-countable c = few_listed c.self.inside c.self.invariant c.args.self.now c.self.view_is c.args.block c.requires.block
