use Rattle.precedence.proofs.AllLists.{codes_small}
use Rattle.precedence.proofs.places.places_of.Goals as goal

pub invariant_of-result-clause-small : goal.invariant_of-result-clause-small
invariant_of-result-clause-small c = rw c.in_ok-codes.ensures (codes_small c.args.blocks.now)

pub invariant_of-result-clause-spanned : goal.invariant_of-result-clause-spanned
invariant_of-result-clause-spanned c = rw c.in_ok-codes.ensures c.in_ok-columns.ensures
