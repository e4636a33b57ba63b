use Rattle.std.proofs.Common.{arith}
use Rattle.std.proofs.lemmas.Bool.{both_ways, false_from_ne_true}
use Rattle.precedence.proofs.bits.Words.{kept_parts, cleared_from}
use Rattle.precedence.proofs.lanes.bits.without.Goals as goal

pub returns-clause-among : goal.returns-clause-among
returns-clause-among c = λ i yes. (kept_parts c.args.lanes c.gathered.result i (omega arith) (omega arith) yes).0

pub returns-clause-none : goal.returns-clause-none
returns-clause-none c = λ i at yes low up. false_from_ne_true _ (λ here.
    both_ways _ (kept_parts c.args.lanes c.gathered.result i (omega arith) (omega arith) yes).1 (c.gathered.ensures.all i at low up here))

pub returns-clause-dropped : goal.returns-clause-dropped
returns-clause-dropped c = λ i yes no.
    c.gathered.ensures.some i (cleared_from c.args.lanes c.gathered.result i (omega arith) (omega arith) yes no)
