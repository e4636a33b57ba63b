use Rattle.std.proofs.Common.{◌∙◌, sym, ⊎_elim}
use Rattle.std.proofs.lemmas.Bool.{both_ways, or_cases, or_left, or_right}
use Rattle.precedence.proofs.bits.Words.{has_bit_or}
use Rattle.precedence.proofs.lanes.bits.joined.Goals as goal

pub returns-clause-left : goal.returns-clause-left
returns-clause-left c = λ p yes. has_bit_or c.args.one c.args.other p ∙ or_left _ _ yes

pub returns-clause-right : goal.returns-clause-right
returns-clause-right c = λ p yes. has_bit_or c.args.one c.args.other p ∙ or_right _ _ yes

pub returns-clause-either : goal.returns-clause-either
returns-clause-either c = λ p yes no. ⊎_elim
    (λ first. absurd (both_ways _ no first))
    (λ second. second)
    (or_cases _ _ (sym (has_bit_or c.args.one c.args.other p) ∙ yes))
