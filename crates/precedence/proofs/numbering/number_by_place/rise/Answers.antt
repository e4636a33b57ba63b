use Rattle.std.proofs.Common.{ℕ, nat_lt, rules}
use Rattle.std.proofs.lemmas.List.Sorted.{answers_always}
use Rattle.precedence.proofs.Identifiers.{keys_rise_if_sorted}
use Rattle.precedence.proofs.numbering.number_by_place.rise.Goals as goal

pub returns : goal.returns
returns c =
    keys_rise_if_sorted _ _ (c.is_sorted_by.ensures.cases (λ (e f : ℕ × ℕ). nat_lt e.0 f.0) (answers_always _ _ _ (λ f a r g k. search rules)))
