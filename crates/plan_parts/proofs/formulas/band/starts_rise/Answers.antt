use Rattle.std.proofs.Common.{rules, nat_lt}
use Rattle.std.proofs.lemmas.List.Sorted.{answers_always}
use Rattle.plan_parts.proofs.BandFacts.{rise_decided}
use Rattle.plan_parts.proofs.formulas.band.starts_rise.Goals as goal

pub returns : goal.returns
returns c = rise_decided _ _ (c.is_sorted_by.ensures.cases (λ b c. nat_lt b.start c.start) (answers_always _ _ _ (λ f a r g k. search rules)))
