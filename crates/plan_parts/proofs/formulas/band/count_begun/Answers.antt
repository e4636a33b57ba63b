use Rattle.std.proofs.Common.{rules, nat_le}
use Rattle.std.proofs.lemmas.List.Sorted.{IsPartitionPoint-from_clause}
use Rattle.plan_parts.proofs.BandFacts.{parted, first_pass}
use Rattle.plan_parts.proofs.formulas.band.count_begun.Goals as goal

pub returns-clause-begun : goal.returns-clause-begun
returns-clause-begun c =
    let point = IsPartitionPoint-from_clause (λ b. nat_le b.start c.args.grade) _ _ c.partition_point.ensures.partitioned
    (parted _ c.args.grade c.requires) (λ a r q k. search rules) in
    first_pass (λ b. nat_le b.start c.args.grade) _ _ point c.partition_point.ensures.bound
