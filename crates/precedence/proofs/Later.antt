-- A predecessor has a larger identifier.
use Rattle.std.proofs.Common.{◌≡◌, ℕ, ◌<◌, true, false, List, [], Contains, length, get_or, slice_get, ap, arith, ⊎_elim}
use Rattle.std.proofs.lemmas.Bool.{cases_lt}
use Rattle.std.proofs.lemmas.Bool.Decides.{nat_tests}
use Rattle.std.proofs.lemmas.List.{length-map}
use Rattle.plan_parts.specs.Plan.{PlanParts}
use Rattle.plan_parts.specs.declared.block.Block.{Block}
use Rattle.precedence.specs.Cone.{above, preds}
use Rattle.precedence.specs.Identifier.{comes_before}
use Rattle.precedence.specs.Numbering.{IsNumbering, NumberingView}
use Rattle.precedence.proofs.LawFacts.{preds_higher}
use Rattle.precedence.proofs.Members.{in_list, some_of}
use Rattle.precedence.proofs.Order.{in_order}

-- a block that comes before another is on no higher bench
no_higher : (a b : Block) → comes_before a b ≡ true → b.z < a.z → ⊥
no_higher a b before less = let no : true ≡ false = grind (arith, nat_tests) in cc

module _ (plan : PlanParts) (listed : List Block) (n : NumberingView) (numbering : IsNumbering listed n) (b c : ℕ)
    (has : Contains (get_or (preds plan n.blocks) b []) c) where
  long : length (preds plan n.blocks) ≡ length n.blocks
  long = length-map n.blocks (λ (low : Block). above plan.grid (slice_get plan.cones low.zone) n.blocks low)

  within : b < length n.blocks
  within = omega (arith, in_list (preds plan n.blocks) b c has, long)

  later : (d : Block) → b < c
  later d =
      let exact = preds_higher plan n.blocks b c d within has in
      ⊎_elim
      (λ lt. lt)
      (λ le. ⊎_elim
      (λ less. absurd (no_higher (get_or n.blocks c d) (get_or n.blocks b d)
      (in_order listed n c b d numbering less (omega (arith, within, numbering.blocks))) exact.1))
      (λ same. let here : b ≡ c = omega arith in absurd (omega (arith, exact.1, ap (λ k. (get_or n.blocks k d).z) here)))
      (cases_lt c b))
      (cases_lt b c)

pub come_later : (plan : PlanParts) (listed : List Block) (n : NumberingView) (b c : ℕ) → IsNumbering listed n
    → Contains (get_or (preds plan n.blocks) b []) c → b < c
come_later plan listed n b c numbering has =
    later plan listed n numbering b c has (some_of n.blocks b (within plan listed n numbering b c has))
