-- The coefficients of a model are the coefficients of its blocks at its covered pairs.
use Rattle.std.proofs.Common.{◌≡◌, ℕ, ◌∙◌, Bool, true, false, cond, List, [], ◌∷◌, ◌++◌, length, map, Option, Some, None, refl, sym, ap}
use Rattle.std.specs.Prelude.{filter, if◌then◌else◌, not, ◌||◌, ◌==◌}
use Rattle.std.specs.List.{cons_option, enumerate_from, filter_map, flat_map, range_with_len}
use Rattle.std.proofs.lemmas.List.{map-append}
use Rattle.plan_parts.specs.Plan.{PlanParts}
use Rattle.plan_parts.specs.declared.block.Block.{Block}
use Rattle.plan_parts.specs.declared.resource.Resource.{Resource}
use Rattle.mine_instance.specs.coefs.CoveredPairs.{block_coef, block_coefs, coefs_of, covered, covering, covers, pair_with}
use Rattle.mine_instance.specs.OfModel.{coef_at, coefs}
use Rattle.mine_instance.specs.declared.coefs.coef.Coef.{Coef}

module _ (k : ℕ) (b : Block) where
  -- with a flag that the block has no tonnage
  abbrev found : Bool → ℕ → ℕ × Resource → Option Coef
  found none d resource = if none || not (covers d resource) then None else Some (block_coef k b (pair_with d resource))

  one_more : (d : ℕ) (r : ℕ × Resource) (others : List (ℕ × Resource)) (more : List Coef) (covered : Bool)
      → more ≡ map (block_coef k b) (map (pair_with d) others)
      → cons_option (if false || not covered then None else Some (block_coef k b (pair_with d r))) more
      ≡ map (block_coef k b) (map (pair_with d) (cond covered (r ∷ others) others))
  one_more d r others more true is = ap (λ coefs. block_coef k b (pair_with d r) ∷ coefs) is
  one_more d r others more false is = is

  at_destination : (none : Bool) (d : ℕ) (resources : List (ℕ × Resource))
      → filter_map (found none d) resources ≡ cond none [] (map (block_coef k b) (map (pair_with d) (filter (covers d) resources)))
  at_destination true d [] = refl
  at_destination false d [] = refl
  at_destination true d (r ∷ resources) = at_destination true d resources
  at_destination false d (r ∷ resources) =
      one_more d r (filter (covers d) resources) (filter_map (found false d) resources) (covers d r) (at_destination false d resources)

  of_block : (none : Bool) (resources : List Resource) (destinations : List ℕ)
      → flat_map (λ d. filter_map (found none d) (enumerate_from 0 resources)) destinations
      ≡ cond none [] (map (block_coef k b) (flat_map (covering resources) destinations))
  of_block true resources [] = refl
  of_block false resources [] = refl
  of_block true resources (d ∷ destinations) =
      ap (λ prefix. prefix ++ flat_map (λ d. filter_map (found true d) (enumerate_from 0 resources)) destinations)
      (at_destination true d (enumerate_from 0 resources))
      ∙ of_block true resources destinations
  of_block false resources (d ∷ destinations) =
      (λ j. at_destination false d (enumerate_from 0 resources) j ++ of_block false resources destinations j)
      ∙ sym (map-append (block_coef k b) (covering resources d) (flat_map (covering resources) destinations))

of_blocks : (plan : PlanParts) (blocks : List (ℕ × Block))
    → flat_map (λ block.
    flat_map (λ d. filter_map (coef_at block d) (enumerate_from 0 plan.resources)) (range_with_len 0 (length plan.formulas))) blocks
    ≡ flat_map (block_coefs (covered plan)) blocks
of_blocks plan [] = refl
of_blocks plan (b ∷ blocks) =
    λ j. of_block b.0 b.1 (b.1.kg == 0) plan.resources (range_with_len 0 (length plan.formulas)) j ++ of_blocks plan blocks j

pub coefs_are : (plan : PlanParts) (blocks : List Block) → coefs plan blocks ≡ coefs_of (covered plan) blocks
coefs_are plan blocks = of_blocks plan (enumerate_from 0 blocks)
