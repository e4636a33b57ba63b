-- The numbers of a plan's instance are in the range of decimals, since a plan's numbers, a block's tonnes and its worths are small;
-- the same holds for its CPIT.
use Rattle.std.proofs.Common.{◌≡◌, ℕ, zero, suc, ℤ, pos, negsuc, Bool, true, false, List, [], ◌∷◌, All, map, filter, get_or, refl, sym, subst, arith}
use Rattle.std.specs.Prelude.{slice_index_or, if◌then◌else◌, ◌==◌}
use Rattle.std.specs.List.{flat_map, enumerate_from}
use Rattle.std.proofs.lemmas.Int.{ints}
use Rattle.std.proofs.lemmas.List.Elements.{All-nil, All-append, All-filter, All-map, All-weaker, All-tail}
use Rattle.pit_units.specs.DecimalRange.{IsInDecimalRange}
use Rattle.plan_parts.specs.Name.{is_name}
use Rattle.plan_parts.specs.Plan.{PlanParts}
use Rattle.plan_parts.specs.PlanInvariant.{AreTonnes, IsPlan, IsTonnes}
use Rattle.plan_parts.specs.formulas.WorthRange.{IsWorth}
use Rattle.plan_parts.specs.declared.block.Block.{Block}
use Rattle.plan_parts.specs.declared.limit.Bound.{Bound}
use Rattle.plan_parts.specs.declared.limit.Bound.TheVariants.{AtMost, AtLeast, Between}
use Rattle.plan_parts.proofs.WorthFacts.{worth_bound}
use Rattle.mine_instance.specs.Largest.{first_largest, largest}
use Rattle.mine_instance.specs.Instance.{Instance}
use Rattle.mine_instance.specs.OfModel.{by_identifier, in_hundreds, instance, instance_of, values_of}
use Rattle.mine_instance.specs.coefs.CoveredPairs.{block_coefs, block_coef, covered}
use Rattle.mine_instance.specs.cpit.OfCpit.{cpit, is_chosen, at_only_destination}
use Rattle.mine_instance.specs.declared.coefs.coef.Coef.{Coef}
use Rattle.mine_instance.proofs.CoefFacts.{coefs_are}
use Rattle.mine_instance.proofs.ModelFacts.{worths_fit}
use Rattle.mine_instance.specs.WellFormed.{HasDecimals, IsWellFormed, IsWellFormedCpit}

-- worths, as values
value_fits : (cents : ℤ) → IsWorth cents → IsInDecimalRange (in_hundreds cents)
value_fits (pos n) small = omega (arith, small)
value_fits (negsuc n) small = omega (arith, ints, small)

values_fit : (plan : PlanParts) → IsPlan plan → (b : Block) → All IsInDecimalRange (values_of plan b)
values_fit plan is b =
    All-map IsInDecimalRange in_hundreds _
    (All-weaker IsWorth (λ cents. IsInDecimalRange (in_hundreds cents)) value_fits _ (worths_fit worth_bound plan b _ refl is.formulas))

-- tonnes of blocks, as coefficients
unless : (test : Bool) (coefs : List Coef) → All (λ c. IsInDecimalRange c.v) coefs
    → All (λ c. IsInDecimalRange c.v) (if test then [] else coefs)
unless true coefs fit = All-nil (λ (c : Coef). IsInDecimalRange c.v)
unless false coefs fit = fit

block_fits : (pairs : List (ℕ × ℕ)) (numbered : ℕ × Block) → All (λ c. IsInDecimalRange c.v) (block_coefs pairs numbered)
block_fits pairs numbered =
    unless (numbered.1.kg == 0) (map (block_coef numbered.0 numbered.1) pairs)
    (All-map (λ (c : Coef). IsInDecimalRange c.v) (block_coef numbered.0 numbered.1) pairs (λ k d within. omega (arith, numbered.1.kg_in_range)))

coefs_fit : (pairs : List (ℕ × ℕ)) (numbered : List (ℕ × Block)) → All (λ c. IsInDecimalRange c.v) (flat_map (block_coefs pairs) numbered)
coefs_fit pairs [] = All-nil (λ (c : Coef). IsInDecimalRange c.v)
coefs_fit pairs (b ∷ bs) =
    All-append (λ (c : Coef). IsInDecimalRange c.v) (block_coefs pairs b) (flat_map (block_coefs pairs) bs) (block_fits pairs b) (coefs_fit pairs bs)

-- the tonnes of limits
tonnes_fit : (v : ℤ) → IsTonnes v → IsInDecimalRange v
tonnes_fit (pos n) is = omega (arith, ints, is.1)
tonnes_fit (negsuc n) is = absurd (omega (arith, ints, is.0))

bound_fits : (b : Bound) → AreTonnes b → HasDecimals b
bound_fits (AtMost v) is = tonnes_fit v is
bound_fits (AtLeast v) is = tonnes_fit v is
bound_fits (Between v w) is = (tonnes_fit v is.0, tonnes_fit w is.1)

pub instance_of_well_formed : (plan : PlanParts) (blocks : List Block) → is_name plan.name ≡ true → IsPlan plan → IsWellFormed (instance_of plan blocks)
instance_of_well_formed plan blocks named is = record {
  name = named;
  values = All-map (λ values. All IsInDecimalRange values) (values_of plan) blocks (λ k d within. values_fit plan is _);
  coefs = subst (All (λ (c : Coef). IsInDecimalRange c.v)) (sym (coefs_are plan blocks)) (coefs_fit (covered plan) (enumerate_from 0 blocks));
  limits = λ k d within. bound_fits (get_or plan.limits k d).bound (is.limits k d within).2.tonnes;
}

pub instance_well_formed : (plan : PlanParts) (listed : List Block) → is_name plan.name ≡ true → IsPlan plan → IsWellFormed (instance plan listed)
instance_well_formed plan listed named is = instance_of_well_formed plan (by_identifier listed) named is

-- a number of a list, or 0
number_fits : (numbers : List ℤ) (place : ℕ) → All IsInDecimalRange numbers → IsInDecimalRange (slice_index_or numbers place (pos 0))
number_fits [] place fit = omega arith
number_fits (n ∷ numbers) zero fit = fit 0 n (omega arith)
number_fits (n ∷ numbers) (suc place) fit = number_fits numbers place (All-tail IsInDecimalRange n numbers fit)

pub cpit_well_formed : (i : Instance) → IsWellFormed i → IsWellFormedCpit (cpit i)
cpit_well_formed i kept = record {
  name = kept.name;
  values = All-map IsInDecimalRange largest i.values
      (λ k d within. number_fits (get_or i.values k d) (first_largest (get_or i.values k d)) (kept.values k d within));
  coefs = All-map (λ e. IsInDecimalRange e.v) at_only_destination (filter (is_chosen i.values) i.coefs)
      (All-filter (is_chosen i.values) (λ (c : Coef). IsInDecimalRange c.v) i.coefs kept.coefs);
  limits = kept.limits;
}
