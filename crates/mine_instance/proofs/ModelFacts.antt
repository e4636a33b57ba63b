-- The ranges of an instance's parts, from the plan's ranges.
use Rattle.std.proofs.Common.{◌≡◌, ℕ, ◌<◌, ◌≤◌, List, [], ◌∷◌, length, map, refl, sym, subst, ◌∙◌, ap, arith, ℤ, All, Bool, true, false, cond, suc, get_or, ◌⊎◌, inl, inr}
use Rattle.std.proofs.lemmas.List.{length-map}
use Rattle.std.proofs.lemmas.List.Elements.{All-map, All-append, All-head, All-tail, All-nil, All-filter}
use Rattle.std.proofs.lemmas.List.FromFn.{get_or-enumerate_from, get_or-range_with_len, length-enumerate_from, length-range_with_len}
use Rattle.std.proofs.lemmas.List.Kept.{AllPairs-filter, AllPairs-from_increasing}
use Rattle.std.specs.Prelude.{AllPairs, IsTrue, slice_get, filter, ◌==◌}
use Rattle.std.specs.List.{enumerate_from, range_with_len, flat_map}
use Rattle.std.proofs.lemmas.Bool.Decides.{nat_tests}
use Rattle.plan_parts.specs.PlanFormulas.{formulas_of_plan}
use Rattle.precedence.specs.Cone.{above, preds}
use Rattle.precedence.proofs.LawFacts.{lie_higher, lists_rise, range_rises}
use Rattle.plan_parts.specs.declared.resource.Resource.{Resource}
use Rattle.plan_parts.specs.declared.limit.Limit.{Limit}
use Rattle.plan_parts.specs.Plan.{PlanParts}
use Rattle.plan_parts.specs.formulas.Formula.{IsFormulaInRange}
use Rattle.plan_parts.specs.PlanInvariant.{IsPlan}
use Rattle.plan_parts.specs.formulas.Worth.{worth}
use Rattle.plan_parts.specs.formulas.WorthRange.{IsWorth}
use Rattle.plan_parts.specs.declared.block.Block.{Block}
use Rattle.plan_parts.specs.declared.formulas.formula.Formula.{Formula}
use Rattle.plan_parts.specs.declared.formulas.formula.NamedFormula.{NamedFormula}
use Rattle.rows.specs.Valued.{worths_by}
use Rattle.mine_instance.proofs.CoefFacts.{coefs_are}
use Rattle.mine_instance.proofs.PairFacts.{pairs_append, pairs_map, rising_differ}
use Rattle.mine_instance.specs.Valid.{AreLimits, AreCoefs, ArePreds, IsValid}
use Rattle.mine_instance.specs.Instance.{Instance}
use Rattle.mine_instance.specs.OfModel.{values_of, in_hundreds, instance_of}
use Rattle.mine_instance.specs.coefs.CoveredPairs.{covers, pair_with, covering, covered, block_coef, block_coefs, coefs_of}
use Rattle.mine_instance.specs.Order.{coef_before}
use Rattle.mine_instance.specs.declared.coefs.coef.Coef.{Coef}

-- one value for each destination
pub length-values_of : (plan : PlanParts) (b : Block) → length (values_of plan b) ≡ length plan.formulas
length-values_of plan b =
    length-map (worths_by (formulas_of_plan plan) b) in_hundreds ∙ length-map (formulas_of_plan plan) (λ f. worth f b)
    ∙ length-map plan.formulas (λ f. f.formula)

-- the worths by a plan's formulas are in range
pub worths_fit : ((f : Formula) (b : Block) → IsFormulaInRange f → IsWorth (worth f b)) → (plan : PlanParts) (b : Block) (worths : List ℤ)
    → worths ≡ worths_by (formulas_of_plan plan) b → All (λ f. IsFormulaInRange f.formula) plan.formulas → All IsWorth worths
worths_fit law plan b worths e formula_in_range =
    rw e (All-map IsWorth (λ f. worth f b) (formulas_of_plan plan)
    (All-map (λ f. IsWorth (worth f b)) (λ (f : NamedFormula). f.formula) plan.formulas
    (λ k d h. law (get_or plan.formulas k d).formula b (formula_in_range k d h))))

pub limits_are : (plan : PlanParts) → IsPlan plan → AreLimits (length plan.resources) plan.periods plan.limits
limits_are plan is = record {
  in_range = λ k d h. let here = is.limits k d h in (here.0, here.1, here.2.straight);
  rising = is.rising;
}

preds_are : (plan : PlanParts) (blocks : List Block) → ArePreds (length blocks) (preds plan blocks)
preds_are plan [] = λ i h. absurd (omega arith)
preds_are plan (b ∷ bs) = λ i h.
    let blocks : List Block = b ∷ bs in
    let within : i < length blocks =
    omega (arith, length-map blocks (λ low. above plan.grid (slice_get plan.cones low.zone) blocks low)) in
    let ids : List ℕ = get_or (preds plan blocks) i [] in
    let higher = lie_higher plan blocks i b within in
    record {
      below = λ k d lt. (higher k d lt).0;
      others = λ k d lt same.
          let up = (higher k d lt).1 in
          let own : (get_or blocks (get_or ids k d) b).z ≡ (get_or blocks i b).z = ap (λ n. (get_or blocks n b).z) same in
          omega arith;
      distinct = rising_differ ids (AllPairs-from_increasing ids (lists_rise plan blocks i within));
    }

-- ---- concatenated rising lists

all_flat : {X Y : Type 0} (P : Y → Type 0) (f : X → List Y) (xs : List X) → All (λ x. All P (f x)) xs → All P (flat_map f xs)
all_flat P f [] each = All-nil P
all_flat P f (x ∷ xs) each =
    All-append P (f x) (flat_map f xs) (All-head (λ x. All P (f x)) x xs each) (all_flat P f xs (All-tail (λ x. All P (f x)) x xs each))

-- lists of rising numbers, if elements with a smaller number precede elements with a larger one
pairs_flat : {X Y : Type 0} (R : Y → Y → Type 0) (f : X → List Y) (number : X → ℕ) (key : Y → ℕ)
    → ((y z : Y) → key y < key z → R y z) → ((x : X) → All (λ y. key y ≡ number x) (f x)) → ((x : X) → AllPairs R (f x))
    → (xs : List X) → AllPairs (λ x z. number x < number z) xs → AllPairs R (flat_map f xs)
pairs_flat R f number key before own each [] rise = λ i j d h k. absurd (omega arith)
pairs_flat R f number key before own each (x ∷ xs) rise =
    pairs_append R (f x) (flat_map f xs) (each x)
    (pairs_flat R f number key before own each xs (λ i j d h k. rise (suc i) (suc j) d (omega arith) (omega arith)))
    (λ i d lt. all_flat (R (get_or (f x) i d)) f xs (λ j e h k c g.
    before (get_or (f x) i d) (get_or (f (get_or xs j e)) k c)
    (omega (arith, own x i d lt, own (get_or xs j e) k c g, rise 0 (suc j) e (omega arith) (omega arith)))))

-- a property of a list and of the empty list
or_none : {X : Type 0} (Q : List X → Type 0) (none : Bool) (xs : List X) → Q [] → Q xs → Q (cond none [] xs)
or_none Q true xs empty whole = empty
or_none Q false xs empty whole = whole

numbered_at : {X : Type 0} (xs : List X) (k : ℕ) (e : ℕ × X) → k < length (enumerate_from 0 xs)
    → ((get_or (enumerate_from 0 xs) k e).0 ≡ k) × (k < length xs)
numbered_at {X} xs k e lt =
    let within : k < length xs = omega (arith, length-enumerate_from 0 xs) in
    (ap (λ (e : ℕ × X). e.0) (get_or-enumerate_from 0 xs k e within) ∙ omega arith, within)

numbered_rise : {X : Type 0} (xs : List X) → AllPairs (λ e f. e.0 < f.0) (enumerate_from 0 xs)
numbered_rise xs i j d h k = omega (arith, numbered_at xs i d (omega arith), numbered_at xs j d k)

-- ---- coefficients

-- by destination, then resource
abbrev PairBefore : ℕ × ℕ → ℕ × ℕ → Type 0
PairBefore p q = (p.0 < q.0) ⊎ ((p.0 ≡ q.0) × (p.1 < q.1))

covering_in : (resources : List Resource) (d : ℕ) → All (λ p. (p.0 ≡ d) × (p.1 < length resources)) (covering resources d)
covering_in resources d =
    All-map (λ (p : ℕ × ℕ). (p.0 ≡ d) × (p.1 < length resources)) (pair_with d) (filter (covers d) (enumerate_from 0 resources))
    (All-filter (covers d) (λ (e : ℕ × Resource). (d ≡ d) × (e.0 < length resources)) (enumerate_from 0 resources)
    (λ k e lt. (refl, omega (arith, numbered_at resources k e lt))))

covering_rise : (resources : List Resource) (d : ℕ) → AllPairs PairBefore (covering resources d)
covering_rise resources d =
    pairs_map PairBefore (pair_with d) (filter (covers d) (enumerate_from 0 resources))
    (λ i j e h k. inr (
      refl,
      AllPairs-filter (λ (e f : ℕ × Resource). e.0 < f.0) (covers d)
          (enumerate_from 0 resources) (numbered_rise resources) i j e h k,
    ))

covered_in : (resources : List Resource) (n : ℕ)
    → All (λ p. (p.0 < n) × (p.1 < length resources)) (flat_map (covering resources) (range_with_len 0 n))
covered_in resources n = all_flat (λ p. (p.0 < n) × (p.1 < length resources)) (covering resources) (range_with_len 0 n) (λ k d lt i p h.
    let within : k < n = omega (arith, length-range_with_len 0 n) in
    let own = covering_in resources (get_or (range_with_len 0 n) k d) i p h in
    (omega (arith, own.0, get_or-range_with_len 0 n k d within), own.1))

covered_rise : (resources : List Resource) (n : ℕ) → AllPairs PairBefore (flat_map (covering resources) (range_with_len 0 n))
covered_rise resources n =
    pairs_flat PairBefore (covering resources) (λ d. d) (λ p. p.0) (λ p q h. inl h) (λ d k p h. (covering_in resources d k p h).0)
    (covering_rise resources) (range_with_len 0 n) (AllPairs-from_increasing (range_with_len 0 n) (range_rises 0 n))

coef_order : (k : ℕ) (b : Block) (p q : ℕ × ℕ) → PairBefore p q → IsTrue (coef_before (block_coef k b p) (block_coef k b q))
coef_order k b p q h = grind (arith, nat_tests)

block_order : (c e : Coef) → c.b < e.b → IsTrue (coef_before c e)
block_order c e h = grind (arith, nat_tests)

module _ (nd nr : ℕ) (pairs : List (ℕ × ℕ)) (fit : All (λ p. (p.0 < nd) × (p.1 < nr)) pairs) (rise : AllPairs PairBefore pairs) where
  -- the coefficients of one block
  block_coefs_in : (e : ℕ × Block) → All (λ c. (c.b ≡ e.0) × (c.d < nd) × (c.r < nr)) (block_coefs pairs e)
  block_coefs_in e =
      let P : Coef → Type 0 = λ c. (c.b ≡ e.0) × (c.d < nd) × (c.r < nr) in
      or_none (λ cs. All P cs) (e.1.kg == 0) (map (block_coef e.0 e.1) pairs) (All-nil P)
      (All-map P (block_coef e.0 e.1) pairs (λ k p h. (refl, (fit k p h).0, (fit k p h).1)))

  block_coefs_rise : (e : ℕ × Block) → AllPairs (λ c f. IsTrue (coef_before c f)) (block_coefs pairs e)
  block_coefs_rise e =
      let R : Coef → Coef → Type 0 = λ c f. IsTrue (coef_before c f) in
      or_none (λ cs. AllPairs R cs) (e.1.kg == 0) (map (block_coef e.0 e.1) pairs) (λ i j d h k. absurd (omega arith))
      (pairs_map R (block_coef e.0 e.1) pairs (λ i j d h k. coef_order e.0 e.1 _ _ (rise i j d h k)))

  coefs_fit : (blocks : List Block) → AreCoefs (length blocks) nd nr (coefs_of pairs blocks)
  coefs_fit blocks = record {
    in_range = all_flat (λ c. (c.b < length blocks) × (c.d < nd) × (c.r < nr)) (block_coefs pairs) (enumerate_from 0 blocks)
        (λ k e lt i c h.
        let own = block_coefs_in (get_or (enumerate_from 0 blocks) k e) i c h in
        (omega (arith, own.0, numbered_at blocks k e lt), own.1, own.2));
    rising = pairs_flat (λ c f. IsTrue (coef_before c f)) (block_coefs pairs) (λ e. e.0) (λ c. c.b) block_order
        (λ e k c h. (block_coefs_in e k c h).0) block_coefs_rise (enumerate_from 0 blocks) (numbered_rise blocks);
  }

-- the instance of a plan and of blocks in order of identifier is valid
pub instance_is_valid : (plan : PlanParts) (blocks : List Block) → IsPlan plan → length blocks ≤ 64000000
    → IsValid (instance_of plan blocks)
instance_is_valid plan blocks is few = record {
  lengths = record {
    few = few;
    preds = length-map blocks (λ low. above plan.grid (slice_get plan.cones low.zone) blocks low);
    values = length-map blocks (values_of plan);
  };
  preds = preds_are plan blocks;
  horizon = record { periods_1_to_100 = is.periods; at_most_8_resources = is.resources; rate_0_to_1 = is.rate };
  destinations = record {
    from_1_to_8 = is.destinations;
    one_each =
        All-map (λ vs. length vs ≡ length plan.formulas) (values_of plan) blocks (λ k d h. length-values_of plan (get_or blocks k d));
  };
  coefs = subst (AreCoefs (length blocks) (length plan.formulas) (length plan.resources)) (sym (coefs_are plan blocks)) (
      coefs_fit (length plan.formulas) (length plan.resources) (covered plan) (covered_in plan.resources (length plan.formulas))
      (covered_rise plan.resources (length plan.formulas)) blocks);
  limits = limits_are plan is;
}

-- an instance with these parts
abbrev instance_with : List ℕ → ℤ → ℕ → ℕ → ℕ → List Block → List (List ℕ) → List (List ℤ) → List Coef → List Limit → Instance
instance_with name rate periods destinations resources blocks lists values coefs limits = record {
  name = name;
  rate = rate;
  periods = periods;
  destinations = destinations;
  resources = resources;
  blocks = blocks;
  preds = lists;
  values = values;
  coefs = coefs;
  limits = limits;
}

pub built_is : (plan : PlanParts) (blocks : List Block) (name : List ℕ) (rate : ℤ) (periods destinations resources : ℕ) (own : List Block)
    (lists : List (List ℕ)) (values : List (List ℤ)) (coefs : List Coef) (limits : List Limit)
    → name ≡ plan.name → rate ≡ plan.rate → periods ≡ plan.periods → destinations ≡ length plan.formulas → resources ≡ length plan.resources
    → own ≡ blocks → lists ≡ preds plan blocks → values ≡ map (values_of plan) blocks → coefs ≡ coefs_of (covered plan) blocks
    → limits ≡ plan.limits
    → instance_with name rate periods destinations resources own lists values coefs limits ≡ instance_of plan blocks
built_is plan blocks name rate periods destinations resources own lists values coefs limits a b c d e f g h i j =
    rw (a, b, c, d, e, f, g, h, i, j, coefs_are plan blocks) refl
