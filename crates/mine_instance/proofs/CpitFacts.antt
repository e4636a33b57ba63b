-- The CPIT of a valid instance is well-formed.
use Rattle.std.proofs.Common.{◌≡◌, ℕ, ◌<◌, true, List, length, get_or, map, ◌∙◌, arith, ℤ, All}
use Rattle.std.specs.Prelude.{filter, AllPairs, IsTrue, ◌==◌, ◌&&◌, ◌||◌, nat_lt}
use Rattle.std.proofs.lemmas.Bool.{eqb-true}
use Rattle.std.proofs.lemmas.Bool.Decides.{nat_tests}
use Rattle.std.proofs.lemmas.List.{length-map}
use Rattle.std.proofs.lemmas.List.Elements.{All-map, All-filter, filter_passes}
use Rattle.std.proofs.lemmas.List.Kept.{AllPairs-filter}
use Rattle.mine_instance.specs.cpit.CpitInvariant.{IsCpit}
use Rattle.mine_instance.specs.cpit.CpitOrder.{cpit_coef_before}
use Rattle.mine_instance.specs.Largest.{largest}
use Rattle.mine_instance.specs.cpit.OfCpit.{cpit, is_chosen, at_only_destination, destination_of}
use Rattle.mine_instance.specs.Order.{coef_before}
use Rattle.mine_instance.specs.Valid.{AreCoefs, IsValid}
use Rattle.mine_instance.specs.declared.coefs.coef.Coef.{Coef}
use Rattle.mine_instance.specs.Instance.{Instance}
use Rattle.mine_instance.proofs.PairFacts.{pairs_map}

-- if both are at their blocks' destinations, or at the only one, coefficients rise by block and resource
by_resource : (f : ℕ → ℕ) (b b' d d' r r' : ℕ) → d ≡ f b → d' ≡ f b'
    → (nat_lt b b' || ((b == b') && (nat_lt d d' || ((d == d') && nat_lt r r')))) ≡ true
    → (nat_lt b b' || ((b == b') && nat_lt r r')) ≡ true
by_resource f b b' d d' r r' p q h = grind (arith, nat_tests)

pub rise_by_resource : (n resources : ℕ) (coefs : List Coef) → AreCoefs n 1 resources coefs
    → AllPairs (λ c e. IsTrue (cpit_coef_before c e)) coefs
rise_by_resource n resources coefs are i j x h k =
    let c = get_or coefs i x in
    let e = get_or coefs j x in
    let low = are.in_range i x (omega (arith, h, k)) in
    let high = are.in_range j x k in
    by_resource (λ b. 0) c.b e.b c.d e.d c.r e.r (omega (arith, low.1)) (omega (arith, high.1)) (are.rising i j x h k)

chosen_rise : (values : List (List ℤ)) (coefs : List Coef) → AllPairs (λ c e. IsTrue (coef_before c e)) coefs
    → AllPairs (λ c e. IsTrue (coef_before c e)) (map at_only_destination (filter (is_chosen values) coefs))
chosen_rise values coefs rising =
    let chosen : List Coef = filter (is_chosen values) coefs in
    pairs_map (λ c e. IsTrue (coef_before c e)) at_only_destination chosen (λ i j d h k.
    let c = get_or chosen i d in
    let e = get_or chosen j d in
    by_resource (destination_of values) c.b e.b c.d e.d c.r e.r
    (eqb-true _ _ (filter_passes (is_chosen values) coefs i d (omega arith)))
    (eqb-true _ _ (filter_passes (is_chosen values) coefs j d k))
    (AllPairs-filter (λ c e. IsTrue (coef_before c e)) (is_chosen values) coefs rising i j d h k))

chosen_in_range : (values : List (List ℤ)) (n destinations resources : ℕ) (coefs : List Coef)
    → All (λ c. (c.b < n) × (c.d < destinations) × (c.r < resources)) coefs
    → All (λ c. (c.b < n) × (c.d < 1) × (c.r < resources)) (map at_only_destination (filter (is_chosen values) coefs))
chosen_in_range values n destinations resources coefs in_range =
    All-map (λ c. (c.b < n) × (c.d < 1) × (c.r < resources)) at_only_destination (filter (is_chosen values) coefs) (λ k d h.
    let here = All-filter (is_chosen values) (λ c. (c.b < n) × (c.d < destinations) × (c.r < resources)) coefs in_range k d h in
    (here.0, omega arith, here.2))

pub cpit_is_one : (i : Instance) → IsValid i → IsCpit (cpit i)
cpit_is_one i v =
    let count : length (map largest i.values) ≡ length i.blocks = length-map i.values largest ∙ v.lengths.values in
    record {
      few = rw count v.lengths.few;
      horizon = v.horizon;
      coefs = rw count (record {
        in_range = chosen_in_range i.values (length i.blocks) i.destinations i.resources i.coefs v.coefs.in_range;
        rising = chosen_rise i.values i.coefs v.coefs.rising;
      });
      limits = v.limits;
    }

-- each coefficient is of a block that has values
pub coefs_there : (i : Instance) → IsValid i → All (λ c. c.b < length i.values) i.coefs
coefs_there i v = λ k d h. let here = v.coefs.in_range k d h in omega (arith, here.0, v.lengths.values)
