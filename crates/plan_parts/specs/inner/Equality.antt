-- Tests that decide equality, such as `==` of bands.
use Rattle.std.proofs.Common.{◌≡◌, ◌∙◌, ◌&&◌, ◌==◌, List, Bool, true, refl, sym, ap, subst, eq-eqb}
use Rattle.std.proofs.lemmas.Bool.{and_parts, eqb-true}
use Rattle.std.specs.Bool.{Decides, one_answer}
use Rattle.std.specs.Cmp.{IsEquivalence}
use Rattle.std.specs.Cmp.Lexicographic.{pointwise_decides}
use Rattle.plan_parts.specs.formulas.BandsInvariant.{band_eq, bands_eq}
use Rattle.plan_parts.specs.declared.formulas.band.Band.{Band}

-- a test that decides equality is an equivalence
pub equivalence : {K : Type 0} {E : K → K → Bool} → ((x y : K) → Decides (E x y) (x ≡ y)) → IsEquivalence E
equivalence {K} {E} reported = record {
  refl = λ x. (reported x x).1 refl;
  symm = λ x y. one_answer (E x y) (E y x) (reported x y) ((λ h. sym ((reported y x).0 h)), (λ e. (reported y x).1 (sym e)));
  congr = λ x y z h. ap (λ w. E w z) ((reported x y).0 h);
}

-- a test decides equality if it implies equality and holds for equal things
pub decides : {K : Type 0} (E : K → K → Bool) → ((x y : K) → E x y ≡ true → x ≡ y) → ((x : K) → E x x ≡ true) → (x y : K) → Decides (E x y) (x ≡ y)
decides E same own x y = (same x y, λ e. subst (λ w. E x w ≡ true) e (own x))

bands_same : (b c : Band) → band_eq b c ≡ true → b ≡ c
bands_same b c h =
    let parts = and_parts _ _ h in
    let start = eqb-true _ _ parts.0 in
    let recovery = eqb-true _ _ parts.1 in
    λ i. record { start = start i; recovery = recovery i }

band_own : (b : Band) → band_eq b b ≡ true
band_own b =
    ap (λ start. start && (b.recovery == b.recovery)) (eq-eqb b.start b.start refl) ∙ eq-eqb b.recovery b.recovery refl

pub bands_decided : (bands others : List Band) → Decides (bands_eq bands others) (bands ≡ others)
bands_decided = pointwise_decides (decides band_eq bands_same band_own)

pub bands_equivalence : IsEquivalence bands_eq
bands_equivalence = equivalence bands_decided
