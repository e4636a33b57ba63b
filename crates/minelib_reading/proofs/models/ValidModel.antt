-- The content that lines encode is valid for an instance and for a CPIT.
use Rattle.std.specs.Prelude.{List, ℕ}
use Rattle.std.proofs.Common.{arith, false, length, refl, subst, true, ◌<◌, ◌≡◌, ◌≤◌}
use Rattle.std.proofs.lemmas.List.Elements.{All-contains}
use Rattle.plan_parts.specs.Name.{is_name}
use Rattle.plan_parts.specs.PlanInvariant.{is_turned}
use Rattle.plan_parts.specs.declared.ranges.TheConstants.{MAX_DESTINATIONS}
use Rattle.mine_instance.specs.Valid.{AreCoefs, AreLimits, HasDestinations, IsHorizon}
use Rattle.mine_instance.specs.declared.coefs.coef.Coef.{Coef}
use Rattle.text_lines.specs.TextLines.{Line, fields_of}
use Rattle.minelib_lines.specs.HeaderKeys.{has_key}
use Rattle.minelib_lines.specs.StatedHeader.{StatedHeader}
use Rattle.minelib_lines.specs.declared.header_key.HeaderKey.{HeaderKey}
use Rattle.minelib_lines.specs.declared.header_key.HeaderKey.TheVariants as key
use Rattle.minelib_lines.specs.declared.problem.Problem.{Problem}
use Rattle.minelib_lines.specs.declared.problem.Problem.TheVariants.{Cpit, Pcpsp}
use Rattle.minelib_reading.proofs.lines.FormFacts.{fields_fit}
use Rattle.minelib_reading.proofs.lines.ItemLines.{each_item}
use Rattle.minelib_reading.specs.StatedModel.{StatedModel}
use Rattle.minelib_reading.specs.encoded.EncodedItems.{EncodesCoef, EncodesLimit, EncodesValues}
use Rattle.minelib_reading.specs.encoded.EncodedModel.{AreHeaderLines, AreModelLines, EncodesKey, IsHeaderLine, IsSingle}

-- the content of a model file of n blocks is valid for an instance
pub record IsModel (problem : Problem) (n : ℕ) (m : StatedModel) : Type 0 where
  pub name : is_name m.header.name ≡ true
  pub horizon : IsHorizon m.header.periods m.header.resources m.header.rate
  pub count : length m.values ≡ n
  pub destinations : HasDestinations m.header.destinations m.values
  pub single : IsSingle problem m.header.destinations
  pub coefs : AreCoefs n m.header.destinations m.header.resources m.coefs
  pub limits : AreLimits m.header.resources m.header.periods m.limits

-- the value of a key is encoded
pub key_encoded : (problem : Problem) (n : ℕ) (lines : List Line) (h : StatedHeader) → AreHeaderLines problem n lines h
    → (k : HeaderKey) → has_key problem k ≡ true → (value : List ℕ) × EncodesKey problem n h k value
key_encoded problem n lines h are k has = All-contains Encoded are.keys k
    (each_item (λ _ line k. IsHeaderLine problem n h line k) (λ _. Encoded) (λ place line k l. (l.value, l.says)) 0 lines are.keys are.encoded)
    (are.all k has)
  where
    Encoded : HeaderKey → Type 0
    Encoded k = (value : List ℕ) × EncodesKey problem n h k value

-- a key of CPIT files is a key of the files of both problems
pub in_both : (problem : Problem) (k : HeaderKey) → has_key Cpit k ≡ true → has_key problem k ≡ true
in_both Pcpsp k has = refl
in_both Cpit k has = has

destinations_low : (problem : Problem) (n : ℕ) (lines : List Line) (h : StatedHeader) → AreHeaderLines problem n lines h
    → IsSingle problem h.destinations → (1 ≤ h.destinations) × (h.destinations ≤ MAX_DESTINATIONS)
destinations_low Pcpsp n lines h are single = let s = (key_encoded Pcpsp n lines h are key.Destinations refl).1 in (s.1, s.2)
destinations_low Cpit n lines h are single = (omega arith, omega arith)

coef_low : (problem : Problem) (n destinations resources : ℕ) (fields : List (List ℕ)) (c : Coef) → IsSingle problem destinations
    → EncodesCoef problem n destinations resources fields c → (c.b < n) × (c.d < destinations) × (c.r < resources)
coef_low Pcpsp n destinations resources fields c single s = let fit = fields_fit fields _ s in (fit.0, fit.1.0, fit.1.1.0)
coef_low Cpit n destinations resources fields c single s =
    let fit = fields_fit fields _ s.0 in (fit.0, omega (arith, single, s.1), fit.1.0)

pub encoded_model : (problem : Problem) (n : ℕ) (lines : List Line) (m : StatedModel) → AreModelLines problem n lines m
    → IsModel problem n m
encoded_model problem n lines m are =
    let h = m.header in
    let encoded = key_encoded problem n are.heading h are.encode_header in
    let named = (encoded key.Name (in_both problem key.Name refl)).1 in
    let periods = (encoded key.Periods (in_both problem key.Periods refl)).1 in
    let few = (encoded key.Resources (in_both problem key.Resources refl)).1.1 in
    let rate = (encoded key.Rate (in_both problem key.Rate refl)).1 in
    record {
      name = subst (λ name. is_name name ≡ true) named.0 named.1;
      horizon = record {
        periods_1_to_100 = (periods.1, periods.2);
        at_most_8_resources = omega (arith, few);
        rate_0_to_1 = (rate.1, rate.2);
      };
      count = are.all_values;
      destinations = record {
        from_1_to_8 = destinations_low problem n are.heading h are.encode_header are.destinations;
        one_each = each_item (λ block line vs. EncodesValues n h.destinations block (fields_of line) vs) (λ _ vs. length vs ≡ h.destinations)
            (λ block line vs s. s.1) 0 are.values m.values are.encode_values;
      };
      single = are.destinations;
      coefs = record {
        in_range = each_item (λ _ line c. EncodesCoef problem n h.destinations h.resources (fields_of line) c)
            (λ _ c. (c.b < n) × (c.d < h.destinations) × (c.r < h.resources))
            (λ _ line c s. coef_low problem n h.destinations h.resources (fields_of line) c are.destinations s) 0 are.coefs m.coefs are.encode_coefs;
        rising = are.rising_coefs;
      };
      limits = record {
        in_range = each_item (λ _ line l. EncodesLimit h.resources h.periods (fields_of line) l × (is_turned l.bound ≡ false))
            (λ _ l. (l.resource < h.resources) × (l.period < h.periods) × (is_turned l.bound ≡ false))
            (λ _ line l s. let fit = fields_fit (fields_of line) _ s.0 in (fit.0, fit.1.0, s.1)) 0 are.limits m.limits are.encode_limits;
        rising = are.rising_limits;
      };
    }
