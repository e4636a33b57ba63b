-- Instances and CPITs that are read have a NAME, and numbers in the range of decimals.
use Rattle.std.specs.Prelude.{List, Ok, ℕ}
use Rattle.std.proofs.Common.{All, arith, false, length, refl, ◌≡◌}
use Rattle.std.proofs.lemmas.List.{get_or-map, length-map}
use Rattle.pit_units.specs.DecimalRange.{IsInDecimalRange}
use Rattle.plan_parts.specs.PlanInvariant.{is_turned}
use Rattle.plan_parts.specs.declared.limit.Bound.{Bound}
use Rattle.plan_parts.specs.declared.limit.Bound.TheVariants.{AtLeast, AtMost, Between}
use Rattle.mine_instance.specs.Instance.{Instance}
use Rattle.mine_instance.specs.WellFormed.{HasDecimals, IsWellFormed, IsWellFormedCpit}
use Rattle.mine_instance.specs.cpit.Cpit.{CpitParts}
use Rattle.mine_instance.specs.declared.coefs.coef.Coef.{Coef}
use Rattle.text_lines.specs.TextLines.{Line, fields_of, lines_in}
use Rattle.minelib_lines.specs.declared.problem.Problem.{Problem}
use Rattle.minelib_lines.specs.declared.problem.Problem.TheVariants.{Cpit, Pcpsp}
use Rattle.minelib_reading.proofs.lines.FormFacts.{each_fits, fields_fit}
use Rattle.minelib_reading.proofs.lines.ItemLines.{each_item}
use Rattle.minelib_reading.specs.LineFields.{Decimal}
use Rattle.minelib_reading.proofs.models.ValidModel.{encoded_model}
use Rattle.minelib_reading.proofs.encoded.EncodedDenotes.{cpit_encoded, denoted_encoded}
use Rattle.minelib_reading.specs.Denotes.{Denotes, DenotesCpit, cpit_denoted, cpit_read}
use Rattle.minelib_reading.specs.ModelDraft.{ModelDraftView}
use Rattle.minelib_reading.specs.ModelText.{model_in}
use Rattle.minelib_reading.specs.StatedModel.{StatedModel, alone, model_of, model_of_cpit}
use Rattle.minelib_reading.specs.encoded.EncodedItems.{EncodesCoef, EncodesLimit, EncodesValues}
use Rattle.minelib_reading.specs.encoded.EncodedModel.{AreModelLines}

-- the numbers of a coefficient and of a bound are in the range of decimals
coef_in_range : (problem : Problem) (n destinations resources : ℕ) (fields : List (List ℕ)) (c : Coef)
    → EncodesCoef problem n destinations resources fields c → IsInDecimalRange c.v
coef_in_range Pcpsp n destinations resources fields c s = (fields_fit fields _ s).1.1.1.0
coef_in_range Cpit n destinations resources fields c s = (fields_fit fields _ s.0).1.1.0

bound_in_range : (resources periods resource period : ℕ) (bound : Bound) (fields : List (List ℕ))
    → EncodesLimit resources periods fields (record { resource = resource; period = period; bound = bound }) → HasDecimals bound
bound_in_range resources periods resource period (AtMost v) fields s = (fields_fit fields _ s).1.1.1.0
bound_in_range resources periods resource period (AtLeast v) fields s = (fields_fit fields _ s).1.1.1.0
bound_in_range resources periods resource period (Between v w) fields s =
    let fit = fields_fit fields _ s in (fit.1.1.1.0, fit.1.1.1.1.0)

-- the numbers of a model are in the range of decimals
record HasDecimalNumbers (m : StatedModel) : Type 0 where
  values : All (λ vs. All IsInDecimalRange vs) m.values
  coefs : All (λ c. IsInDecimalRange c.v) m.coefs
  limits : All (λ l. HasDecimals l.bound) m.limits

encoded_kept : (problem : Problem) (n : ℕ) (lines : List Line) (m : StatedModel) → AreModelLines problem n lines m → HasDecimalNumbers m
encoded_kept problem n lines m are =
    let h = m.header in
    record {
      values = each_item (λ block line vs. EncodesValues n h.destinations block (fields_of line) vs) (λ _ vs. All IsInDecimalRange vs)
          (λ block line vs s. each_fits Decimal vs (fields_fit (fields_of line) _ s.0).1) 0 are.values m.values are.encode_values;
      coefs = each_item (λ _ line c. EncodesCoef problem n h.destinations h.resources (fields_of line) c) (λ _ c. IsInDecimalRange c.v)
          (λ _ line c s. coef_in_range problem n h.destinations h.resources (fields_of line) c s) 0 are.coefs m.coefs are.encode_coefs;
      limits = each_item (λ _ line l. EncodesLimit h.resources h.periods (fields_of line) l × (is_turned l.bound ≡ false)) (λ _ l. HasDecimals l.bound)
          (λ _ line l s. bound_in_range h.resources h.periods l.resource l.period l.bound (fields_of line) s.0) 0 are.limits m.limits are.encode_limits;
    }

pub read_well_formed : (blocks prec pcpsp : List ℕ) (i : Instance) → Denotes blocks prec pcpsp i → IsWellFormed i
read_well_formed blocks prec pcpsp i e =
    let are = (denoted_encoded blocks prec pcpsp i e).of_model in
    let kept = encoded_kept Pcpsp (length i.blocks) (lines_in pcpsp) (model_of i) are in
    record {
      name = (encoded_model Pcpsp (length i.blocks) (lines_in pcpsp) (model_of i) are).name;
      values = kept.values;
      coefs = kept.coefs;
      limits = kept.limits;
    }

pub read_cpit_well_formed : (n : ℕ) (text : List ℕ) (c : CpitParts) → DenotesCpit n text c → IsWellFormedCpit c
read_cpit_well_formed n text c e =
    let are = cpit_encoded n text c e in
    let kept = encoded_kept Cpit n (lines_in text) (model_of_cpit c) are in
    record {
      name = (encoded_model Cpit n (lines_in text) (model_of_cpit c) are).name;
      values = λ k d within.
          let own = rw (get_or-map alone c.values k d (alone d) within) at (kept.values k (alone d) (rw (length-map c.values alone) within)) in
          own 0 d (omega arith);
      coefs = kept.coefs;
      limits = kept.limits;
    }

pub cpit_is_well_formed : (n : ℕ) (text : List ℕ) (d : ModelDraftView) → model_in Cpit n text ≡ Ok d → IsWellFormedCpit (cpit_read d)
unfolding cpit_denoted
cpit_is_well_formed n text d e = read_cpit_well_formed n text (cpit_read d) (rw e refl)
