-- The text of a model file spells what it is written of.
use Rattle.std.specs.Prelude.{List, codes, decimal, ℕ, ℤ}
use Rattle.std.proofs.Common.{All, [], ap, append_assoc, arith, false, length, refl, subst, sym, ◌++◌, ◌+◌, ◌<◌, ◌∙◌, ◌∷◌, ◌≡◌, ◌≤◌}
use Rattle.std.proofs.lemmas.List.Elements.{All-append, All-cons}
use Rattle.pit_units.specs.DecimalRange.{IsInDecimalRange}
use Rattle.plan_parts.specs.PlanInvariant.{is_turned}
use Rattle.plan_parts.specs.declared.limit.Bound.{Bound}
use Rattle.plan_parts.specs.declared.limit.Bound.TheVariants.{AtLeast, AtMost, Between}
use Rattle.plan_parts.specs.declared.limit.Limit.{Limit}
use Rattle.mine_instance.specs.WellFormed.{HasDecimals}
use Rattle.mine_instance.specs.declared.coefs.coef.Coef.{Coef}
use Rattle.text_lines.proofs.PlainText.{IsLine}
use Rattle.text_lines.specs.TextLines.{Line, fields_of, lines_in}
use Rattle.minelib_lines.specs.HeaderKeys.{keys_of, type_text}
use Rattle.minelib_lines.specs.HeaderTable.{key_lines, key_text}
use Rattle.minelib_lines.specs.Lines.{line_of, lines_from, text_of}
use Rattle.minelib_lines.specs.declared.problem.Problem.{Problem}
use Rattle.minelib_lines.specs.declared.problem.Problem.TheVariants.{Cpit, Pcpsp}
use Rattle.minelib_writing.specs.Written.{coef_line, cpit_coef_line, limit_line, section_lines, value_line}
use Rattle.minelib_reading.proofs.models.Places.{is_place, item_there}
use Rattle.minelib_reading.proofs.models.ValidModel.{IsModel}
use Rattle.minelib_reading.specs.LineFields.{Decimal, fields_by}
use Rattle.minelib_reading.specs.LineForms.{coef_form, limit_form, values_form}
use Rattle.minelib_reading.specs.StatedModel.{StatedModel}
use Rattle.minelib_reading.specs.encoded.EncodedItems.{EncodesCoef, EncodesLimit, EncodesValues}
use Rattle.minelib_reading.specs.encoded.EncodedModel.{AreModelLines, IsSingle}
use Rattle.minelib_text.proofs.KeysBack.{header_lines, section_line, word_field}
use Rattle.minelib_text.proofs.LinesBack.{IsEachWritten, items_written, numbered, numbered_both, text_lines}
use Rattle.minelib_text.proofs.WrittenNumbers.{each_writable, line_back, written_same}

-- a block's values are written as they are encoded
pub values_line : (n destinations block : ℕ) (vs : List ℤ) → n ≤ 64000000 → block < n → length vs ≡ destinations
    → All IsInDecimalRange vs
    → IsLine (line_of (value_line block vs)) × EncodesValues n destinations block (fields_of (line_of (value_line block vs))) vs
values_line n destinations block vs few low as_many kept =
    let back = line_back (value_line block vs) (fields_by (values_form n block) vs) (ap (λ more. decimal block ∷ more) (written_same Decimal vs))
    (omega arith) ((low, omega (arith, few)), each_writable Decimal vs kept) in
    (back.0, (back.1, as_many))

-- a coefficient, and one of a CPIT, which is of its only destination
abbrev pub coef_text : Problem → ℕ → Coef → List (List ℕ)
coef_text Pcpsp n c = coef_line n c
coef_text Cpit n c = cpit_coef_line n c

coefs_line : (p : Problem) (n destinations resources k : ℕ) (c : Coef) → n ≤ 64000000 → destinations ≤ 8 → resources ≤ 8
    → (c.b < n) × (c.d < destinations) × (c.r < resources) → IsInDecimalRange c.v → IsSingle p destinations
    → IsLine (line_of (coef_text p k c)) × EncodesCoef p n destinations resources (fields_of (line_of (coef_text p k c))) c
coefs_line Pcpsp n destinations resources k c few many small within kept single =
    line_back (coef_line k c) (fields_by (coef_form Pcpsp n destinations resources) c) refl (omega arith) (
      (within.0, omega (arith, few)),
      ((within.1, omega (arith, many)), ((within.2, omega (arith, small)), (kept, tt))),
    )
coefs_line Cpit n destinations resources k c few many small within kept single =
    let back = line_back (cpit_coef_line k c) (fields_by (coef_form Cpit n destinations resources) c) refl (omega arith)
    ((within.0, omega (arith, few)), ((within.2, omega (arith, small)), (kept, tt))) in
    (back.0, (back.1, omega (arith, within.1, single)))

-- a limit
abbrev limit_of : (resource period : ℕ) → Bound → Limit
limit_of resource period bound = record { resource = resource; period = period; bound = bound }

limits_line : (resources periods k resource period : ℕ) (bound : Bound) → resources ≤ 8 → periods ≤ 100 → resource < resources → period < periods
    → HasDecimals bound
    → IsLine (line_of (limit_line k (limit_of resource period bound)))
    × EncodesLimit resources periods (fields_of (line_of (limit_line k (limit_of resource period bound)))) (limit_of resource period bound)
limits_line resources periods k resource period (AtMost v) small short low_r low_t kept =
    line_back (limit_line k (limit_of resource period (AtMost v))) (fields_by (limit_form resources periods) (limit_of resource period (AtMost v)))
    refl (omega arith) ((low_r, omega (arith, small)), ((low_t, omega (arith, short)), (tt, (kept, tt))))
limits_line resources periods k resource period (AtLeast v) small short low_r low_t kept =
    line_back (limit_line k (limit_of resource period (AtLeast v))) (fields_by (limit_form resources periods) (limit_of resource period (AtLeast v)))
    refl (omega arith) ((low_r, omega (arith, small)), ((low_t, omega (arith, short)), (tt, (kept, tt))))
limits_line resources periods k resource period (Between v w) small short low_r low_t kept =
    line_back (limit_line k (limit_of resource period (Between v w))) (fields_by (limit_form resources periods) (limit_of resource period (Between v w)))
    refl (omega arith) ((low_r, omega (arith, small)), ((low_t, omega (arith, short)), (tt, (kept.0, (kept.1, tt)))))

-- what a model file states can be written: its numbers are decimals, and are in range and order
pub record IsWritable (p : Problem) (n : ℕ) (m : StatedModel) : Type 0 where
  pub few : n ≤ 64000000
  pub model : IsModel p n m
  pub values : All (λ vs. All IsInDecimalRange vs) m.values
  pub coefs : All (λ c. IsInDecimalRange c.v) m.coefs
  pub limits : All (λ l. HasDecimals l.bound) m.limits

module _ (p : Problem) (n : ℕ) (m : StatedModel) (is : IsWritable p n m) where
  each_values : IsEachWritten (λ block line vs. EncodesValues n m.header.destinations block (fields_of line) vs) value_line m.values
  each_values done vs rest whole =
      values_line n m.header.destinations (length done) vs is.few (omega (arith, is.model.count, is_place m.values done vs rest whole))
      (item_there m.values done vs rest whole (λ vs. length vs ≡ m.header.destinations) is.model.destinations.one_each)
      (item_there m.values done vs rest whole (λ vs. All IsInDecimalRange vs) is.values)

  each_coef : IsEachWritten (λ _ line c. EncodesCoef p n m.header.destinations m.header.resources (fields_of line) c) (coef_text p) m.coefs
  each_coef done c rest whole =
      coefs_line p n m.header.destinations m.header.resources (length done) c is.few is.model.destinations.from_1_to_8.1
      is.model.horizon.at_most_8_resources
      (item_there m.coefs done c rest whole (λ c. (c.b < n) × (c.d < m.header.destinations) × (c.r < m.header.resources)) is.model.coefs.in_range)
      (item_there m.coefs done c rest whole (λ c. IsInDecimalRange c.v) is.coefs) is.model.single

  each_limit : IsEachWritten
      (λ _ line l. EncodesLimit m.header.resources m.header.periods (fields_of line) l × (is_turned l.bound ≡ false)) limit_line m.limits
  each_limit done l rest whole =
      let resources = m.header.resources in
      let periods = m.header.periods in
      let range = item_there m.limits done l rest whole (λ l. (l.resource < resources) × (l.period < periods) × (is_turned l.bound ≡ false))
      is.model.limits.in_range in
      let w = limits_line resources periods (length done) l.resource l.period l.bound is.model.horizon.at_most_8_resources is.model.horizon.periods_1_to_100.1 range.0 range.1
      (item_there m.limits done l rest whole (λ l. HasDecimals l.bound) is.limits) in
      (w.0, (w.1, range.2))

  pub model_back : AreModelLines p n (lines_in (text_of (key_lines (key_text (type_text p) n m.header) (keys_of p)
      ++ section_lines (lines_from value_line 0 m.values) (lines_from (coef_text p) 0 m.coefs) (lines_from limit_line 0 m.limits)))) m
  model_back =
      let keys = key_lines (key_text (type_text p) n m.header) (keys_of p) in
      let header = header_lines p n m.header (record {
        few = is.few;
        name = is.model.name;
        horizon = is.model.horizon;
        destinations = is.model.destinations.from_1_to_8;
      }) in
      let values = items_written (λ block line vs. EncodesValues n m.header.destinations block (fields_of line) vs) value_line m.values each_values 0 [] m.values refl refl in
      let coefs = items_written (λ _ line c. EncodesCoef p n m.header.destinations m.header.resources (fields_of line) c) (coef_text p) m.coefs each_coef 0 [] m.coefs refl refl in
      let limits = items_written
      (λ _ line l. EncodesLimit m.header.resources m.header.periods (fields_of line) l × (is_turned l.bound ≡ false)) limit_line m.limits each_limit 0 [] m.limits refl refl in
      let of_values = lines_from value_line 0 m.values in
      let of_coefs = lines_from (coef_text p) 0 m.coefs in
      let of_limits = lines_from limit_line 0 m.limits in
      let objective = section_line (codes "OBJECTIVE_FUNCTION") (word_field _ _ refl) in
      let coefficients = section_line (codes "RESOURCE_CONSTRAINT_COEFFICIENTS") (word_field _ _ refl) in
      let bounds = section_line (codes "RESOURCE_CONSTRAINT_LIMITS") (word_field _ _ refl) in
      let last_lines = codes "RESOURCE_CONSTRAINT_LIMITS:" ∷ of_limits in
      let later_lines = codes "RESOURCE_CONSTRAINT_COEFFICIENTS:" ∷ (of_coefs ++ last_lines) in
      let body_lines = codes "OBJECTIVE_FUNCTION:" ∷ (of_values ++ later_lines) in
      let last_read : All IsLine last_lines = All-cons IsLine (codes "RESOURCE_CONSTRAINT_LIMITS:") of_limits bounds.0 limits.each in
      let later_read : All IsLine later_lines =
      All-cons IsLine (codes "RESOURCE_CONSTRAINT_COEFFICIENTS:") (of_coefs ++ last_lines) coefficients.0
      (All-append IsLine of_coefs last_lines coefs.each last_read) in
      let body_read : All IsLine body_lines = All-cons IsLine (codes "OBJECTIVE_FUNCTION:") (of_values ++ later_lines) objective.0
      (All-append IsLine of_values later_lines values.each later_read) in
      let lines = keys ++ body_lines in
      let each : All IsLine lines = All-append IsLine keys body_lines header.0 body_read in
      let at : ℕ → List ℕ → Line = λ number text. record { number = number; text = text } in
      let first = 1 + length keys in
      let second = first + 1 + length of_values in
      let third = second + 1 + length of_coefs in
      let of_objective = at first (codes "OBJECTIVE_FUNCTION:") in
      let of_coefficients = at second (codes "RESOURCE_CONSTRAINT_COEFFICIENTS:") in
      let of_bounds = at third (codes "RESOURCE_CONSTRAINT_LIMITS:") in
      let same : section_lines of_values of_coefs of_limits ≡ body_lines =
      append_assoc (codes "OBJECTIVE_FUNCTION:" ∷ of_values) (codes "RESOURCE_CONSTRAINT_COEFFICIENTS:" ∷ of_coefs) last_lines in
      subst (λ body. AreModelLines p n (lines_in (text_of (keys ++ body))) m) (sym same)
      (subst (λ lines. AreModelLines p n lines m) (sym (text_lines lines each)) (record {
        heading = numbered 1 keys;
        objective = of_objective;
        values = numbered (first + 1) of_values;
        coefficients = of_coefficients;
        coefs = numbered (second + 1) of_coefs;
        resource_limits = of_bounds;
        limits = numbered (third + 1) of_limits;
        cut = numbered_both 1 keys body_lines ∙ ap (λ more. numbered 1 keys ++ (of_objective ∷ more)) (numbered_both (first + 1) of_values later_lines
            ∙ ap (λ more. numbered (first + 1) of_values ++ (of_coefficients ∷ more)) (numbered_both (second + 1) of_coefs last_lines));
        destinations = is.model.single;
        encode_header = header.1 1;
        begin_values = objective.1;
        encode_values = values.encoded (first + 1);
        all_values = is.model.count;
        begin_coefs = coefficients.1;
        encode_coefs = coefs.encoded (second + 1);
        rising_coefs = is.model.coefs.rising;
        begin_limits = bounds.1;
        encode_limits = limits.encoded (third + 1);
        rising_limits = is.model.limits.rising;
      }))
