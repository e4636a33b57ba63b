-- The lines that state a model encode its content.
use Rattle.std.specs.Prelude.{AllPairs, Err, IsTrue, List, Ok, Result, ℕ, ℤ, ◌&&◌, ◌==◌}
use Rattle.std.proofs.Common.{[], ap, append-nil, append_assoc, arith, false, length, length-append, refl, subst, sym, true, ◌++◌, ◌+◌, ◌∙◌, ◌∷◌, ◌≡◌, ◌≤◌}
use Rattle.std.proofs.lemmas.Bool.{and_parts, eqb-true}
use Rattle.pit_units.specs.Steps.{◌>>=◌}
use Rattle.plan_parts.specs.PlanInvariant.{RiseStrictly, is_turned, stands_before}
use Rattle.plan_parts.specs.declared.limit.Limit.{Limit}
use Rattle.mine_instance.proofs.OrderLaws.{coef_before_is_transitive, stands_before_is_transitive}
use Rattle.mine_instance.specs.Order.{coef_before}
use Rattle.mine_instance.specs.declared.coefs.coef.Coef.{Coef}
use Rattle.text_lines.proofs.ReadSteps.{same_ok}
use Rattle.text_lines.specs.Reading.{at_line, read_lines}
use Rattle.text_lines.specs.TextLines.{Line, fields_of}
use Rattle.text_lines.specs.declared.text_fault.TextKind.{TextKind}
use Rattle.minelib_lines.specs.HeaderKeys.{has_key, key_word}
use Rattle.minelib_lines.specs.declared.header_key.HeaderKey.{HeaderKey}
use Rattle.minelib_lines.specs.declared.header_key.HeaderKey.TheVariants as key
use Rattle.minelib_lines.specs.declared.problem.Problem.{Problem}
use Rattle.minelib_reading.proofs.keys.HeaderLines.{Heads, WholeHeader, heads_more, heads_none, heads_whole}
use Rattle.minelib_reading.proofs.keys.KeyLines.{next_by}
use Rattle.minelib_reading.proofs.lines.FormFacts.{fields_fit}
use Rattle.minelib_reading.proofs.lines.ItemLines.{line_more}
use Rattle.minelib_reading.proofs.models.LineCases.{each_line}
use Rattle.minelib_reading.proofs.models.ModelSteps.{coef_added, key_step, limit_added, section_step, values_added}
use Rattle.minelib_reading.proofs.models.Places.{rises_after}
use Rattle.minelib_reading.specs.HeaderNumbers.{count_in, is_complete}
use Rattle.minelib_reading.specs.ModelDraft.{ModelDraftView, blank_model, is_heading, is_limits, is_ready, has_all_parts}
use Rattle.minelib_reading.specs.ModelKeys.{section_text}
use Rattle.minelib_reading.specs.ModelText.{item_stated, key_stated, line_stated, section_stated}
use Rattle.minelib_reading.specs.StatedModel.{header_stated, stated_by}
use Rattle.minelib_reading.specs.declared.model.key.Section.{Section}
use Rattle.minelib_reading.specs.declared.model.key.Section.TheVariants.{Coefs, Heading, Limits, Objective}
use Rattle.minelib_reading.specs.encoded.EncodedItems.{EncodesCoef, EncodesLimit, EncodesValues}
use Rattle.minelib_reading.specs.encoded.EncodedKeys.{IsKeyLine}
use Rattle.minelib_reading.specs.encoded.EncodedLines.{AreLines}
use Rattle.minelib_reading.specs.encoded.EncodedModel.{AreModelLines, EncodesKey}

-- all lines of a model file of n blocks are read as this, and no required part is missing
abbrev pub StateModel : Problem → ℕ → List Line → ModelDraftView → Type 0
StateModel problem n lines d = (read_lines line_stated (blank_model problem n) lines ≡ Ok d) × (has_all_parts d ≡ true)

-- the lines of a section so far: the earlier lines, the line that begins the section, and one for each item; the items have a
-- common property
pub record Part {A : Type 0} (Before : List Line → Type 0) (section : Section) (Encodes : ℕ → List ℕ → A → Type 0)
    (Keeps : List A → Type 0) (items : List A) (done : List Line) : Type 0 where
  pub before : List Line
  pub earlier : Before before
  pub first : Line
  pub lines : List Line
  pub cut : done ≡ before ++ first ∷ lines
  pub begins : IsKeyLine (section_text section) first.text []
  pub encoded : AreLines Encodes 0 lines items
  pub kept : Keeps items

-- how a line encodes a block's values, a coefficient and a limit
abbrev Values : ModelDraftView → ℕ → List ℕ → List ℤ → Type 0
Values d block line vs = EncodesValues d.blocks (count_in d.header key.Destinations) block (fields_of line) vs

abbrev Coefficient : ModelDraftView → ℕ → List ℕ → Coef → Type 0
Coefficient d n line c =
    EncodesCoef d.problem d.blocks (count_in d.header key.Destinations) (count_in d.header key.Resources) (fields_of line) c

abbrev ALimit : ModelDraftView → ℕ → List ℕ → Limit → Type 0
ALimit d n line l =
    EncodesLimit (count_in d.header key.Resources) (count_in d.header key.Periods) (fields_of line) l × (is_turned l.bound ≡ false)

-- the number of values is at most the number of blocks, and coefficients rise
abbrev AreFew : ModelDraftView → List (List ℤ) → Type 0
AreFew d values = length values ≤ d.blocks

abbrev CoefsRise : List Coef → Type 0
CoefsRise coefs = AllPairs (λ c e. IsTrue (coef_before c e)) coefs

-- the lines so far, in the header and in each section
abbrev InHeading : ModelDraftView → List Line → Type 0
InHeading d done = Heads d.problem d.blocks d.name d.header done

abbrev InValues : ModelDraftView → List Line → Type 0
InValues d done = Part (WholeHeader d.problem d.blocks d.name d.header) Objective (Values d) (AreFew d) d.values done

abbrev InCoefs : ModelDraftView → List Line → Type 0
InCoefs d done = Part (InValues d) Coefs (Coefficient d) CoefsRise d.coefs done

abbrev InLimits : ModelDraftView → List Line → Type 0
InLimits d done = Part (InCoefs d) Limits (ALimit d) RiseStrictly d.limits done

-- and no item of a later section
abbrev pub At : Section → ModelDraftView → List Line → Type 0
At Heading d done = InHeading d done × (d.values ≡ []) × (d.coefs ≡ []) × (d.limits ≡ [])
At Objective d done = InValues d done × (d.coefs ≡ []) × (d.limits ≡ [])
At Coefs d done = InCoefs d done × (length d.values ≡ d.blocks) × (d.limits ≡ [])
At Limits d done = InLimits d done × (length d.values ≡ d.blocks)

-- for a file of n blocks
pub record Now (problem : Problem) (n : ℕ) (d : ModelDraftView) (done : List Line) : Type 0 where
  pub of_problem : d.problem ≡ problem
  pub of_blocks : d.blocks ≡ n
  pub at : At d.section d done

part_first : {A : Type 0} (Before : List Line → Type 0) (section : Section) (Encodes : ℕ → List ℕ → A → Type 0) (Keeps : List A → Type 0)
    (items : List A) (done : List Line) (line : Line) → items ≡ [] → Before done → IsKeyLine (section_text section) line.text [] → Keeps []
    → Part Before section Encodes Keeps items (done ++ line ∷ [])
part_first Before section Encodes Keeps items done line none earlier begins kept = record {
  before = done;
  earlier = earlier;
  first = line;
  lines = [];
  cut = refl;
  begins = begins;
  encoded = subst (AreLines Encodes 0 []) (sym none) tt;
  kept = subst Keeps (sym none) kept;
}

part_more : {A : Type 0} (Before : List Line → Type 0) (section : Section) (Encodes : ℕ → List ℕ → A → Type 0) (Keeps : List A → Type 0)
    (items : List A) (done : List Line) (line : Line) (item : A) → Encodes (length items) line.text item → Keeps (items ++ item ∷ [])
    → Part Before section Encodes Keeps items done → Part Before section Encodes Keeps (items ++ item ∷ []) (done ++ line ∷ [])
part_more Before section Encodes Keeps items done line item here kept part =
    let count : length items ≡ 0 + length items = omega arith in
    record {
      before = part.before;
      earlier = part.earlier;
      first = part.first;
      lines = part.lines ++ line ∷ [];
      cut = ap (λ l. l ++ line ∷ []) part.cut ∙ append_assoc part.before (part.first ∷ part.lines) (line ∷ []);
      begins = part.begins;
      encoded = line_more Encodes 0 part.lines items line item part.encoded (subst (λ n. Encodes n line.text item) count here);
      kept = kept;
    }

in_heading : (section : Section) → is_heading section ≡ true → section ≡ Heading
in_heading Heading e = refl
in_heading section e = absurd cc

in_limits : (section : Section) → is_limits section ≡ true → section ≡ Limits
in_limits Limits e = refl
in_limits section e = absurd cc

-- a line that states something
stepped : (problem : Problem) (n : ℕ) (done : List Line) (d next : ModelDraftView) (line : Line) → line_stated d line.text ≡ Ok next
    → Now problem n d done → Now problem n next (done ++ line ∷ [])
stepped problem n done d next line states was =
    each_line (λ answer. answer ≡ Ok next → Now problem n next (done ++ line ∷ [])) d line.text
    (λ e. absurd cc) keyed begun valued spent limited states
  where
    -- the line does not change the section
    within : (after : ModelDraftView) (section : Section) → next ≡ after → d.section ≡ section → after.section ≡ section
        → after.problem ≡ d.problem → after.blocks ≡ d.blocks → (At section d done → At section after (done ++ line ∷ []))
        → Now problem n next (done ++ line ∷ [])
    within after section is here same p k step = subst (λ d. Now problem n d (done ++ line ∷ [])) (sym is) (record {
      of_problem = p ∙ was.of_problem;
      of_blocks = k ∙ was.of_blocks;
      at = subst (λ section. At section after (done ++ line ∷ [])) (sym same) (step (subst (λ section. At section d done) here was.at));
    })

    keyed : (k : HeaderKey) (fields : List (List ℕ)) → IsKeyLine (key_word k) line.text fields → has_key d.problem k ≡ true
        → key_stated d k fields ≡ Ok next → Now problem n next (done ++ line ∷ [])
    keyed k fields is_key has states =
        let s = key_step d next k fields states in
        let here = in_heading d.section s.heading in
        let says = subst (λ (e : ModelDraftView). EncodesKey d.problem d.blocks (header_stated e.name e.header) k s.value) s.is s.says in
        within _ Heading s.is here here refl refl (λ heading. (
          heads_more d.problem d.blocks k s.value d.name d.header s.number done line s.new (record {
            value = s.value;
            is_key = subst (IsKeyLine (key_word k) line.text) s.one is_key;
            of_problem = has;
            says = says;
          }) heading.0,
          heading.1,
          heading.2,
          heading.3,
        ))

    begun : (section : Section) (fields : List (List ℕ)) → IsKeyLine (section_text section) line.text fields
        → section_stated d section fields ≡ Ok next → Now problem n next (done ++ line ∷ [])
    begun section fields is_key states =
        let s = section_step d next section fields states in
        subst (λ d. Now problem n d (done ++ line ∷ [])) (sym s.is) (record {
          of_problem = was.of_problem;
          of_blocks = was.of_blocks;
          at = next_by (λ now later. IsKeyLine (section_text later) line.text [] → is_ready d now ≡ true → At now d done
              → At later (record d { section = later }) (done ++ line ∷ []))
              (λ begins ready was. (
                part_first (WholeHeader d.problem d.blocks d.name d.header) Objective (Values d) (AreFew d) d.values done line was.1
                    (heads_whole d.problem d.blocks d.name d.header done ready was.0) begins (omega arith),
                was.2,
                was.3,
              ))
              (λ begins ready was. (
                part_first (InValues d) Coefs (Coefficient d) CoefsRise d.coefs done line was.1 was.0 begins
                    (λ i j c less high. absurd (omega arith)),
                eqb-true (length d.values) d.blocks ready,
                was.2,
              ))
              (λ begins ready was. (
                part_first (InCoefs d) Limits (ALimit d) RiseStrictly d.limits done line was.2 was.0 begins
                    (λ i j l less high. absurd (omega arith)),
                was.1,
              ))
              d.section section s.follows (subst (IsKeyLine (section_text section) line.text) s.none is_key) s.ready was.at;
        })

    valued : d.section ≡ Objective → item_stated d Objective (fields_of line.text) ≡ Ok next → Now problem n next (done ++ line ∷ [])
    valued here states =
        let s = (values_added d (fields_of line.text)).reported next states in
        let place = (fields_fit (fields_of line.text) _ s.2.0).0 in
        within _ Objective s.1 here here refl refl (λ before. (
          part_more (WholeHeader d.problem d.blocks d.name d.header) Objective (Values d) (AreFew d) d.values done line s.0 s.2
              (omega (arith, place, length-append d.values (s.0 ∷ []))) before.0,
          before.1,
          before.2,
        ))

    spent : d.section ≡ Coefs → item_stated d Coefs (fields_of line.text) ≡ Ok next → Now problem n next (done ++ line ∷ [])
    spent here states =
        let s = (coef_added d (fields_of line.text)).reported next states in
        within _ Coefs s.1 here here refl refl (λ before. (
          part_more (InValues d) Coefs (Coefficient d) CoefsRise d.coefs done line s.0 s.2
              (rises_after coef_before coef_before_is_transitive d.coefs s.0 before.0.kept s.3) before.0,
          before.1,
          before.2,
        ))

    limited : d.section ≡ Limits → item_stated d Limits (fields_of line.text) ≡ Ok next → Now problem n next (done ++ line ∷ [])
    limited here states =
        let s = (limit_added d (fields_of line.text)).reported next states in
        within _ Limits s.1 here here refl refl (λ before. (
          part_more (InCoefs d) Limits (ALimit d) RiseStrictly d.limits done line s.0 (s.2, s.3)
              (rises_after stands_before stands_before_is_transitive d.limits s.0 before.0.kept s.4) before.0,
          before.1,
        ))

-- lines after others
all_now : (problem : Problem) (n : ℕ) (done : List Line) (d : ModelDraftView) (lines : List Line) (last : ModelDraftView)
    → Now problem n d done → read_lines line_stated d lines ≡ Ok last → Now problem n last (done ++ lines)
all_now problem n done d [] last was all =
    subst (λ d. Now problem n d (done ++ [])) (same_ok d last all) (subst (Now problem n d) (sym (append-nil done)) was)
all_now problem n done d (line ∷ lines) last was all =
    by (λ next now more. all_now problem n (done ++ line ∷ []) next lines last now more) (line_stated d line.text) refl all
  where
    by : ((next : ModelDraftView) → Now problem n next (done ++ line ∷ []) → read_lines line_stated next lines ≡ Ok last
        → Now problem n last ((done ++ line ∷ []) ++ lines))
        → (r : Result ModelDraftView TextKind) → line_stated d line.text ≡ r
        → (at_line line.number r >>= λ next. read_lines line_stated next lines) ≡ Ok last → Now problem n last (done ++ line ∷ lines)
    by deeper (Ok next) states more =
        subst (Now problem n last) (append_assoc done (line ∷ []) lines) (deeper next (stepped problem n done d next line states was) more)
    by deeper (Err kind) states more = absurd cc

pub lines_now : (problem : Problem) (n : ℕ) (lines : List Line) (d : ModelDraftView)
    → read_lines line_stated (blank_model problem n) lines ≡ Ok d → Now problem n d lines
lines_now problem n lines d all =
    all_now problem n [] (blank_model problem n) lines d
    (record { of_problem = refl; of_blocks = refl; at = (heads_none problem n, refl, refl, refl) }) all

-- all lines, cut into the header and the three sections
whole : (d : ModelDraftView) (lines : List Line) → InLimits d lines → length d.values ≡ d.blocks
    → AreModelLines d.problem d.blocks lines (stated_by d)
whole d lines l count =
    let c = l.earlier in
    let v = c.earlier in
    let joined : l.before ≡ v.before ++ (v.first ∷ v.lines ++ (c.first ∷ c.lines)) =
    c.cut ∙ ap (λ x. x ++ c.first ∷ c.lines) v.cut ∙ append_assoc v.before (v.first ∷ v.lines) (c.first ∷ c.lines) in
    record {
      heading = v.before;
      objective = v.first;
      values = v.lines;
      coefficients = c.first;
      coefs = c.lines;
      resource_limits = l.first;
      limits = l.lines;
      cut = l.cut ∙ ap (λ x. x ++ l.first ∷ l.lines) joined
          ∙ append_assoc v.before (v.first ∷ v.lines ++ (c.first ∷ c.lines)) (l.first ∷ l.lines)
          ∙ ap (λ x. v.before ++ v.first ∷ x) (append_assoc v.lines (c.first ∷ c.lines) (l.first ∷ l.lines));
      destinations = v.earlier.single;
      encode_header = v.earlier.encoded;
      begin_values = v.begins;
      encode_values = v.encoded;
      all_values = count;
      begin_coefs = c.begins;
      encode_coefs = c.encoded;
      rising_coefs = c.kept;
      begin_limits = l.begins;
      encode_limits = l.encoded;
      rising_limits = l.kept;
    }

-- lines that state a model encode its content
pub stated_encoded : (problem : Problem) (n : ℕ) (lines : List Line) (d : ModelDraftView) → StateModel problem n lines d
    → AreModelLines problem n lines (stated_by d)
stated_encoded problem n lines d (all, is) =
    let ends = (and_parts (is_complete d.header && (length d.values == d.blocks)) (is_limits d.section) is).1 in
    let now = lines_now problem n lines d all in
    let limits = subst (λ section. At section d lines) (in_limits d.section ends) now.at in
    subst (λ k. AreModelLines problem k lines (stated_by d)) now.of_blocks
    (subst (λ p. AreModelLines p d.blocks lines (stated_by d)) now.of_problem (whole d lines limits.0 limits.1))
