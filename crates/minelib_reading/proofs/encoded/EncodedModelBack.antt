-- Lines that encode a model state it.
use Rattle.std.specs.Prelude.{AllPairs, List, Ok, is_some, not, pos, unwrap_or, ℕ, ℤ, ◌≢◌}
use Rattle.std.proofs.Common.{Some, [], ap, arith, false, inl, inr, length, refl, subst, suc, sym, true, ◌++◌, ◌+◌, ◌∙◌, ◌∷◌, ◌≡◌}
use Rattle.std.proofs.lemmas.Bool.{cases_Bool, eq-eqb}
use Rattle.std.specs.List.{Contains, list_any}
use Rattle.plan_parts.specs.PlanInvariant.{is_turned, stands_before}
use Rattle.plan_parts.specs.declared.limit.Limit.{Limit}
use Rattle.mine_instance.specs.Order.{coef_before}
use Rattle.mine_instance.specs.declared.coefs.coef.Coef.{Coef}
use Rattle.text_lines.proofs.LinesRead.{line_then, lines_then}
use Rattle.text_lines.specs.Reading.{read_lines}
use Rattle.text_lines.specs.TextLines.{Line, fields_of}
use Rattle.minelib_lines.specs.HeaderKeys.{has_key, key_word}
use Rattle.minelib_lines.specs.StatedHeader.{StatedHeader}
use Rattle.minelib_lines.specs.declared.header_key.HeaderKey.{HeaderKey}
use Rattle.minelib_lines.specs.declared.header_key.HeaderKey.TheVariants as key
use Rattle.minelib_lines.specs.declared.problem.Problem.{Problem}
use Rattle.minelib_lines.specs.declared.problem.Problem.TheVariants.{Cpit, Pcpsp}
use Rattle.minelib_reading.proofs.keys.HeaderFacts.{all_given, contains_cases, each_with, first_given, with_same}
use Rattle.minelib_reading.proofs.keys.KeyLines.{cut_line, header_found, header_plain, section_found, section_plain}
use Rattle.minelib_reading.proofs.keys.KeyNumbers.{from_zero, number_back, reported}
use Rattle.minelib_reading.proofs.lines.ItemLines.{items_state}
use Rattle.minelib_reading.proofs.lines.FormFacts.{line_keyless}
use Rattle.minelib_reading.proofs.lines.LineFacts.{coef_fields_keyless}
use Rattle.minelib_reading.proofs.models.ModelSteps.{coef_added, limit_added, values_added}
use Rattle.minelib_reading.proofs.models.Places.{after_last}
use Rattle.minelib_reading.proofs.models.ValidModel.{in_both, key_encoded}
use Rattle.minelib_reading.proofs.encoded.EncodedModelRead.{StateModel}
use Rattle.minelib_reading.specs.HeaderNumbers.{count_in, is_complete, is_given, number_of, with_key}
use Rattle.minelib_reading.specs.ModelDraft.{ModelDraftView, blank_header, blank_model, is_after, is_heading, is_next, is_ready, last_of, name_with}
use Rattle.minelib_reading.specs.ModelKeys.{is_colon, section_text}
use Rattle.minelib_reading.specs.ModelText.{item_stated, key_stated, line_stated, section_stated}
use Rattle.minelib_reading.specs.StatedModel.{StatedModel, header_stated, stated_by}
use Rattle.minelib_reading.specs.declared.model.key.Header.{Header}
use Rattle.minelib_reading.specs.declared.model.key.Section.{Section}
use Rattle.minelib_reading.specs.declared.model.key.Section.TheVariants.{Coefs, Heading, Limits, Objective}
use Rattle.minelib_reading.specs.encoded.EncodedItems.{EncodesCoef, EncodesLimit, EncodesValues}
use Rattle.minelib_reading.specs.encoded.EncodedKeys.{IsKeyLine}
use Rattle.minelib_reading.specs.encoded.EncodedLines.{AreLines}
use Rattle.minelib_reading.specs.encoded.EncodedModel.{AreHeaderLines, AreModelLines, EncodesKey, IsHeaderLine, IsSingle}

-- the content of a model file before its first section
abbrev pub heading : Problem → ℕ → List ℕ → Header → ModelDraftView
heading problem n name h = record (blank_model problem n) { name = name; header = h }

-- a key's line adds what the header states for the key
name_same : (p : Problem) (n : ℕ) (m : StatedHeader) (k : HeaderKey) (value name : List ℕ) → EncodesKey p n m k value
    → name_with k value name ≡ name_with k m.name name
name_same p n m key.Name value name s = s.0
name_same p n m k value name s = refl

pub key_states : (d : ModelDraftView) (m : StatedHeader) (k : HeaderKey) (line : List ℕ) → is_heading d.section ≡ true
    → is_given k d.header ≡ false → IsHeaderLine d.problem d.blocks m line k
    → line_stated d line ≡ Ok (record d { header = with_key d.header k (reported m k); name = name_with k m.name d.name })
unfolding line_stated key_stated
key_states d m k line in_heading new l =
    let c = cut_line (key_word k) line (l.value ∷ []) (header_plain k) l.is_key in
    let name = name_same d.problem d.blocks m k l.value d.name l.says in
    rw (c.colon, c.key_is, header_found d.problem k l.of_problem, c.fields_are, in_heading, new, number_back d.problem d.blocks m k l.value l.says)
    (λ i. Ok (record d { header = with_key d.header k (reported m k); name = name i }))

-- the line that begins a section
pub section_states : (d : ModelDraftView) (section : Section) (line : List ℕ) → IsKeyLine (section_text section) line []
    → is_next d.section section ≡ true → is_ready d d.section ≡ true → line_stated d line ≡ Ok (record d { section = section })
unfolding line_stated section_stated
section_states d section line l follows ready =
    let c = cut_line (section_text section) line [] (section_plain section) l in
    rw (c.colon, c.key_is, section_found d.problem d.section section follows, c.fields_are, follows, ready) refl

-- the line of an item, which has no colon
item_states : (d next : ModelDraftView) (line : List ℕ) → list_any is_colon line ≡ false → item_stated d d.section (fields_of line) ≡ Ok next
    → line_stated d line ≡ Ok next
unfolding line_stated
item_states d next line none states = rw none states

pub values_states : (d : ModelDraftView) (vs : List ℤ) (line : List ℕ)
    → EncodesValues d.blocks (count_in d.header key.Destinations) (length d.values) (fields_of line) vs
    → line_stated (record d { section = Objective }) line ≡ Ok (record d { section = Objective; values = d.values ++ vs ∷ [] })
values_states d vs line encoded =
    let at : ModelDraftView = record d { section = Objective } in
    item_states at _ line (line_keyless line _ encoded.0)
    ((values_added at (fields_of line)).back _ (vs, refl, encoded))

coef_states : (d : ModelDraftView) (c : Coef) (line : List ℕ)
    → EncodesCoef d.problem d.blocks (count_in d.header key.Destinations) (count_in d.header key.Resources) (fields_of line) c
    → is_after coef_before (last_of d.coefs) c ≡ true
    → line_stated (record d { section = Coefs }) line ≡ Ok (record d { section = Coefs; coefs = d.coefs ++ c ∷ [] })
coef_states d c line encoded following =
    let at : ModelDraftView = record d { section = Coefs } in
    item_states at _ line (coef_fields_keyless d.problem d.blocks (count_in d.header key.Destinations) (count_in d.header key.Resources) line c encoded)
    ((coef_added at (fields_of line)).back _ (c, refl, encoded, following))

limit_states : (d : ModelDraftView) (l : Limit) (line : List ℕ)
    → EncodesLimit (count_in d.header key.Resources) (count_in d.header key.Periods) (fields_of line) l × (is_turned l.bound ≡ false)
    → is_after stands_before (last_of d.limits) l ≡ true
    → line_stated (record d { section = Limits }) line ≡ Ok (record d { section = Limits; limits = d.limits ++ l ∷ [] })
limit_states d l line encoded following =
    let at : ModelDraftView = record d { section = Limits } in
    item_states at _ line (line_keyless line _ encoded.0)
    ((limit_added at (fields_of line)).back _ (l, refl, encoded.0, encoded.1, following))

-- the NAME is the value of its key
abbrev IsNameOf : HeaderKey → List ℕ → List ℕ → Type 0
IsNameOf key.Name value name = name ≡ value
IsNameOf k value name = Unit {0}

name_stands : (k : HeaderKey) (value name : List ℕ) → IsNameOf k value (name_with k value name)
name_stands key.Name value name = refl
name_stands k value name = tt

name_kept : (k j : HeaderKey) (value name : List ℕ) → IsNameOf j value name → IsNameOf j value (name_with k value name)
name_kept key.Name key.Name value name was = refl
name_kept key.Name j value name was = was
name_kept k j value name was = was

-- a NAME and a header have what the model states for a key
abbrev Has : StatedHeader → HeaderKey → List ℕ → Header → Type 0
Has m k name h = (number_of h k ≡ Some (reported m k)) × IsNameOf k m.name name

-- after the lines of these keys
record Walked (problem : Problem) (n : ℕ) (m : StatedHeader) (keys : List HeaderKey) (lines : List Line) (name : List ℕ)
    (h : Header) : Type 0 where
  pub last_name : List ℕ
  pub last : Header
  pub states : read_lines line_stated (heading problem n name h) lines ≡ Ok (heading problem n last_name last)
  pub kept : (k : HeaderKey) → Has m k name h → Has m k last_name last
  pub all : (k : HeaderKey) → Contains keys k → Has m k last_name last

walk : (problem : Problem) (n : ℕ) (m : StatedHeader) (i : ℕ) (lines : List Line) (keys : List HeaderKey) (name : List ℕ) (h : Header)
    → AreLines (λ _ line k. IsHeaderLine problem n m line k) i lines keys → AllPairs (λ k j. k ≢ j) keys
    → ((k : HeaderKey) → Contains keys k → has_key problem k ≡ true → is_given k h ≡ false) → Walked problem n m keys lines name h
walk problem n m i [] [] name h are once fresh =
    record { last_name = name; last = h; states = refl; kept = λ k was. was; all = λ k c. absurd (omega (arith, c.1)) }
walk problem n m i (line ∷ lines) (k ∷ keys) name h are once fresh =
    let number = reported m k in
    let next_name = name_with k m.name name in
    let next = with_key h k number in
    let new = fresh k (0, omega arith, refl) are.0.of_problem in
    let differs : (j : HeaderKey) → Contains keys j → k ≢ j =
    λ j c. subst (λ x. k ≢ x) c.2 (once 0 (suc c.0) j (omega arith) (omega (arith, c.1))) in
    let more = walk problem n m (i + 1) lines keys next_name next are.1
    (λ a b d less inside. once (suc a) (suc b) d (omega (arith, less)) (omega (arith, inside)))
    (each_with (λ j found. Contains keys j → has_key problem j ≡ true → is_some found ≡ false) h k number
    (λ c has. absurd (differs k c refl)) (λ j _ c has. fresh j (suc c.0, omega (arith, c.1), c.2) has)) in
    record {
      last_name = more.last_name;
      last = more.last;
      states = line_then line_stated (heading problem n name h) (heading problem n next_name next) (heading problem n more.last_name more.last) line lines
          (key_states (heading problem n name h) m k line.text refl new are.0) more.states;
      kept = λ j was. more.kept j (
        each_with (λ j found. number_of h j ≡ Some (reported m j) → found ≡ Some (reported m j)) h k number (λ _. refl) (λ j _ same. same) j was.0,
        name_kept k j m.name name was.1,
      );
      all = λ j c. elim (contains_cases k keys j c.0 c.1 c.2) [
        | inl same ↦ subst (λ j. Has m j more.last_name more.last) same (more.kept k (with_same h k number, name_stands k m.name name))
        | inr there ↦ more.all j there
      ];
    }
walk problem n m i lines keys name h are once fresh = absurd are

-- a key that the problem's files do not have is there before the first line
without : (problem : Problem) (m : StatedHeader) (k : HeaderKey) → has_key problem k ≡ false → IsSingle problem m.destinations
    → Has m k [] (blank_header problem)
unfolding with_key
without Pcpsp m k e single = absurd cc
without Cpit m key.Destinations e single = (ap Some (sym single), tt)
without Cpit m key.General e single = (refl, tt)
without Cpit m k e single = absurd cc

-- after the header's lines the header is complete
record HasHeader (problem : Problem) (n : ℕ) (m : StatedHeader) (lines : List Line) : Type 0 where
  pub name : List ℕ
  pub h : Header
  pub states : read_lines line_stated (blank_model problem n) lines ≡ Ok (heading problem n name h)
  pub complete : is_complete h ≡ true
  pub stated : header_stated name h ≡ m

header_back : (problem : Problem) (n : ℕ) (m : StatedHeader) (lines : List Line) → IsSingle problem m.destinations
    → AreHeaderLines problem n lines m → HasHeader problem n m lines
header_back problem n m lines single are =
    let w = walk problem n m 0 lines are.keys [] (blank_header problem) are.encoded are.once
    (λ k _ has. first_given problem k ∙ ap not has) in
    let each : (k : HeaderKey) → Has m k w.last_name w.last =
    λ k. elim (cases_Bool (has_key problem k)) [
      | inl has ↦ w.all k (are.all k has)
      | inr none ↦ w.kept k (without problem m k none single)
    ] in
    let count : (k : HeaderKey) → count_in w.last k ≡ reported m k = λ k. ap (λ number. unwrap_or number 0) (each k).0 in
    let rate = from_zero m.rate (key_encoded problem n lines m are key.Rate (in_both problem key.Rate refl)).1.1 in
    record {
      name = w.last_name;
      h = w.last;
      states = w.states;
      complete = all_given w.last (λ k. ap is_some (each k).0);
      stated = λ i. record {
        name = (each key.Name).1 i;
        periods = count key.Periods i;
        destinations = count key.Destinations i;
        resources = count key.Resources i;
        rate = (ap pos (count key.Rate) ∙ rate) i;
      };
    }

-- a model with the header that was read
abbrev with_header : StatedModel → StatedHeader → StatedModel
with_header m header = record { header = header; values = m.values; coefs = m.coefs; limits = m.limits }

-- lines that encode a model state a draft of it
abbrev StatedAs : Problem → ℕ → List Line → StatedModel → Type 0
StatedAs problem n lines m = (d : ModelDraftView) × StateModel problem n lines d × (stated_by d ≡ m)

sections_back : (problem : Problem) (n : ℕ) (m : StatedModel) (lines : List Line) (name : List ℕ) (h : Header) → is_complete h ≡ true
    → (are : AreModelLines problem n lines (with_header m (header_stated name h)))
    → read_lines line_stated (blank_model problem n) are.heading ≡ Ok (heading problem n name h)
    → StatedAs problem n lines (with_header m (header_stated name h))
sections_back problem n m lines name h complete are header =
    let at : Section → List (List ℤ) → List Coef → List Limit → ModelDraftView =
    λ section values coefs limits.
    record (heading problem n name h) { section = section; values = values; coefs = coefs; limits = limits } in
    let values = items_state line_stated (λ block line vs. EncodesValues n (count_in h key.Destinations) block (fields_of line) vs)
    (λ done. at Objective done [] []) m.values
    (λ done x rest line cut s. values_states (at Objective done [] []) x line s) 0 [] m.values are.values refl refl are.encode_values in
    let coefs = items_state line_stated (λ _ line c. EncodesCoef problem n (count_in h key.Destinations) (count_in h key.Resources) (fields_of line) c)
    (λ done. at Coefs m.values done []) m.coefs
    (λ done x rest line cut s. coef_states (at Coefs m.values done []) x line s (after_last coef_before m.coefs done x rest cut are.rising_coefs))
    0 [] m.coefs are.coefs refl refl are.encode_coefs in
    let limits = items_state line_stated
    (λ _ line l. EncodesLimit (count_in h key.Resources) (count_in h key.Periods) (fields_of line) l × (is_turned l.bound ≡ false))
    (λ done. at Limits m.values m.coefs done) m.limits
    (λ done x rest line cut s. limit_states (at Limits m.values m.coefs done) x line s
    (after_last stands_before m.limits done x rest cut are.rising_limits)) 0 [] m.limits are.limits refl refl are.encode_limits in
    let objective = section_states (at Heading [] [] []) Objective are.objective.text are.begin_values refl complete in
    let coefficients = section_states (at Objective m.values [] []) Coefs are.coefficients.text are.begin_coefs refl
    (eq-eqb (length m.values) n are.all_values) in
    let resource_limits = section_states (at Coefs m.values m.coefs []) Limits are.resource_limits.text are.begin_limits refl refl in
    let last = at Limits m.values m.coefs m.limits in
    let after_coefs = line_then line_stated _ _ last are.resource_limits are.limits resource_limits limits in
    let after_values = line_then line_stated _ _ last are.coefficients _ coefficients (lines_then line_stated _ _ last are.coefs _ coefs after_coefs) in
    let after_header = line_then line_stated _ _ last are.objective _ objective (lines_then line_stated _ _ last are.values _ values after_values) in
    let all = lines_then line_stated _ _ last are.heading _ header after_header in (
      last,
      (
        subst (λ lines. read_lines line_stated (blank_model problem n) lines ≡ Ok last) (sym are.cut) all,
        rw (complete, eq-eqb (length m.values) n are.all_values) refl,
      ),
      refl,
    )

pub encoded_stated : (problem : Problem) (n : ℕ) (lines : List Line) (m : StatedModel) → AreModelLines problem n lines m
    → StatedAs problem n lines m
encoded_stated problem n lines m are =
    let h = header_back problem n m.header are.heading are.destinations are.encode_header in
    subst (λ header. (are : AreModelLines problem n lines (with_header m header))
    → read_lines line_stated (blank_model problem n) are.heading ≡ Ok (heading problem n h.name h.h) → StatedAs problem n lines (with_header m header))
    h.stated (sections_back problem n m lines h.name h.h h.complete) are h.states
