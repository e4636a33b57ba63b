-- Whatever is read of a model file, some lines behind it complete it.
use Rattle.std.specs.Prelude.{List, Ok, codes, is_some, pos, replicate, ℕ, ◌≢◌}
use Rattle.std.proofs.Common.{[], ap, arith, false, inl, inr, length, length-append, refl, subst, suc, sym, true, zero, ◌++◌, ◌+◌, ◌-◌, ◌∙◌, ◌∷◌, ◌≡◌, ◌≤◌}
use Rattle.std.proofs.lemmas.Bool.{cases_Bool, eq-eqb, not-false}
use Rattle.std.proofs.lemmas.Int.{ints}
use Rattle.std.proofs.lemmas.List.{length-replicate}
use Rattle.std.proofs.lemmas.List.Elements.{All-replicate}
use Rattle.std.specs.List.{Contains}
use Rattle.pit_units.specs.DecimalRange.{IsInDecimalRange}
use Rattle.text_lines.proofs.LinesRead.{line_then}
use Rattle.text_lines.proofs.PlainText.{IsField}
use Rattle.text_lines.specs.Reading.{read_lines}
use Rattle.text_lines.specs.TextLines.{Line}
use Rattle.minelib_lines.specs.HeaderKeys.{has_key, header_keys, type_text}
use Rattle.minelib_lines.specs.HeaderTable.{key_line, key_text}
use Rattle.minelib_lines.specs.Lines.{line_of}
use Rattle.minelib_lines.specs.StatedHeader.{StatedHeader}
use Rattle.minelib_lines.specs.declared.header_key.HeaderKey.{HeaderKey}
use Rattle.minelib_lines.specs.declared.header_key.HeaderKey.TheVariants as key
use Rattle.minelib_lines.specs.declared.problem.Problem.{Problem}
use Rattle.minelib_writing.specs.Written.{value_line}
use Rattle.minelib_reading.proofs.keys.HeaderFacts.{KeepsOwn, all_given, contains_cases, each_key, each_with, first_given}
use Rattle.minelib_reading.proofs.keys.KeyNumbers.{reported}
use Rattle.minelib_reading.proofs.encoded.EncodedModelBack.{heading, key_states, section_states, values_states}
use Rattle.minelib_reading.proofs.encoded.EncodedModelRead.{At, Now}
use Rattle.minelib_reading.specs.HeaderNumbers.{count_in, is_complete, is_given, with_key}
use Rattle.minelib_reading.specs.ModelDraft.{ModelDraftView, blank_header, is_next, is_ready, has_all_parts, name_with}
use Rattle.minelib_reading.specs.ModelKeys.{section_text}
use Rattle.minelib_reading.specs.ModelText.{line_stated}
use Rattle.minelib_reading.specs.declared.model.key.Header.{Header}
use Rattle.minelib_reading.specs.declared.model.key.Section.{Section}
use Rattle.minelib_reading.specs.declared.model.key.Section.TheVariants.{Coefs, Heading, Limits, Objective}
use Rattle.minelib_text.proofs.KeysBack.{IsHeader, header_line, section_line, word_field}
use Rattle.minelib_text.proofs.ModelBack.{values_line}

-- some lines behind what was read make it whole
pub record Completes (d : ModelDraftView) : Type 0 where
  pub rest : List Line
  pub last : ModelDraftView
  pub states : read_lines line_stated d rest ≡ Ok last
  pub whole : has_all_parts last ≡ true

then_complete : (s t : ModelDraftView) (line : List ℕ) → line_stated s line ≡ Ok t → Completes t → Completes s
then_complete s t line states c = record {
  rest = record { number = 0; text = line } ∷ c.rest;
  last = c.last;
  states = line_then line_stated s t c.last (record { number = 0; text = line }) c.rest states c.states;
  whole = c.whole;
}

abbrev in_section : Section → ModelDraftView → ModelDraftView
in_section section d = record d { section = section }

-- the line of the next section's key
then_section : (d : ModelDraftView) (section : Section) → IsField (section_text section) → is_next d.section section ≡ true
    → is_ready d d.section ≡ true → Completes (in_section section d) → Completes d
then_section d section field follows ready c =
    let line = section_text section ++ 58 ∷ [] in
    then_complete d (in_section section d) line (section_states d section line (section_line (section_text section) field).1 follows ready) c

from_limits : (d : ModelDraftView) → is_complete d.header ≡ true → length d.values ≡ d.blocks → Completes (in_section Limits d)
from_limits d complete all = record {
  rest = [];
  last = in_section Limits d;
  states = refl;
  whole = rw (complete, eq-eqb (length d.values) d.blocks all) refl;
}

from_coefs : (d : ModelDraftView) → is_complete d.header ≡ true → length d.values ≡ d.blocks → Completes (in_section Coefs d)
from_coefs d complete all = then_section (in_section Coefs d) Limits (word_field _ _ refl) refl refl (from_limits d complete all)

-- so many blocks have no values yet
values_remaining : (k : ℕ) (d : ModelDraftView) → is_complete d.header ≡ true → length d.values + k ≡ d.blocks → d.blocks ≤ 64000000
    → Completes (in_section Objective d)
values_remaining zero d complete count few =
    let all : length d.values ≡ d.blocks = omega arith in
    then_section (in_section Objective d) Coefs (word_field _ _ refl) refl (eq-eqb (length d.values) d.blocks all) (from_coefs d complete all)
values_remaining (suc k) d complete count few =
    let destinations = count_in d.header key.Destinations in
    let vs = replicate destinations (pos 0) in
    let next : ModelDraftView = record d { values = d.values ++ vs ∷ [] } in
    let written = values_line d.blocks destinations (length d.values) vs few (omega arith)
    (length-replicate destinations (pos 0)) (All-replicate IsInDecimalRange destinations (pos 0) (omega arith)) in
    let line = line_of (value_line (length d.values) vs) in
    then_complete (in_section Objective d) (in_section Objective next) line (values_states d vs line written.1)
    (values_remaining k next complete (omega (arith, length-append d.values (vs ∷ []))) few)

from_objective : (d : ModelDraftView) → is_complete d.header ≡ true → length d.values ≤ d.blocks → d.blocks ≤ 64000000
    → Completes (in_section Objective d)
from_objective d complete most few = values_remaining (d.blocks - length d.values) d complete (omega arith) few

-- a header that has a value for each key
abbrev least : StatedHeader
least = record { name = codes "X"; periods = 1; destinations = 1; resources = 0; rate = pos 0 }

smallest_fits : (n : ℕ) → n ≤ 64000000 → IsHeader n least
smallest_fits n few = record {
  few = few;
  name = refl;
  horizon = record {
    periods_1_to_100 = (omega arith, omega arith);
    at_most_8_resources = omega arith;
    rate_0_to_1 = (omega (arith, ints), omega (arith, ints));
  };
  destinations = (omega arith, omega arith);
}

-- all keys are given
from_header : (p : Problem) (n : ℕ) (name : List ℕ) (h : Header) → n ≤ 64000000 → is_complete h ≡ true → Completes (heading p n name h)
from_header p n name h few complete =
    let d = heading p n name h in
    then_section d Objective (word_field _ _ refl) refl complete (from_objective d complete (omega arith) few)

-- what a header lacks are keys of the problem, and among these
abbrev Lacks : Problem → List HeaderKey → Header → Type 0
Lacks p keys h = (k : HeaderKey) → is_given k h ≡ false → (is_given k (blank_header p) ≡ false) × Contains keys k

fill : (p : Problem) (n : ℕ) (keys : List HeaderKey) (name : List ℕ) (h : Header) → n ≤ 64000000 → Lacks p keys h
    → Completes (heading p n name h)
fill p n [] name h few lacks = from_header p n name h few (all_given h (λ k. elim (cases_Bool (is_given k h)) [
  | inl given ↦ given
  | inr new ↦ let c = (lacks k new).1 in absurd (omega (arith, c.1))
]))
fill p n (k ∷ keys) name h few lacks = elim (cases_Bool (is_given k h)) [
  | inl given ↦ fill p n keys name h few (λ j new. later j (λ same.
      (let is : is_given j h ≡ true = subst (λ j. is_given j h ≡ true) same given in absurd cc)) new)
  | inr new ↦
      let has : has_key p k ≡ true = not-false (has_key p k) (sym (first_given p k) ∙ (lacks k new).0) in
      let number = reported least k in
      let line = key_line k (key_text (type_text p) n least k) in
      then_complete (heading p n name h) (heading p n (name_with k least.name name) (with_key h k number)) line
      (key_states (heading p n name h) least k line refl new (header_line p n least (smallest_fits n few) k has).1)
      (fill p n keys (name_with k least.name name) (with_key h k number) few
      (each_with (λ j found. is_some found ≡ false → (is_given j (blank_header p) ≡ false) × Contains keys j) h k number
      (λ given. absurd cc) later))
]
  where
    later : (j : HeaderKey) → k ≢ j → is_given j h ≡ false → (is_given j (blank_header p) ≡ false) × Contains keys j
    later j differ new =
        let lack = lacks j new in
        let c = lack.1 in
        (lack.0, elim (contains_cases k keys j c.0 c.1 c.2) [ inl same ↦ absurd (differ same) | inr there ↦ there ])

from_heading : (p : Problem) (n : ℕ) (name : List ℕ) (h : Header) → n ≤ 64000000 → KeepsOwn p h → Completes (heading p n name h)
from_heading p n name h few own = fill p n header_keys name h few (λ k new. (
  elim (cases_Bool (is_given k (blank_header p))) [
    | inl given ↦ (let was : is_given k h ≡ true = ap is_some (own k given) ∙ given in absurd cc)
    | inr none ↦ none
  ],
  each_key k,
))

from_section : (section : Section) (d : ModelDraftView) (done : List Line) → At section d done → d.blocks ≤ 64000000
    → Completes (in_section section d)
from_section Heading d done at few =
    let empty : heading d.problem d.blocks d.name d.header ≡ in_section Heading d = rw (at.1, at.2, at.3) refl in
    subst Completes empty (from_heading d.problem d.blocks d.name d.header few at.0.own)
from_section Objective d done at few = from_objective d at.0.earlier.complete at.0.kept few
from_section Coefs d done at few = from_coefs d at.0.earlier.earlier.complete at.1
from_section Limits d done at few = from_limits d at.0.earlier.earlier.earlier.complete at.1

pub completed : (problem : Problem) (n : ℕ) (d : ModelDraftView) (done : List Line) → n ≤ 64000000 → Now problem n d done → Completes d
completed problem n d done few now = from_section d.section d done now.at (subst (λ k. k ≤ 64000000) (sym now.of_blocks) few)
