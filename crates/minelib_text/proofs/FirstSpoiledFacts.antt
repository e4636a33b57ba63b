-- A faulty line of a model file is the first behind which nothing makes it a model.
use Rattle.std.specs.Prelude.{Err, List, Ok, Result, ℕ, ◌⊎◌}
use Rattle.std.proofs.Common.{[], ap, append_assoc, false, inl, inr, refl, sym, ◌++◌, ◌∙◌, ◌∷◌, ◌≡◌, ◌≤◌}
use Rattle.text_lines.proofs.LinesRead.{lines_then, read_both}
use Rattle.text_lines.proofs.ReadSteps.{same_ok}
use Rattle.text_lines.specs.Reading.{IsFirstFault, read_lines}
use Rattle.text_lines.specs.TextLines.{Line, lines_in}
use Rattle.text_lines.specs.declared.text_fault.LineFault.{LineFault}
use Rattle.text_lines.specs.declared.text_fault.TextKind.{TextKind}
use Rattle.minelib_lines.specs.declared.problem.Problem.{Problem}
use Rattle.minelib_reading.proofs.encoded.EncodedModelBack.{encoded_stated}
use Rattle.minelib_reading.proofs.encoded.EncodedModelRead.{lines_now, stated_encoded}
use Rattle.minelib_reading.proofs.encoded.EncodedRead.{ended_fails}
use Rattle.minelib_reading.specs.ModelDraft.{ModelDraftView, blank_model, has_all_parts}
use Rattle.minelib_reading.specs.ModelText.{line_stated, model_in}
use Rattle.minelib_reading.specs.StatedModel.{stated_by}
use Rattle.minelib_reading.specs.encoded.EncodedModel.{BeginModel, EndsEarly, IsFirstSpoiled}
use Rattle.minelib_text.proofs.Completed.{completed}

-- lines that state something begin a model
begins : (problem : Problem) (n : ℕ) (lines : List Line) (d : ModelDraftView) → n ≤ 64000000
    → read_lines line_stated (blank_model problem n) lines ≡ Ok d → BeginModel problem n lines
begins problem n lines d few all =
    let c = completed problem n d lines few (lines_now problem n lines d all) in
    let states = lines_then line_stated (blank_model problem n) d c.last lines c.rest all c.states in
    (c.rest, stated_by c.last, stated_encoded problem n (lines ++ c.rest) c.last (states, c.whole))

not_both : (r : Result ModelDraftView LineFault) (last : ModelDraftView) (fault : LineFault) → r ≡ Ok last → r ≡ Err fault → ⊥
not_both r last fault a b = cc

-- a line that fails begins none
spoils : (problem : Problem) (n : ℕ) (before : List Line) (bad : Line) (d : ModelDraftView) (kind : TextKind)
    → read_lines line_stated (blank_model problem n) before ≡ Ok d → line_stated d bad.text ≡ Err kind
    → ¬ (BeginModel problem n (before ++ bad ∷ []))
spoils problem n before bad d kind all fails (rest, m, are) =
    let stated = encoded_stated problem n ((before ++ bad ∷ []) ++ rest) m are in
    let lines = append_assoc before (bad ∷ []) rest in
    let stops : read_lines line_stated d (bad ∷ rest) ≡ Err (record { line = bad.number; kind = kind }) = rw fails refl in
    let fault = read_both line_stated (blank_model problem n) d before (bad ∷ rest) all ∙ stops in
    not_both _ stated.0 _ stated.1.0 (ap (read_lines line_stated (blank_model problem n)) lines ∙ fault)

pub bad_model : (problem : Problem) (n : ℕ) (text : List ℕ) (fault : LineFault) → n ≤ 64000000 → model_in problem n text ≡ Err fault
    → (IsFirstFault line_stated (blank_model problem n) (lines_in text) fault × IsFirstSpoiled problem n (lines_in text) fault.line)
    ⊎ EndsEarly problem n text fault
bad_model problem n text fault few e =
    elim (ended_fails line_stated (blank_model problem n) (lines_in text) has_all_parts _ fault e) [
      | inl stop ↦ inl (
        stop,
        record {
          before = stop.before;
          bad = stop.bad;
          following = stop.following;
          cut = stop.cut;
          place = stop.place;
          begun = begins problem n stop.before stop.state few stop.stated;
          spoiled = spoils problem n stop.before stop.bad stop.state fault.kind stop.stated stop.fails;
        },
      )
      | inr h ↦ inr (record {
        place = sym (ap (λ (f : LineFault). f.line) h.3);
        kind = sym (ap (λ (f : LineFault). f.kind) h.3);
        begun = begins problem n (lines_in text) h.0 few h.1;
        no_model = λ m are.
            let stated = encoded_stated problem n (lines_in text) m are in
            let same : stated.0 ≡ h.0 = same_ok {F = LineFault} stated.0 h.0 (sym stated.1.0 ∙ h.1) in
            absurd (let lacks_too : has_all_parts stated.0 ≡ false = ap (λ d. has_all_parts d) same ∙ h.2 in cc (stated.1.1, lacks_too));
      })
    ]
