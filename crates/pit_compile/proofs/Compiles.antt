-- What the readers' answers and the collected rows say of the model.
use Rattle.std.proofs.Common.{◌≡◌, ◌≤◌, ℕ, List, [], ◌∷◌, Option, None, refl, sym, ◌∙◌, ap, subst, arith, length}
use Rattle.std.proofs.lemmas.List.{length-map}
use Rattle.std.specs.List.{flat_map}
use Rattle.devices.specs.feeds.FeedState.{FeedState, all_remaining}
use Rattle.lane.specs.declared.message.Taken.{Taken}
use Rattle.plan_parts.specs.PlanFormulas.{formulas_of_plan}
use Rattle.plan_parts.specs.Plan.{PlanParts}
use Rattle.run_threads.specs.Reading.{AreRead, ReadAnswer}
use Rattle.valuers.specs.Valuing.{rows_by}
use Rattle.rows.specs.declared.item.Valued.{Valued}
use Rattle.pit_compile.specs.inner.ReadAnswers.{refusal_in}
use Rattle.pit_compile.specs.ZoneFiles.{AreGiven}
use Rattle.pit_compile.specs.Compiling.{IsNotCompiled}
use Rattle.pit_compile.specs.inner.ModelRows.{AreModelRows}
use Rattle.pit_compile.specs.Rows.{fault_in, model_sends}
use Rattle.pit_compile.specs.inner.ValuedRows.{RepeatsFirst, valued_rows}
use Rattle.pit_compile.specs.inner.Repeats.{IsRepeat}
use Rattle.refusals.specs.declared.refusal.Refusal.{Refusal}
use Rattle.refusals.specs.declared.refusal.Refusal.TheVariants.{Same, OutOfMemory}
use Rattle.pit_compile.proofs.PlainRows.{first_repeat}
use Rattle.pit_compile.proofs.Readers.{all_read}
use Rattle.pit_compile.proofs.RowFacts.{AreZoneFiles, are_model_rows, sent_rows}

given_count : (remainders : List (Option (List ℕ))) (texts : List (List ℕ)) → AreGiven remainders texts → length texts ≡ length remainders
given_count [] [] h = refl
given_count (l ∷ ls) (t ∷ ts) h = let rest = given_count ls ts h.1 in omega arith
given_count _ _ h = absurd h

-- texts are given that have no fault, the lane had what their files send, and these are their rows
pub record AreRowsOfTexts (plan : PlanParts) (remainders : List (Option (List ℕ))) (sents : List (List Taken)) (rows : List Valued) : Type 0 where
  pub texts : List (List ℕ)
  pub given : AreGiven remainders texts
  pub no_fault : fault_in texts plan.grid 0 ≡ None
  pub sent : sents ≡ model_sends plan texts
  pub rows_are : rows ≡ valued_rows plan texts
  pub model : AreModelRows plan rows

pub compiles : {F : Type 0} (state : F → FeedState) (plan : PlanParts) (feeds : List F) (answers : List ReadAnswer)
    (sents : List (List Taken)) (rows : List Valued)
    → AreZoneFiles → length feeds ≡ length plan.cones → length plan.cones ≤ 64
    → AreRead state plan.grid 0 feeds answers sents → refusal_in 0 answers ≡ None
    → rows ≡ flat_map (rows_by (formulas_of_plan plan)) sents → AreRowsOfTexts plan (all_remaining state feeds) sents rows
compiles state plan feeds answers sents rows files count most h e collected =
    let read = all_read state plan.grid feeds answers sents h e in
    let as_many = given_count (all_remaining state feeds) read.texts read.given ∙ length-map feeds (λ feed. (state feed).remaining) in
    let same : rows ≡ valued_rows plan read.texts
    = collected ∙ ap (flat_map (rows_by (formulas_of_plan plan))) read.sent ∙ sent_rows plan.grid (formulas_of_plan plan) 0 read.texts in
    record {
      texts = read.texts;
      given = read.given;
      no_fault = read.no_fault;
      sent = read.sent;
      rows_are = same;
      model = subst (AreModelRows plan) (sym same) (are_model_rows plan read.texts files (as_many ∙ count) most);
    }

-- a refusal of numbering is the verdict's
pub repeat_refused : (plan : PlanParts) (remainders : List (Option (List ℕ))) (Failed : ℕ → Type 0) (sents : List (List Taken))
    (rows : List Valued) (r : Refusal)
    → AreRowsOfTexts plan remainders sents rows → IsRepeat rows r → IsNotCompiled plan remainders Failed r
repeat_refused plan remainders Failed sents rows (Same first again) m h =
    let repeats = subst (λ rs. RepeatsFirst rs first again) m.rows_are h in
    record { texts = m.texts; given = m.given; refused = (m.no_fault, first_repeat plan m.texts first again repeats) }
repeat_refused plan remainders Failed sents rows OutOfMemory m h = tt
repeat_refused plan remainders Failed sents rows other m h = absurd h
