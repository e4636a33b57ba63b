-- Runs of the same zone files agree for all settings.
use Rattle.std.proofs.Common.{◌≡◌, ◌<◌, ◌⊎◌, ◌&&◌, ◌==◌, ◌++◌, ◌∙◌, ℕ, List, [], ◌∷◌, Bool, true, false, Option, Some, None, inl, inr, refl, ap, sym, subst, arith, drop, length, map, ⊎_elim}
use Rattle.std.specs.Prelude.{slice_get, slice_index_or}
use Rattle.std.specs.List.{sum_by}
use Rattle.std.specs.Option.{is_some, option_map, unwrap_or}
use Rattle.std.proofs.lemmas.Bool.{and_parts, cases_lt, eq-eqb, eqb-true, false≢true}
use Rattle.std.proofs.lemmas.List.{append_cancel_left, length-map}
use Rattle.command_io.specs.RunState.{Inputs, run_state}
use Rattle.command_io.specs.ZoneFeeds.{AreOpened}
use Rattle.compile_command.specs.Compile.{ReportsRows, rows_line}
use Rattle.devices.specs.files.Opening.{Opening, Opened, all_opened}
use Rattle.devices.specs.sinks.SinkState.{IsWritten, SinkState}
use Rattle.lane.specs.MessageKinds.{row_count}
use Rattle.lane.specs.Whole.{GatheredView}
use Rattle.minelib_lines.specs.declared.text_name.TextName.{TextName}
use Rattle.minelib_writing.specs.Texts.{text_named}
use Rattle.plan_parts.specs.Plan.{PlanParts}
use Rattle.plan_parts.specs.declared.block.Block.{Block}
use Rattle.plan_parts.specs.declared.formulas.formula.Formula.{Formula}
use Rattle.plan_parts.specs.declared.settings.Settings.{Settings as Chosen}
use Rattle.run_threads.specs.Starts.{StartsView}
use Rattle.precedence.specs.Identifier.{is_same_cell, IsFirstAgain}
use Rattle.refusals.specs.declared.refusal.Refusal.{Refusal}
use Rattle.refusals.specs.declared.refusal.Refusal.TheVariants.{Settings, NoThread, FeedFailed, TooLong, Row, Same, SinkFailed, OutOfMemory}
use Rattle.refusals.specs.declared.refusal.RowAt.{RowAt}
use Rattle.pit_compile.specs.Rows.{fault_in, model_blocks, model_rows, model_sends}
use Rattle.pit_compile.specs.Run.{IsDone}
use Rattle.pit_compile.specs.Verdict.{IsAccepted, IsFirstRepeat, IsRefusedBy}
use Rattle.pit_compile.specs.ZoneFiles.{AreGiven, IsVerdict, instance_from}

same_texts : (texts given : List (List ℕ)) → AreGiven (map Some texts) given → given ≡ texts
same_texts [] [] h = refl
same_texts [] (text ∷ given) h = absurd h
same_texts (text ∷ texts) [] h = absurd h
same_texts (text ∷ texts) (other ∷ given) h = ap (λ t. t ∷ given) h.0 ∙ ap (λ ts. text ∷ ts) (same_texts texts given h.1)

-- sinks with the same state have the same state after they took the same text
abbrev state_with : Bool → List ℕ → Option (List ℕ) → ℕ → SinkState
state_with begun before taken failures = record { begun = begun; before = before; taken = taken; failures = failures }

same_state : (text : List ℕ) (old new again : SinkState) → IsWritten text old new → IsWritten text old again → new ≡ again
same_state text old new again one other =
    let begun : new.begun ≡ again.begun = one.begun ∙ sym other.begun in
    let before : new.before ≡ again.before = one.before ∙ sym other.before in
    let taken : new.taken ≡ again.taken = one.taken ∙ sym other.taken in
    let failures : new.failures ≡ again.failures = one.works ∙ sym other.works in
    ap (λ x. state_with x new.before new.taken new.failures) begun ∙ ap (λ x. state_with again.begun x new.taken new.failures) before
    ∙ ap (λ x. state_with again.begun again.before x new.failures) taken ∙ ap (λ x. state_with again.begun again.before again.taken x) failures

pub all_the_same : (plan : PlanParts) (texts : List (List ℕ)) (valuers capacity others place : ℕ) (old new again : TextName → SinkState)
    (g h : GatheredView) → IsDone plan (map Some texts) valuers capacity old new g → IsDone plan (map Some texts) others place old again h
    → (g.sent ≡ h.sent) × ((name : TextName) → new name ≡ again name)
all_the_same plan texts valuers capacity others place old new again g h one other =
    let same : one.texts ≡ other.texts = same_texts texts one.texts one.given ∙ sym (same_texts texts other.texts other.given) in (
      one.passed.sent ∙ ap (model_sends plan) same ∙ sym other.passed.sent,
      λ name. same_state (text_named name (instance_from plan other.texts)) (old name) (new name) (again name)
          (subst (λ ts. IsWritten (text_named name (instance_from plan ts)) (old name) (new name)) same (one.written name)) (other.written name),
    )

-- files that were opened reported what they reported
abbrev first_remaining : List Opening → Option (List ℕ)
first_remaining (Opened path remaining ∷ openings) = remaining
first_remaining openings = None

same_remaining : (paths : List (List ℕ)) (one other : List (Option (List ℕ))) → length one ≡ length paths → length other ≡ length paths
    → all_opened paths one ≡ all_opened paths other → one ≡ other
same_remaining [] [] [] h k e = refl
same_remaining [] [] (remaining ∷ other) h k e = absurd (omega (arith, k))
same_remaining [] (remaining ∷ one) other h k e = absurd (omega (arith, h))
same_remaining (path ∷ paths) [] other h k e = absurd (omega (arith, h))
same_remaining (path ∷ paths) (remaining ∷ one) [] h k e = absurd (omega (arith, k))
same_remaining (path ∷ paths) (remaining ∷ one) (right ∷ other) h k e =
    ap (λ l. l ∷ one) (ap first_remaining e) ∙ ap (λ ls. right ∷ ls)
    (same_remaining paths one other (omega (arith, h)) (omega (arith, k)) (ap (drop 1) e))

pub same_rows : (inputs : Inputs) (formulas : List Formula) (settings : Chosen) (texts : List (List ℕ)) (opened now : List Opening)
    (starts spent begun ended : StartsView) (old new again : TextName → SinkState) (text text_one text_other : List ℕ)
    → length texts ≡ length inputs.zones → now ≡ opened ++ all_opened inputs.zones (map Some texts)
    → ReportsRows inputs (run_state opened starts old) (run_state now spent new) text text_one
    → ReportsRows (record inputs { formulas = formulas; settings = settings }) (run_state opened begun old) (run_state now ended again) text text_other
    → (text_one ≡ text_other) × ((name : TextName) → new name ≡ again name)
same_rows inputs formulas other texts opened now starts spent begun ended old new again text text_one text_other count is t u =
    let plan = inputs.plan in
    let paths = inputs.zones in
    let one = inputs.settings in
    let long : length (map Some texts) ≡ length paths = length-map texts Some ∙ count in
    let reported : (remainders : List (Option (List ℕ))) → AreOpened opened now paths remainders → remainders ≡ map Some texts =
    λ remainders h. same_remaining paths remainders (map Some texts) h.each long (append_cancel_left opened _ _ (sym h.opened ∙ is)) in
    let both = all_the_same plan texts one.valuers one.capacity other.valuers other.capacity old new again t.gathered u.gathered
    (subst (λ ls. IsDone plan ls one.valuers one.capacity old new t.gathered) (reported t.compiled.remainders t.compiled.opened) t.compiled.done)
    (subst (λ ls. IsDone plan ls other.valuers other.capacity old again u.gathered) (reported u.compiled.remainders u.compiled.opened) u.compiled.done) in
    (t.appended ∙ ap (λ sent. text ++ rows_line (sum_by row_count sent)) both.0 ∙ sym u.appended, both.1)

-- blocks in the same cell as a third one are in the same cell
all_true : (p q r : Bool) → p ≡ true → q ≡ true → r ≡ true → (p && q) && r ≡ true
all_true true true true a b c = refl
all_true true true false a b c = absurd (false≢true c)
all_true true false r a b c = absurd (false≢true b)
all_true false q r a b c = absurd (false≢true a)

same_again : (a b c : Block) → is_same_cell a c ≡ true → is_same_cell b c ≡ true → is_same_cell a b ≡ true
same_again a b c h k =
    let z = and_parts _ _ h in
    let xy = and_parts _ _ z.0 in
    let w = and_parts _ _ k in
    let uv = and_parts _ _ w.0 in
    all_true (a.x == b.x) (a.y == b.y) (a.z == b.z) (eq-eqb a.x b.x (eqb-true a.x c.x xy.0 ∙ sym (eqb-true b.x c.x uv.0)))
    (eq-eqb a.y b.y (eqb-true a.y c.y xy.1 ∙ sym (eqb-true b.y c.y uv.1))) (eq-eqb a.z b.z (eqb-true a.z c.z z.1 ∙ sym (eqb-true b.z c.z w.1)))

-- a list has only one first repeated position, which has only one earlier position with the same cell
some_block : (listed : List Block) (n : ℕ) → n < length listed → Block
some_block [] n within = absurd (omega (arith, within))
some_block (b ∷ listed) n within = b

module _ (listed : List Block) (i j k l : ℕ) (f : IsFirstAgain listed i j) (g : IsFirstAgain listed k l) where
  default : Block
  default = some_block listed j f.within

  abbrev at : ℕ → Block
  at n = slice_index_or listed n default

  one_later : j ≡ l
  one_later =
      ⊎_elim (λ lt. absurd (false≢true (sym (g.none_before i j default f.before lt) ∙ f.same default)))
      (λ ge. ⊎_elim (λ lt. absurd (false≢true (sym (f.none_before k l default g.before lt) ∙ g.same default)))
      (λ le. omega (arith, ge, le)) (cases_lt l j)) (cases_lt j l)

  first_same : is_same_cell (at i) (at l) ≡ true
  first_same = subst (λ n. is_same_cell (at i) (at n) ≡ true) one_later (f.same default)

  first_before : i < l
  first_before = subst (λ n. i < n) one_later f.before

  one_earlier : i ≡ k
  one_earlier =
      ⊎_elim (λ lt. absurd (false≢true (sym (g.none_before i k default lt g.before)
      ∙ same_again (at i) (at k) (at l) first_same (g.same default))))
      (λ ge. ⊎_elim (λ lt. absurd (false≢true (sym (g.none_before k i default lt first_before)
      ∙ same_again (at k) (at i) (at l) (g.same default) first_same)))
      (λ le. omega (arith, ge, le)) (cases_lt k i)) (cases_lt i k)

some_same : {A : Type 0} (a b : A) → Some a ≡ Some b → a ≡ b
some_same a b e = ap (λ o. unwrap_or o a) e

none_is_not_some : {A : Type 0} (a : A) → None ≡ Some a → ⊥
none_is_not_some a e = false≢true (ap is_some e)

-- the verdict is the first fault, or the first repeated block if there is no fault
record IsRepeat (plan : PlanParts) (texts : List (List ℕ)) (refusal : Refusal) : Type 0 where
  first : RowAt
  again : RowAt
  is : refusal ≡ Same first again
  none : fault_in texts plan.grid 0 ≡ None
  repeats : IsFirstRepeat (model_rows plan texts) first again

reported : (plan : PlanParts) (texts : List (List ℕ)) (refusal : Refusal) → IsRefusedBy plan texts refusal
    → (fault_in texts plan.grid 0 ≡ Some refusal) ⊎ IsRepeat plan texts refusal
reported plan texts (TooLong file) h = inl h
reported plan texts (Row file fault) h = inl h
reported plan texts (Same first again) h = inr (record { first = first; again = again; is = refl; none = h.0; repeats = h.1 })
reported plan texts (Settings kind) h = absurd h
reported plan texts NoThread h = absurd h
reported plan texts (FeedFailed file) h = absurd h
reported plan texts (SinkFailed which) h = absurd h
reported plan texts OutOfMemory h = absurd h

one_repeat : (plan : PlanParts) (texts : List (List ℕ)) (one other : Refusal) → IsRepeat plan texts one → IsRepeat plan texts other → one ≡ other
one_repeat plan texts one other a b =
    let listed = map (λ row. row.1) (model_rows plan texts) in
    let f = a.repeats in
    let g = b.repeats in
    let earlier = one_earlier listed f.earlier f.later g.earlier g.later f.repeats g.repeats in
    let later = one_later listed f.earlier f.later g.earlier g.later f.repeats g.repeats in
    let row : ℕ → Option RowAt = λ n. option_map (λ row. row.0) (slice_get (model_rows plan texts) n) in
    let first : a.first ≡ b.first = some_same a.first b.first (sym f.first_row ∙ ap row earlier ∙ g.first_row) in
    let again : a.again ≡ b.again = some_same a.again b.again (sym f.again_row ∙ ap row later ∙ g.again_row) in
    a.is ∙ ap (λ x. Same x a.again) first ∙ ap (λ x. Same b.first x) again ∙ sym b.is

verdict_once : (plan : PlanParts) (texts : List (List ℕ)) (one other : Refusal) → IsRefusedBy plan texts one → IsRefusedBy plan texts other
    → one ≡ other
verdict_once plan texts one other h k =
    ⊎_elim (λ a. ⊎_elim (λ b. some_same one other (sym a ∙ b)) (λ b. absurd (none_is_not_some one (sym b.none ∙ a))) (reported plan texts other k))
    (λ a. ⊎_elim (λ b. absurd (none_is_not_some other (sym a.none ∙ b))) (λ b. one_repeat plan texts one other a b) (reported plan texts other k))
    (reported plan texts one h)

refused_of : (plan : PlanParts) (texts : List (List ℕ)) (refusal : Refusal) → IsVerdict plan (map Some texts) refusal → IsRefusedBy plan texts refusal
refused_of plan texts refusal v = subst (λ ts. IsRefusedBy plan ts refusal) (same_texts texts v.texts v.given) v.refused

pub one_verdict : (plan : PlanParts) (texts : List (List ℕ)) (one other : Refusal) → IsVerdict plan (map Some texts) one
    → IsVerdict plan (map Some texts) other → one ≡ other
one_verdict plan texts one other a b = verdict_once plan texts one other (refused_of plan texts one a) (refused_of plan texts other b)

-- the verdict does not reject what it accepts
accepted_not_refused : (plan : PlanParts) (texts : List (List ℕ)) (refusal : Refusal) → IsAccepted plan texts → IsRefusedBy plan texts refusal → ⊥
accepted_not_refused plan texts refusal accepted h =
    ⊎_elim (λ a. none_is_not_some refusal (sym accepted.no_fault ∙ a))
    (λ a.
    let f = a.repeats.repeats in
    let d = some_block (model_blocks plan texts) a.repeats.later f.within in
    false≢true (sym (accepted.apart a.repeats.earlier a.repeats.later d f.before f.within) ∙ f.same d))
    (reported plan texts refusal h)

pub not_both : (plan : PlanParts) (texts : List (List ℕ)) (valuers capacity : ℕ) (old new : TextName → SinkState) (g : GatheredView)
    (refusal : Refusal) → IsDone plan (map Some texts) valuers capacity old new g → IsVerdict plan (map Some texts) refusal → ⊥
not_both plan texts valuers capacity old new g refusal done v =
    accepted_not_refused plan texts refusal (subst (λ ts. IsAccepted plan ts) (same_texts texts done.texts done.given) done.accepted)
    (refused_of plan texts refusal v)
