-- Zone files that a run borrows: it reads exactly these, and none of their feeds fails.
use Rattle.std.proofs.Common.{◌≡◌, ℕ, zero, suc, true, false, List, [], ◌∷◌, length, map, Option, Some, Result, Ok, Err, refl, ap, ◌∙◌, sym, drop, subst, arith}
use Rattle.std.specs.Prelude.{get_or}
use Rattle.devices.specs.feeds.FeedState.{FeedState}
use Rattle.run_threads.specs.Refusing.{HasFailed}
use Rattle.pit_compile.specs.ZoneFiles.{AreGiven, IsVerdict}
use Rattle.pit_compile.specs.Compiling.{IsNotCompiled}
use Rattle.pit_compile.specs.Settings.{IsSettingsFault}
use Rattle.pit_compile.specs.Verdict.{IsRefusedBy}
use Rattle.refusals.specs.declared.refusal.Refusal.{Refusal}
use Rattle.refusals.specs.declared.refusal.Refusal.TheVariants.{Settings, NoThread, FeedFailed, TooLong, Row, Same, SinkFailed, OutOfMemory}
use Rattle.refusals.specs.declared.settings_fault.SettingsFault.{SettingsFault}
use Rattle.refusals.specs.declared.settings_fault.SettingsFault.TheVariants.{Files}
use Rattle.plan_parts.specs.Plan.{PlanParts}
use Rattle.plan_parts.specs.declared.formulas.formula.Formula.{Formula}
use Rattle.compile_command.specs.Printed.{pipe_settings, PipeRefused}

same_texts : (zones texts : List (List ℕ)) → AreGiven (map Some zones) texts → texts ≡ zones
same_texts [] [] h = refl
same_texts [] (text ∷ texts) h = absurd h
same_texts (zone ∷ zones) [] h = absurd h
same_texts (zone ∷ zones) (text ∷ texts) h = ap (λ t. t ∷ texts) h.0 ∙ ap (λ ts. zone ∷ ts) (same_texts zones texts h.1)

pub given_texts : (remainders : List (Option (List ℕ))) (zones texts : List (List ℕ)) → remainders ≡ map Some zones → AreGiven remainders texts
    → texts ≡ zones
given_texts remainders zones texts e given = same_texts zones texts (subst (λ ls. AreGiven ls texts) e given)

module _ {F : Type 0} (state : F → FeedState) where
  -- if all feeds are sure, none fails
  none_failed : (zones : List (List ℕ)) (feeds : List F) → map (λ feed. (state feed).is_sure) feeds ≡ map (λ _. true) zones → (k : ℕ)
      → HasFailed state feeds k → ⊥
  none_failed zones [] same k h = absurd (let none = h.stands in cc)
  none_failed [] (f ∷ fs) same k h = absurd (let n = ap length same in let z : ⊥ = omega arith in z)
  none_failed (zone ∷ zones) (f ∷ fs) same zero h =
      let is : f ≡ h.feed = cc (h.stands) in
      let sure : (state f).is_sure ≡ true = ap (λ l. get_or l 0 true) same in
      let clash : false ≡ true = sym h.refused.unsure ∙ ap (λ feed. (state feed).is_sure) (sym is) ∙ sure in absurd cc
  none_failed (zone ∷ zones) (f ∷ fs) same (suc k) h =
      none_failed zones fs (ap (drop 1) same) k (record { feed = h.feed; stands = h.stands; refused = h.refused })

  module _ (plan : PlanParts) (formulas : List Formula) (zones : List (List ℕ)) (remainders : List (Option (List ℕ))) (feeds : List F)
      (remaining : remainders ≡ map Some zones) (sure : map (λ feed. (state feed).is_sure) feeds ≡ map (λ _. true) zones) where
    by_verdict : (refusal : Refusal) → IsVerdict plan remainders refusal → IsRefusedBy plan zones refusal
    by_verdict refusal h = subst (λ texts. IsRefusedBy plan texts refusal) (given_texts remainders zones h.texts remaining h.given) h.refused

    pub refused_by : (refusal : Refusal)
        → ((kind : SettingsFault) → refusal ≡ Settings kind → IsSettingsFault plan (length zones) formulas pipe_settings kind)
        → IsNotCompiled plan remainders (HasFailed state feeds) refusal → PipeRefused plan formulas zones refusal
    refused_by (Settings kind) settings h = settings kind refl
    refused_by NoThread settings h = _
    refused_by (FeedFailed file) settings h = none_failed zones feeds sure file h.failed
    refused_by (TooLong file) settings h = by_verdict (TooLong file) h
    refused_by (Row file fault) settings h = by_verdict (Row file fault) h
    refused_by (Same first again) settings h = by_verdict (Same first again) h
    refused_by (SinkFailed which) settings h = h
    refused_by OutOfMemory settings h = _

-- the error of a result, and the settings' fault of an error
abbrev pub refusal_in : {A : Type 0} → Result A Refusal → Refusal
refusal_in (Ok done) = OutOfMemory
refusal_in (Err refusal) = refusal

abbrev pub reported_fault : {A : Type 0} → Result A SettingsFault → SettingsFault
reported_fault (Ok done) = Files
reported_fault (Err fault) = fault

abbrev pub kind_in : Refusal → SettingsFault
kind_in (Settings kind) = kind
kind_in NoThread = Files
kind_in (FeedFailed file) = Files
kind_in (TooLong file) = Files
kind_in (Row file fault) = Files
kind_in (Same first again) = Files
kind_in (SinkFailed which) = Files
kind_in OutOfMemory = Files
