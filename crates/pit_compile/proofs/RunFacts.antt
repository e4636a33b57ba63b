-- What the two halves of a run say of it.
use Rattle.std.proofs.Common.{◌≡◌, ℕ, inl, inr, refl, List, Option, subst}
use Rattle.plan_parts.specs.Plan.{PlanParts}
use Rattle.pit_compile.specs.Compiling.{IsCompiled, IsNotCompiled}
use Rattle.pit_compile.specs.Run.{IsRefused}
use Rattle.pit_compile.specs.SinkAnswers.{AreCutOff}
use Rattle.pit_compile.specs.Sinks.{AreCutOffAt}
use Rattle.devices.specs.sinks.SinkState.{SinkState}
use Rattle.minelib_lines.specs.declared.text_name.TextName.{TextName}
use Rattle.mine_instance.specs.Instance.{Instance}
use Rattle.pit_compile.specs.declared.compiling.Compiled.{Compiled}
use Rattle.refusals.specs.declared.refusal.Refusal.{Refusal}
use Rattle.refusals.specs.declared.refusal.Refusal.TheVariants.{Settings, NoThread, FeedFailed, TooLong, Row, Same, SinkFailed, OutOfMemory}
use Rattle.refusals.specs.declared.settings_fault.SettingsFault.{SettingsFault}

-- a run that is refused before it writes
pub not_compiled : (plan : PlanParts) (remainders : List (Option (List ℕ))) (Failed : ℕ → Type 0) (states : TextName → SinkState) (refusal : Refusal)
    → IsNotCompiled plan remainders Failed refusal → IsRefused plan remainders Failed states states refusal
not_compiled plan remainders Failed states (Settings kind) h = refl
not_compiled plan remainders Failed states NoThread h = refl
not_compiled plan remainders Failed states (FeedFailed file) h = (h, refl)
not_compiled plan remainders Failed states (TooLong file) h = (h, refl)
not_compiled plan remainders Failed states (Row file fault) h = (h, refl)
not_compiled plan remainders Failed states (Same first again) h = (h, refl)
not_compiled plan remainders Failed states (SinkFailed which) h = absurd h
not_compiled plan remainders Failed states OutOfMemory h = inl refl

-- a run that is refused in writing
pub cut_off : (plan : PlanParts) (remainders : List (Option (List ℕ))) (Failed : ℕ → Type 0) (valuers capacity : ℕ) (old new : TextName → SinkState)
    (c : Compiled) (refusal : Refusal)
    → IsCompiled plan remainders valuers capacity c → AreCutOff c.instance old new refusal → IsRefused plan remainders Failed old new refusal
cut_off plan remainders Failed valuers capacity old new c (SinkFailed which) h k =
    let cut_is = subst (λ (i : Instance). AreCutOffAt which 1 i old new) h.instance_is k in
    record { texts = h.texts; given = h.given; accepted = h.accepted; cut = cut_is }
cut_off plan remainders Failed valuers capacity old new c OutOfMemory h k =
    let cut_is = subst (λ (i : Instance). AreCutOffAt (k.0) 0 i old new) h.instance_is (k.1) in
    inr (k.0, record { texts = h.texts; given = h.given; accepted = h.accepted; cut = cut_is })
cut_off plan remainders Failed valuers capacity old new c other h k = absurd k

-- and it is not refused for its settings
pub cut_is_not_settings : (i : Instance) (old new : TextName → SinkState) (refusal : Refusal) (kind : SettingsFault)
    → AreCutOff i old new refusal → refusal ≡ Settings kind → ⊥
cut_is_not_settings i old new (Settings other) kind k e = absurd k
cut_is_not_settings i old new other kind k e = cc
