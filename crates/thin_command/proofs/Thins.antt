-- The reasons for a failure: a file could not be opened; or the run on the files failed; or the sink was cut off; or memory for the line
-- of the counts was refused.
use Rattle.std.proofs.Common.{◌≡◌, ◌∙◌, ◌↔◌, ◌+◌, ℕ, List, inl, inr, length, subst, sym}
use Rattle.std.proofs.lemmas.List.{length-map}
use Rattle.devices.specs.feeds.FeedState.{FeedState, all_remaining}
use Rattle.devices.specs.sinks.SinkState.{SinkState, IsWritten}
use Rattle.mine_instance.specs.Instance.{Instance}
use Rattle.pit_compile.specs.Compiling.{IsCompiled, IsNotCompiled}
use Rattle.pit_compile.specs.Settings.{IsSettingsFault}
use Rattle.pit_compile.specs.Starts.{AreStartsOf}
use Rattle.pit_compile.specs.declared.compiling.Compiled.{Compiled}
use Rattle.plan_parts.specs.Plan.{PlanParts}
use Rattle.plan_parts.specs.declared.formulas.formula.Formula.{Formula}
use Rattle.plan_parts.specs.declared.settings.Settings.{Settings as RunSettings}
use Rattle.refusals.specs.declared.refusal.Refusal.{Refusal}
use Rattle.refusals.specs.declared.refusal.Refusal.TheVariants.{OutOfMemory, Settings}
use Rattle.refusals.specs.declared.settings_fault.SettingsFault.{SettingsFault}
use Rattle.command_io.specs.RunState.{Inputs, RunState}
use Rattle.command_io.specs.ZoneFeeds.{AreNotOpened, AreOpened}
use Rattle.command_io.specs.declared.refused.Refused.{Refused}
use Rattle.command_io.specs.declared.refused.Refused.TheVariants.{Run}
use Rattle.run_threads.specs.Refusing.{HasFailed}
use Rattle.run_threads.specs.Starts.{AreSpent}
use Rattle.thin_command.specs.Thin.{IsNotThinned, IsRead, IsStopped, thin_text}

-- the inputs of a run
abbrev pub inputs_of : PlanParts → List Formula → List (List ℕ) → RunSettings → Inputs
inputs_of plan formulas zones settings = record { plan = plan; formulas = formulas; zones = zones; settings = settings }

module _ (inputs : Inputs) (old new : RunState SinkState) where
  module _ {F : Type 0} (state : F → FeedState) where
    -- each zone file has a feed
    as_many : (feeds : List F) → AreOpened old.opened new.opened inputs.zones (all_remaining state feeds) → length feeds ≡ length inputs.zones
    as_many feeds opened = sym (length-map feeds (λ feed. (state feed).remaining)) ∙ opened.each

    -- the instance compiled from the opened files
    pub was_read : (feeds : List F) (c : Compiled) → AreOpened old.opened new.opened inputs.zones (all_remaining state feeds)
        → IsCompiled inputs.plan (all_remaining state feeds) inputs.settings.valuers inputs.settings.capacity c
        → AreSpent (inputs.settings.valuers + length feeds) new.starts → IsRead inputs old new c.instance
    was_read feeds c opened compiled spent = record {
      remainders = all_remaining state feeds;
      texts = compiled.texts;
      opened = opened;
      given = compiled.given;
      accepted = compiled.accepted;
      gathered = c.gathered;
      passed = compiled.passed;
      instance_is = compiled.instance_is;
      started = subst (λ n. AreSpent (inputs.settings.valuers + n) new.starts) (as_many feeds opened) spent;
    }

    pub unopened_files : (why : Refused) → AreNotOpened old.opened new.opened inputs.zones why → new.sinks ≡ old.sinks
        → new.starts ≡ old.starts → IsNotThinned inputs old new state why
    unopened_files why h still unspent = inl (h, still, unspent)

    pub refused_run : (feeds : List F) (refusal : Refusal) (why : Refused)
        → AreOpened old.opened new.opened inputs.zones (all_remaining state feeds) → why ≡ Run refusal
        → ((kind : SettingsFault) → (refusal ≡ Settings kind) ↔ IsSettingsFault inputs.plan (length feeds) inputs.formulas inputs.settings kind)
        → IsNotCompiled inputs.plan (all_remaining state feeds) (HasFailed state feeds) refusal
        → AreStartsOf (inputs.settings.valuers + length feeds) old.starts new.starts refusal → new.sinks ≡ old.sinks
        → IsNotThinned inputs old new state why
    refused_run feeds refusal why opened e invalid refused starts still = inr (inl (
      refusal,
      e,
      record {
        feeds = feeds;
        opened = opened;
        invalid = λ kind. subst (λ n. (refusal ≡ Settings kind) ↔ IsSettingsFault inputs.plan n inputs.formulas inputs.settings kind)
            (as_many feeds opened) (invalid kind);
        refused = refused;
        starts = subst (λ n. AreStartsOf (inputs.settings.valuers + n) old.starts new.starts refusal) (as_many feeds opened) starts;
        still = still;
      },
    ))

    pub cut_off : (i : Instance) (refusal : Refusal) (why : Refused) → why ≡ Run refusal → IsRead inputs old new i
        → IsStopped (thin_text i) old.sinks new.sinks refusal → IsNotThinned inputs old new state why
    cut_off i refusal why e read stopped = inr (inr (inl (refusal, e, (i, read, stopped))))

    pub refused_line : (i : Instance) (why : Refused) → IsRead inputs old new i → IsWritten (thin_text i) old.sinks new.sinks
        → why ≡ Run OutOfMemory → IsNotThinned inputs old new state why
    refused_line i why read written e = inr (inr (inr (e, (i, record { read = read; written = written }))))
