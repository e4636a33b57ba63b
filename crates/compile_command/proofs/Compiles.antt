-- Why a compile fails: not all files could be opened; or the run on them failed; or memory was refused for the line of the rows.
use Rattle.std.proofs.Common.{◌≡◌, ◌↔◌, ◌+◌, ℕ, List, Option, inl, inr, length, subst}
use Rattle.devices.specs.feeds.FeedState.{FeedState, all_remaining}
use Rattle.devices.specs.sinks.SinkState.{SinkState}
use Rattle.lane.specs.Whole.{GatheredView}
use Rattle.minelib_lines.specs.declared.text_name.TextName.{TextName}
use Rattle.pit_compile.specs.Run.{IsDone, IsRefused}
use Rattle.pit_compile.specs.Settings.{IsSettingsFault}
use Rattle.refusals.specs.declared.refusal.Refusal.{Refusal}
use Rattle.refusals.specs.declared.refusal.Refusal.TheVariants.{OutOfMemory, Settings}
use Rattle.refusals.specs.declared.settings_fault.SettingsFault.{SettingsFault}
use Rattle.pit_compile.specs.Starts.{AreStartsOf}
use Rattle.run_threads.specs.Refusing.{HasFailed}
use Rattle.run_threads.specs.Starts.{AreSpent}
use Rattle.compile_command.specs.Compile.{IsNoCompile}
use Rattle.command_io.specs.RunState.{Inputs, RunState}
use Rattle.command_io.specs.ZoneFeeds.{AreNotOpened, AreOpened}
use Rattle.command_io.specs.declared.refused.Refused.{Refused}
use Rattle.command_io.specs.declared.refused.Refused.TheVariants.{Run}

module _ (inputs : Inputs) (old new : RunState (TextName → SinkState)) {F : Type 0} (state : F → FeedState) where
  pub unopened_files : (why : Refused) → AreNotOpened old.opened new.opened inputs.zones why → new.sinks ≡ old.sinks
      → new.starts ≡ old.starts → IsNoCompile inputs old new state why
  unopened_files why h still unspent = inl (h, still, unspent)

  pub refused_run : (feeds : List F) (refusal : Refusal) (why : Refused)
      → AreOpened old.opened new.opened inputs.zones (all_remaining state feeds) → why ≡ Run refusal
      → ((kind : SettingsFault)
      → (refusal ≡ Settings kind) ↔ IsSettingsFault inputs.plan (length (all_remaining state feeds)) inputs.formulas inputs.settings kind)
      → IsRefused inputs.plan (all_remaining state feeds) (HasFailed state feeds) old.sinks new.sinks refusal
      → AreStartsOf (inputs.settings.valuers + length (all_remaining state feeds)) old.starts new.starts refusal
      → IsNoCompile inputs old new state why
  refused_run feeds refusal why opened e invalid refused starts = inr (inl (
    refusal,
    e,
    record {
      feeds = feeds;
      opened = opened;
      invalid = λ kind. subst (λ n. (refusal ≡ Settings kind) ↔ IsSettingsFault inputs.plan n inputs.formulas inputs.settings kind) opened.each
          (invalid kind);
      refused = refused;
      starts = subst (λ n. AreStartsOf (inputs.settings.valuers + n) old.starts new.starts refusal) opened.each starts;
    },
  ))

  pub refused_line : (remainders : List (Option (List ℕ))) (gathered : GatheredView) (why : Refused)
      → AreOpened old.opened new.opened inputs.zones remainders
      → IsDone inputs.plan remainders inputs.settings.valuers inputs.settings.capacity old.sinks new.sinks gathered
      → AreSpent (inputs.settings.valuers + length remainders) new.starts → why ≡ Run OutOfMemory
      → IsNoCompile inputs old new state why
  refused_line remainders gathered why opened done spent e = inr (inr (
    e,
    (
      gathered,
      record {
        remainders = remainders;
        opened = opened;
        done = done;
        started = subst (λ n. AreSpent (inputs.settings.valuers + n) new.starts) opened.each spent;
      },
    ),
  ))
