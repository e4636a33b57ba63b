-- A compile: it opens zone files, runs on them into its sinks, and appends the line of the rows.
use Rattle.std.specs.Prelude.{◌≡◌, ◌↔◌, ℕ, ◌+◌, ◌⊎◌, List, [], ◌∷◌, ◌++◌, codes, length, Option}
use Rattle.std.specs.Fmt.{decimal}
use Rattle.std.specs.List.{sum_by}
use Rattle.devices.specs.feeds.FeedState.{FeedState, all_remaining}
use Rattle.devices.specs.sinks.SinkState.{SinkState}
use Rattle.lane.specs.MessageKinds.{row_count}
use Rattle.lane.specs.Whole.{GatheredView}
use Rattle.minelib_lines.specs.declared.text_name.TextName.{TextName}
use Rattle.pit_compile.specs.Run.{IsDone, IsRefused}
use Rattle.pit_compile.specs.Settings.{IsSettingsFault}
use Rattle.refusals.specs.declared.refusal.Refusal.{Refusal}
use Rattle.refusals.specs.declared.refusal.Refusal.TheVariants as refusal
use Rattle.refusals.specs.declared.settings_fault.SettingsFault.{SettingsFault}
use Rattle.command_io.specs.RunState.{Inputs, RunState}
use Rattle.command_io.specs.ZoneFeeds.{AreNotOpened, AreOpened}
use Rattle.command_io.specs.declared.refused.Refused.{Refused}
use Rattle.command_io.specs.declared.refused.Refused.TheVariants.{Run}
use Rattle.pit_compile.specs.Starts.{AreStartsOf}
use Rattle.run_threads.specs.Refusing.{HasFailed}
use Rattle.run_threads.specs.Starts.{AreSpent}

-- the line with this number of rows
abbrev pub rows_line : ℕ → List ℕ
rows_line rows = codes "rows " ++ (decimal rows ++ 10 ∷ [])

-- for these inputs, and the state before and after
module _ (inputs : Inputs) (old new : RunState (TextName → SinkState)) where
  -- exactly the zone files were opened, in this order, and the run on them into the sinks is complete, with a thread for each valuer
  -- and file
  pub record IsCompiled (gathered : GatheredView) : Type 0 where
    pub remainders : List (Option (List ℕ))
    pub opened : AreOpened old.opened new.opened inputs.zones remainders
    pub done : IsDone inputs.plan remainders inputs.settings.valuers inputs.settings.capacity old.sinks new.sinks gathered
    pub started : AreSpent (inputs.settings.valuers + length inputs.zones) new.starts

  -- the same, and the line of its rows was appended
  pub record ReportsRows (text_old text_new : List ℕ) : Type 0 where
    pub gathered : GatheredView
    pub compiled : IsCompiled gathered
    pub appended : text_new ≡ text_old ++ rows_line (sum_by row_count gathered.sent)

  -- by the states of feeds
  module _ {F : Type 0} (state : F → FeedState) where
    -- exactly the files were opened, in this order, and the run on their feeds failed: by these settings and destinations, or as
    -- runs fail
    pub record IsRunRefused (why : Refusal) : Type 0 where
      pub feeds : List F
      pub opened : AreOpened old.opened new.opened inputs.zones (all_remaining state feeds)
      pub invalid : (kind : SettingsFault)
          → (why ≡ refusal.Settings kind) ↔ IsSettingsFault inputs.plan (length inputs.zones) inputs.formulas inputs.settings kind
      pub refused : IsRefused inputs.plan (all_remaining state feeds) (HasFailed state feeds) old.sinks new.sinks why
      pub starts : AreStartsOf (inputs.settings.valuers + length inputs.zones) old.starts new.starts why

    -- not all files could be opened, and neither sinks nor threads were begun; or the run failed; or it is complete, and memory for
    -- its line was refused
    abbrev pub IsNoCompile : Refused → Type 0
    IsNoCompile refused =
        (AreNotOpened old.opened new.opened inputs.zones refused × (new.sinks ≡ old.sinks) × (new.starts ≡ old.starts))
        ⊎ (((why : Refusal) × (refused ≡ Run why) × IsRunRefused why)
        ⊎ ((refused ≡ Run refusal.OutOfMemory) × ((gathered : GatheredView) × IsCompiled gathered)))
