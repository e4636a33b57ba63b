-- The results of pitc_thin: it opens zone files, writes the reduced lists of their instance, and prints the counts.
use Rattle.std.specs.Prelude.{◌≡◌, ◌↔◌, ℕ, ◌+◌, ◌⊎◌, List, [], ◌∷◌, ◌++◌, length, sum_by, Option}
use Rattle.devices.specs.feeds.FeedState.{FeedState, all_remaining}
use Rattle.devices.specs.sinks.SinkState.{SinkState, IsWritten, IsCutOff}
use Rattle.fewer_arcs.specs.Reduced.{reduced}
use Rattle.lane.specs.Whole.{GatheredView}
use Rattle.mine_instance.specs.Instance.{Instance}
use Rattle.minelib_writing.specs.Written.{text_prec}
use Rattle.minelib_lines.specs.declared.text_name.TextName.TheVariants.{Prec}
use Rattle.pit_compile.specs.Compiling.{IsNotCompiled}
use Rattle.pit_compile.specs.Settings.{IsSettingsFault}
use Rattle.pit_compile.specs.Starts.{AreStartsOf}
use Rattle.pit_compile.specs.Verdict.{IsAccepted}
use Rattle.pit_compile.specs.ZoneFiles.{AreGiven, HasPassed, instance_from}
use Rattle.refusals.specs.declared.refusal.Refusal.{Refusal}
use Rattle.refusals.specs.declared.refusal.Refusal.TheVariants as refusal
use Rattle.refusals.specs.declared.settings_fault.SettingsFault.{SettingsFault}
use Rattle.command_io.specs.RunState.{Inputs, RunState}
use Rattle.command_io.specs.ZoneFeeds.{AreNotOpened, AreOpened}
use Rattle.command_io.specs.declared.refused.Refused.{Refused}
use Rattle.command_io.specs.declared.refused.Refused.TheVariants.{Run}
use Rattle.run_threads.specs.Refusing.{HasFailed}
use Rattle.run_threads.specs.Starts.{AreSpent}
use Rattle.thin_command.specs.CountsText.{counts_words}
use Rattle.thin_command.specs.declared.counts.ThinCounts.{ThinCounts}

-- the precedence file of an instance with the reduced list of each block
abbrev pub thin_text : Instance → List ℕ
thin_text i = text_prec (record i { preds = reduced i.preds })

-- the numbers of blocks, retained arcs and all arcs
abbrev pub counts_of : Instance → ThinCounts
counts_of i = record { rows = length i.blocks; retained = sum_by length (reduced i.preds); all = sum_by length i.preds }

-- the sink was cut off: it failed, or memory was refused
abbrev pub IsStopped : List ℕ → (old new : SinkState) → Refusal → Type 0
IsStopped text old new why =
    ((why ≡ refusal.SinkFailed Prec) × IsCutOff 1 text old new) ⊎ ((why ≡ refusal.OutOfMemory) × IsCutOff 0 text old new)

-- for these inputs, and the state before and after
module _ (inputs : Inputs) (old new : RunState SinkState) where
  -- the zone files were opened in this order, and no other; they are accepted, they went through a lane of this capacity, and this is
  -- their instance; a thread ran for each valuer and file
  pub record IsRead (i : Instance) : Type 0 where
    pub remainders : List (Option (List ℕ))
    pub texts : List (List ℕ)
    pub opened : AreOpened old.opened new.opened inputs.zones remainders
    pub given : AreGiven remainders texts
    pub accepted : IsAccepted inputs.plan texts
    pub gathered : GatheredView
    pub passed : HasPassed inputs.plan texts inputs.settings.valuers inputs.settings.capacity gathered
    pub instance_is : i ≡ instance_from inputs.plan texts
    pub started : AreSpent (inputs.settings.valuers + length inputs.zones) new.starts

  -- the sink holds the reduced lists
  pub record IsThinned (i : Instance) : Type 0 where
    pub read : IsRead i
    pub written : IsWritten (thin_text i) old.sinks new.sinks

  -- the sink holds the reduced lists, and the line of their counts was appended
  abbrev pub ReportsThinned : (text_old text_new : List ℕ) → Type 0
  ReportsThinned text_old text_new = (i : Instance) × IsThinned i × (text_new ≡ text_old ++ (counts_words (counts_of i) ++ 10 ∷ []))

  -- by the states of feeds
  module _ {F : Type 0} (state : F → FeedState) where
    -- the files were opened in this order, and no other; nothing was compiled of them, because of these settings and destinations or for
    -- a reason of `compile`; the sink is unchanged
    pub record IsRunRefused (why : Refusal) : Type 0 where
      pub feeds : List F
      pub opened : AreOpened old.opened new.opened inputs.zones (all_remaining state feeds)
      pub invalid : (kind : SettingsFault)
          → (why ≡ refusal.Settings kind) ↔ IsSettingsFault inputs.plan (length inputs.zones) inputs.formulas inputs.settings kind
      pub refused : IsNotCompiled inputs.plan (all_remaining state feeds) (HasFailed state feeds) why
      pub starts : AreStartsOf (inputs.settings.valuers + length inputs.zones) old.starts new.starts why
      pub still : new.sinks ≡ old.sinks

    -- some file could not be opened, and neither the sink nor a thread was begun; or the run failed; or the sink was cut off; or it holds
    -- the reduced lists, and memory for the line was refused
    abbrev pub IsNotThinned : Refused → Type 0
    IsNotThinned refused =
        (AreNotOpened old.opened new.opened inputs.zones refused × (new.sinks ≡ old.sinks) × (new.starts ≡ old.starts))
        ⊎ (((why : Refusal) × (refused ≡ Run why) × IsRunRefused why)
        ⊎ (((why : Refusal) × (refused ≡ Run why) × ((i : Instance) × IsRead i × IsStopped (thin_text i) old.sinks new.sinks why))
        ⊎ ((refused ≡ Run refusal.OutOfMemory) × ((i : Instance) × IsThinned i))))
