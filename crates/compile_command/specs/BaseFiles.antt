-- A compile to the files of BASE: the states of their sinks, the result, and the errors.
use Rattle.std.specs.Prelude.{◌≡◌, ℕ, Bool, false, List, [], ◌++◌, map, Option, Some, None}
use Rattle.devices.specs.feeds.FeedState.{FeedState}
use Rattle.devices.specs.feeds.FileFeedView.{file_state}
use Rattle.devices.specs.sinks.FileSinkView.{FileSinkView, file_sink_state, unbegun}
use Rattle.devices.specs.sinks.SinkState.{SinkState}
use Rattle.minelib_lines.specs.TextNames.{all_texts, ending_of}
use Rattle.minelib_lines.specs.declared.text_name.TextName.{TextName}
use Rattle.compile_command.specs.Compile.{IsNoCompile, ReportsRows}
use Rattle.pit_compile.specs.Sinks.{sink_states}
use Rattle.refusals.specs.declared.refusal.Refusal.TheVariants.{OutOfMemory}
use Rattle.pit_compile.specs.declared.running.TheConstants.{MAX_STARTS}
use Rattle.pit_compile.specs.declared.sinks.Sinks.{Sinks}
use Rattle.command_io.specs.FilePath.{path_to}
use Rattle.command_io.specs.RunState.{Inputs, run_state}
use Rattle.command_io.specs.World.{World}
use Rattle.command_io.specs.declared.refused.Refused.{Refused}
use Rattle.command_io.specs.declared.refused.Refused.TheVariants.{Run}
use Rattle.run_threads.specs.Starts.{none_spent}

-- the path of this text's file
abbrev pub base_path : List ℕ → TextName → List ℕ
base_path base name = path_to base (ending_of name)

-- the paths of all files of BASE, in the order of writing
abbrev pub base_paths : List ℕ → List (List ℕ)
base_paths base = map (λ name. path_to base (ending_of name)) all_texts

-- the states of the sinks of the files of BASE before they are begun, by whether these files report their content
abbrev pub unbegun_at : Bool → List ℕ → TextName → SinkState
unbegun_at reports base name = file_sink_state (unbegun reports (base_path base name))

-- there is a file at each path of BASE
abbrev pub AreThere : {F : Type 0} → (F → List ℕ) → List ℕ → Type 0
AreThere {F} path base = (name : TextName) → ((file : F) × (path file ≡ base_path base name))

-- for a compile of these inputs to the files of BASE. A slot can create the file at one path, once
module _ (base : List ℕ) (inputs : Inputs) where
  -- exactly one slot was made for each file of BASE, and the line of the rows was appended, for a compile into the sinks of these
  -- slots
  abbrev pub ReportsRowsAt : Option (Sinks FileSinkView) → (old new : World) → Type 0
  ReportsRowsAt None old new = ⊥
  ReportsRowsAt (Some sinks) old new =
      (new.made ≡ old.made ++ base_paths base)
      × ReportsRows inputs (run_state old.opened old.starts (unbegun_at old.reports base))
      (run_state new.opened new.starts (sink_states file_sink_state sinks)) old.text new.text

  -- by the states of feeds
  module _ {F : Type 0} (state : F → FeedState) where
    -- memory for the paths was refused, and nothing else was tried; or exactly the slots were made, and the compile into their
    -- sinks failed
    abbrev pub IsNoCompileAt : Option (Sinks FileSinkView) → (old new : World) → Refused → Type 0
    IsNoCompileAt None old new refused =
        (refused ≡ Run OutOfMemory) × (new.made ≡ old.made) × (new.opened ≡ old.opened) × (new.starts ≡ old.starts)
    IsNoCompileAt (Some sinks) old new refused =
        (new.made ≡ old.made ++ base_paths base)
        × IsNoCompile inputs (run_state old.opened old.starts (unbegun_at old.reports base))
        (run_state new.opened new.starts (sink_states file_sink_state sinks)) state refused

-- a system before a command: no file was requested, no slot was made, and no start was spent
abbrev pub system_world : (text lines : List ℕ) → World
system_world text lines = record { reports = false; opened = []; made = []; starts = none_spent MAX_STARTS; text = text; lines = lines }

-- the line of the rows was appended, for the files of a system
pub record ReportsRowsOfFiles (base : List ℕ) (inputs : Inputs) (text_old text_new : List ℕ) : Type 0 where
  pub lines : List ℕ
  pub new : World
  pub sinks : Option (Sinks FileSinkView)
  pub text : new.text ≡ text_new
  pub reported : ReportsRowsAt base inputs sinks (system_world text_old lines) new

-- why such files are not compiled
pub record IsNoCompileOfFiles (base : List ℕ) (inputs : Inputs) (refused : Refused) : Type 0 where
  pub text : List ℕ
  pub lines : List ℕ
  pub new : World
  pub sinks : Option (Sinks FileSinkView)
  pub why : IsNoCompileAt base inputs file_state sinks (system_world text lines) new refused
