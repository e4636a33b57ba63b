-- A compile into sinks for the files of BASE, none of which was begun.
use Rattle.std.proofs.Common.{◌≡◌, ◌∙◌, ◌++◌, ℕ, List, Some, ap, subst}
use Rattle.std.proofs.Math.Path.{fun_ext}
use Rattle.devices.specs.feeds.FeedState.{FeedState}
use Rattle.devices.specs.files.Opening.{Opening}
use Rattle.devices.specs.sinks.FileSinkView.{FileSinkView, HasFile, file_sink_state, unbegun}
use Rattle.minelib_lines.specs.declared.text_name.TextName.{TextName}
use Rattle.compile_command.specs.BaseFiles.{AreThere, IsNoCompileAt, ReportsRowsAt, base_path, base_paths, unbegun_at}
use Rattle.compile_command.specs.Compile.{IsNoCompile, ReportsRows}
use Rattle.pit_compile.specs.Sinks.{sink_of, sink_states}
use Rattle.pit_compile.specs.declared.sinks.Sinks.{Sinks}
use Rattle.command_io.specs.RunState.{Inputs, run_state}
use Rattle.command_io.specs.World.{World}
use Rattle.run_threads.specs.Starts.{StartsView}
use Rattle.command_io.specs.declared.refused.Refused.{Refused}

-- each sink was begun, so its file exists
pub are_there : (base : List ℕ) (inputs : Inputs) (before after : Sinks FileSinkView) {F : Type 0} (path : F → List ℕ)
    (opened_old opened_new : List Opening) (starts_old starts_new : StartsView) (text_old text_new : List ℕ)
    → ((name : TextName) → (sink_of before name).path ≡ base_path base name) → ((name : TextName) → HasFile path (sink_of after name).begun (sink_of after name).path)
    → ReportsRows inputs (run_state opened_old starts_old (sink_states file_sink_state before))
    (run_state opened_new starts_new (sink_states file_sink_state after)) text_old text_new → AreThere path base
are_there base inputs before after path opened_old opened_new starts_old starts_new text_old text_new placed has reported = λ name.
    let text = reported.compiled.done.written name in
    let it = has name text.begun in (it.0, it.1 ∙ text.before ∙ placed name)

module _ (base : List ℕ) (inputs : Inputs) (before after : Sinks FileSinkView) (old new : World)
    (fresh : (name : TextName) → sink_of before name ≡ unbegun old.reports (base_path base name)) (made : new.made ≡ old.made ++ base_paths base) where
  first : sink_states file_sink_state before ≡ unbegun_at old.reports base
  first = fun_ext (λ name. ap file_sink_state (fresh name))

  pub reports_rows : ReportsRows inputs (run_state old.opened old.starts (sink_states file_sink_state before))
      (run_state new.opened new.starts (sink_states file_sink_state after)) old.text new.text → ReportsRowsAt base inputs (Some after) old new
  reports_rows h = (
    made,
    subst (λ sinks. ReportsRows inputs (run_state old.opened old.starts sinks)
        (run_state new.opened new.starts (sink_states file_sink_state after)) old.text new.text) first h,
  )

  pub no_compile : {F : Type 0} (state : F → FeedState) (why : Refused)
      → IsNoCompile inputs (run_state old.opened old.starts (sink_states file_sink_state before))
      (run_state new.opened new.starts (sink_states file_sink_state after)) state why → IsNoCompileAt base inputs state (Some after) old new why
  no_compile state why h = (
    made,
    subst (λ sinks. IsNoCompile inputs (run_state old.opened old.starts sinks)
        (run_state new.opened new.starts (sink_states file_sink_state after)) state why) first h,
  )
