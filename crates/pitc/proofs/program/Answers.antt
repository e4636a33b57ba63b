use Rattle.std.proofs.Common.{◌≡◌, ℕ, Option, Result, Ok, Err, IfErr, IfOk, OnErr, inl, inr, map, string_bytes, subst, sym}
use Rattle.std.proofs.lemmas.Result.{IfOk-weaker, on_err_weaker}
use Rattle.std.specs.Process.{exit_status}
use Rattle.command_io.specs.Ending.{Exits, IsDoneOrReported, Prints, Reports}
use Rattle.command_io.specs.World.{CommandEnds, OnlyOpens, World}
use Rattle.command_io.specs.declared.ending.Ended.{Ended}
use Rattle.command_io.specs.declared.ending.Streams.{Streams}
use Rattle.command_io.specs.declared.refused.Refused.{Refused}
use Rattle.compile_command.specs.Printed.{IsNoInput, IsNotPrinted, PrintsInput}
use Rattle.compile_command.specs.Task.{TouchesNoFile}
use Rattle.devices.specs.feeds.FeedState.{FeedState}
use Rattle.devices.specs.sinks.FileSinkView.{FileSinkView}
use Rattle.devices.specs.sinks.SinkState.{SinkState}
use Rattle.pit_compile.specs.declared.sinks.Sinks.{Sinks}
use Rattle.pitc.specs.Jobs.{DoesArguments, IsNothingDone, Pipes}
use Rattle.pitc.proofs.program.Goals as goal

-- both facts of a value
both : {A E : Type 0} (a : Result A E) (P Q R : A → Type 0) → ((x : A) → P x → Q x → R x) → IfOk a P → IfOk a Q → IfOk a R
both (Ok x) P Q R f p q = f x p q
both (Err e) P Q R f p q = tt

-- all three facts of a value
all_three : {A E : Type 0} (a : Result A E) (P Q R S : A → Type 0) → ((x : A) → P x → Q x → R x → S x) → IfOk a P → IfOk a Q → IfOk a R
    → IfOk a S
all_three (Ok x) P Q R S f p q r = f x p q r
all_three (Err e) P Q R S f p q r = tt

-- how the program ends, by how its command ended
ends_so : {S : Type 0} (ended : Result (Ended S) Refused) (Done : World → ℕ → Type 0) (Why : World → Refused → Type 0) (Still : World → Type 0)
    (Printed : ℕ → Type 0) (left new : World)
    → IfOk ended (λ e. Done left e.status) → IfErr ended (Why left) → OnErr ended (Still left)
    → IfOk ended (λ _. new ≡ left) → IfOk ended (λ e. Printed e.status)
    → IfErr ended (λ refused. (status : ℕ) × Reports refused left new status × Printed status)
    → (status : ℕ) × IsDoneOrReported (Done new) (λ w refused. Why w refused × Still w) new status × Printed status
ends_so (Ok e) Done Why Still Printed left new done why still same printed reported =
    (e.status, inl (subst (λ w. Done w e.status) (sym same) done), printed)
ends_so (Err refused) Done Why Still Printed left new done why still same printed reported =
    (reported.0, inr (refused, left, (why, still), reported.1), reported.2)

-- the same for the pipe form
piped_so : {S P E : Type 0} (output : P → SinkState) (errors : E → SinkState) (ended : Result (Ended S) Refused) (first last : FeedState)
    (old left new : World) (before after : Streams P E) (exit : ℕ)
    → IfOk ended (λ e. CommandEnds (PrintsInput first last) (IsNotPrinted first last) old left e.status) → IfErr ended (IsNoInput first last)
    → OnErr ended (OnlyOpens old left) → TouchesNoFile old left
    → IfOk ended (λ _. new ≡ left) → IfOk ended (λ e. Prints output errors new e.status before after exit)
    → IfErr ended (λ refused. Exits output errors (Reports refused left new) new before after exit)
    → Exits output errors (Pipes first last old new) new before after exit
piped_so output errors (Ok e) first last old left new before after exit done why still none same printed reported = (
  e.status,
  inl (subst (λ w. CommandEnds (PrintsInput first last) (IsNotPrinted first last) old w e.status × TouchesNoFile old w) (sym same) (done, none)),
  printed,
)
piped_so output errors (Err refused) first last old left new before after exit done why still none same printed reported =
    (reported.0, inr (refused, left, (why, still, none), reported.1), reported.2)

pub returns-clause-piped : goal.returns-clause-piped
returns-clause-piped g c =
    let first = g.I.Feed.state c.args.input.now in
    let last = g.I.Feed.state c.work-ended.new.input in
    let old = c.args.world.now in
    let new = c.end.new.world in
    all_three c.args.arguments _ _ _ _ (λ words printed unread unasked few.
    piped_so g.P.Sink.state g.E.Sink.state c.work-ended.result first last old c.work-ended.new.world new c.args.streams.now c.end.new.streams
    (exit_status c.end.result) (printed few) (unread few) c.work-ended.ensures.still (unasked few) c.end.ensures.kept c.end.ensures.printed
    c.end.ensures.reported)
    c.work-ended.ensures.printed c.work-ended.ensures.unread c.work-ended.ensures.unasked

pub returns-clause-done : goal.returns-clause-done
returns-clause-done g c = both c.args.arguments _ _ _ (λ words done undone many.
    ends_so c.work-ended.result
    (λ w status. (sinks : Option (Sinks FileSinkView)) × DoesArguments g.O.Opened.Feed.state g.O.File.AtPath.path (map string_bytes words.items) sinks c.args.world.now w status)
    (λ w refused. IsNothingDone g.O.Opened.Feed.state (map string_bytes words.items) c.args.world.now w refused)
    (OnlyOpens c.args.world.now)
    (λ status. Prints g.P.Sink.state g.E.Sink.state c.end.new.world status c.args.streams.now c.end.new.streams (exit_status c.end.result))
    c.work-ended.new.world c.end.new.world (IfOk-weaker c.work-ended.result _ _ (λ ended does. (ended.sinks, does)) (done many)) (undone many)
    c.work-ended.ensures.still c.end.ensures.kept c.end.ensures.printed c.end.ensures.reported)
    c.work-ended.ensures.done c.work-ended.ensures.undone
