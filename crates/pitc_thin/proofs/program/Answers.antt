use Rattle.std.proofs.Common.{◌≡◌, ℕ, Option, Result, Ok, Err, IfErr, IfOk, OnErr, inl, inr, map, string_bytes, subst, sym}
use Rattle.std.proofs.lemmas.Result.{IfOk-weaker}
use Rattle.std.specs.Process.{exit_status}
use Rattle.command_io.specs.Ending.{IsDoneOrReported, Prints, Reports}
use Rattle.command_io.specs.World.{OnlyOpens, World}
use Rattle.command_io.specs.declared.ending.Ended.{Ended}
use Rattle.command_io.specs.declared.refused.Refused.{Refused}
use Rattle.devices.specs.sinks.FileSinkView.{FileSinkView}
use Rattle.pitc_thin.specs.Thinning.{DoesArguments, IsNothingDone}
use Rattle.pitc_thin.proofs.program.Goals as goal

-- both facts of a value
both : {A E : Type 0} (a : Result A E) (P Q R : A → Type 0) → ((x : A) → P x → Q x → R x) → IfOk a P → IfOk a Q → IfOk a R
both (Ok x) P Q R f p q = f x p q
both (Err e) P Q R f p q = tt

-- how the program ends, by how its command ended
ends_so : {S : Type 0} (ended : Result (Ended S) Refused) (Done : World → ℕ → Type 0) (Why : World → Refused → Type 0) (Still : World → Type 0)
    (Printed : ℕ → Type 0) (left new : World)
    → IfOk ended (λ e. Done left e.status) → IfErr ended (Why left) → OnErr ended (Still left)
    → IfOk ended (λ _. new ≡ left) → IfOk ended (λ e. Printed e.status)
    → IfErr ended (λ refused. (status : ℕ) × Reports refused left new status × Printed status)
    → (status : ℕ) × IsDoneOrReported (Done new) (λ w refused. Why w refused × Still w) new status × Printed status
ends_so (Ok e) Done Why Still Printed left new done why still same printed reported =
    (e.status, inl (subst (λ w. Done w e.status) (sym same) done), printed)
ends_so (Err refused) Done Why Still Printed left new done why still same printed reported =
    (reported.0, inr (refused, left, (why, still), reported.1), reported.2)

pub returns-clause-done : goal.returns-clause-done
returns-clause-done g c = both c.args.arguments _ _ _ (λ words done undone.
    ends_so c.work-ended.result
    (λ w status. (sink : Option FileSinkView) × DoesArguments g.O.Opened.Feed.state (map string_bytes words.items) sink c.args.world.now w status)
    (λ w refused. IsNothingDone g.O.Opened.Feed.state (map string_bytes words.items) c.args.world.now w refused)
    (OnlyOpens c.args.world.now)
    (λ status. Prints g.P.Sink.state g.E.Sink.state c.end.new.world status c.args.streams.now c.end.new.streams (exit_status c.end.result))
    c.work-ended.new.world c.end.new.world (IfOk-weaker c.work-ended.result _ _ (λ ended does. (ended.sinks, does)) done) undone
    c.work-ended.ensures.still c.end.ensures.kept c.end.ensures.printed c.end.ensures.reported)
    c.work-ended.ensures.done c.work-ended.ensures.undone
