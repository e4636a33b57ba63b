use Rattle.std.proofs.Common.{rules, inl, map, refl, string_bytes}
use Rattle.std.proofs.lemmas.Result.{IfErr-weaker, IfOk-weaker}
use Rattle.command_lines.specs.CommandLine.{StatesJob}
use Rattle.command_lines.specs.declared.job.Job.TheVariants.{Check, Compile}
use Rattle.pitc.proofs.perform.Goals as goal

pub returns-in-Ok-Compile-clause-done : goal.returns-in-Ok-Compile-clause-done
returns-in-Ok-Compile-clause-done g c =
    let stated : StatesJob (map string_bytes c.args.arguments.now) (Compile c.in-Ok-Compile.run') = search rules in
    IfOk-weaker c.compile.result _ _
    (λ ended ends. inl (Compile c.in-Ok-Compile.run', c.in-Ok-Compile.ensures.accepted, stated, ends)) c.compile.ensures.ends

pub returns-in-Ok-Compile-clause-undone : goal.returns-in-Ok-Compile-clause-undone
returns-in-Ok-Compile-clause-undone g c =
    let stated : StatesJob (map string_bytes c.args.arguments.now) (Compile c.in-Ok-Compile.run') = search rules in
    IfErr-weaker c.compile.result _ _
    (λ refused unread. inl (Compile c.in-Ok-Compile.run', c.in-Ok-Compile.ensures.accepted, stated, unread)) c.compile.ensures.unread

pub returns-in-Ok-Check-clause-done : goal.returns-in-Ok-Check-clause-done
returns-in-Ok-Check-clause-done g c =
    let stated : StatesJob (map string_bytes c.args.arguments.now) (Check c.in-Ok-Check.base) = search rules in
    rw (← c.world.view_is) (inl (
      Check c.in-Ok-Check.base,
      c.in-Ok-Check.ensures.accepted,
      stated,
      (rw c.as_str.ensures.value at c.check-status.ensures.ends, c.check-status.ensures.status, (refl, refl)),
    ))
