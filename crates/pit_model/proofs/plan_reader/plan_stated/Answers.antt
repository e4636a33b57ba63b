use Rattle.std.proofs.Common.{rules, arith, Err}
use Rattle.csv.specs.Records.{fields_of}
use Rattle.pit_model.specs.Planned.{planned}
use Rattle.plan_parts.specs.Plan.{PlanParts}
use Rattle.pit_units.specs.OrMemory.{Gives}
use Rattle.pit_model.proofs.PlanSteps.{ended, admitted, refused}
use Rattle.pit_model.proofs.plan_reader.plan_stated.Goals as goal

pub loop-draft-preserved : goal.loop-draft-preserved
loop-draft-preserved c =
    let t = rw c.if-branch.true at c.in_ok-next.ensures.takes in (
      admitted _ c.loop-draft.reader (fields_of c.next.new.row) c.next.new.self c.loop-draft.number c.loop-draft.draft c.admit.new.draft
          (planned c.args.text.now) t c.loop-draft.invariant.0 c.in_ok-admit.ensures.admits,
      omega (arith, c.in_ok-admit.ensures.few),
    )

pub returns-in_err-admit : goal.returns-in_err-admit
returns-in_err-admit c =
    let t = rw c.if-branch.true at c.in_ok-next.ensures.takes in
    let fails : Gives {A = PlanParts} (λ plan. plan) (Err c.in_err-admit.field-0.0) (planned c.args.text.now) =
    refused _ c.loop-draft.reader (fields_of c.next.new.row) c.next.new.self c.loop-draft.number c.loop-draft.draft c.admit.new.draft
    c.in_err-admit.field-0.0 (planned c.args.text.now) t c.loop-draft.invariant.0 c.in_err-admit.ensures.admits in
    search rules

pub returns : goal.returns
returns c =
    let t = rw c.if-branch.false at c.in_ok-next.ensures.takes in
    rw (ended _ c.loop-draft.reader (fields_of c.next.new.row) c.next.new.self c.loop-draft.number c.loop-draft.draft
    (planned c.args.text.now) t c.loop-draft.invariant.0) at c.finish.ensures
