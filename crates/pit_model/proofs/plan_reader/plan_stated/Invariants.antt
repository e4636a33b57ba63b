use Rattle.std.proofs.Common.{◌≤◌}
use Rattle.pit_model.specs.Planned.{planned}
use Rattle.records.specs.RecordReader.{rows_ahead}
use Rattle.pit_model.proofs.PlanSteps.{Leads}
use Rattle.pit_model.proofs.plan_reader.plan_stated.Given as goal

abbrev pub invariant-loop-draft : goal.invariant-loop-draft
invariant-loop-draft l = Leads l.reader l.number l.draft (planned l.fn.text) × (l.number ≤ 10001)

abbrev pub decreases-loop-draft : goal.decreases-loop-draft
decreases-loop-draft l = rows_ahead l.reader
