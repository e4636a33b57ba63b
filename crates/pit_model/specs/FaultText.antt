-- The text of a plan's fault.
use Rattle.std.specs.Prelude.{ℕ, List, ◌++◌, codes, decimal}
use Rattle.pit_model.specs.declared.plan_fault.PlanFault.{PlanFault}
use Rattle.pit_model.specs.declared.plan_fault.PlanFaultKind.{PlanFaultKind}
use Rattle.pit_model.specs.declared.plan_fault.PlanFaultKind.TheVariants as kind

abbrev pub plan_kind_name : PlanFaultKind → List ℕ
plan_kind_name kind.Key = codes "Key"
plan_kind_name kind.Width = codes "Width"
plan_kind_name kind.Number = codes "Number"
plan_kind_name kind.TooFine = codes "TooFine"
plan_kind_name kind.Range = codes "Range"
plan_kind_name kind.Name = codes "Name"
plan_kind_name kind.Twice = codes "Twice"
plan_kind_name kind.Order = codes "Order"
plan_kind_name kind.TooMany = codes "TooMany"
plan_kind_name kind.Missing = codes "Missing"

-- `plan row N: K`
abbrev pub plan_fault_text : PlanFault → List ℕ
plan_fault_text fault = codes "plan row " ++ (decimal fault.row ++ (codes ": " ++ plan_kind_name fault.kind))
