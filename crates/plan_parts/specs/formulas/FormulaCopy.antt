-- Whether copying a formula needs memory.
use Rattle.plan_parts.specs.declared.formulas.formula.Formula.{Formula}
use Rattle.plan_parts.specs.declared.formulas.formula.Formula.TheVariants as formula

-- the formula contains a list, so its copy needs memory
abbrev pub HasBands : Formula → Type 0
HasBands (formula.Leach bands price cost) = Unit {0}
HasBands f = ⊥
