-- The ranges of a formula's numbers.
use Rattle.std.specs.Prelude.{◌≤◌}
use Rattle.plan_parts.specs.formulas.BandsInvariant.{AreBands}
use Rattle.plan_parts.specs.declared.formulas.formula.Formula.{Formula}
use Rattle.plan_parts.specs.declared.formulas.formula.Formula.TheVariants as formula
use Rattle.plan_parts.specs.declared.ranges.TheConstants.{MAX_COST, MAX_PRICE, MAX_RECOVERY}

-- the numbers of a formula are in range
abbrev pub IsFormulaInRange : Formula → Type 0
IsFormulaInRange (formula.Mill recovery price cost) =
    (recovery ≤ MAX_RECOVERY) × (price ≤ MAX_PRICE) × (cost ≤ MAX_COST)
IsFormulaInRange (formula.Leach bands price cost) = AreBands bands × (price ≤ MAX_PRICE) × (cost ≤ MAX_COST)
IsFormulaInRange (formula.Dump cost) = cost ≤ MAX_COST
