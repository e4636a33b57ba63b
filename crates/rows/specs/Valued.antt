-- The worths of blocks by the formulas of a plan, and rows with these worths.
use Rattle.std.specs.Prelude.{ℕ, List, ℤ, map}
use Rattle.plan_parts.specs.formulas.Worth.{worth}
use Rattle.plan_parts.specs.declared.block.Block.{Block}
use Rattle.plan_parts.specs.declared.formulas.formula.Formula.{Formula}
use Rattle.rows.specs.declared.item.Valued.{Valued}

-- the worths of a block by these formulas, in their order
abbrev pub worths_by : List Formula → Block → List ℤ
worths_by formulas b = map (λ f. worth f b) formulas

-- a row of a file with its worths
abbrev pub row_by : List Formula → ℕ → ℕ → Block → Valued
row_by formulas file place b = record { file = file; place = place; block = b; worths = worths_by formulas b }
