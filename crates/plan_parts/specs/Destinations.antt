-- The formulas of destinations, which are what contracts see of them.
use Rattle.std.specs.Prelude.{List, map}
use Rattle.plan_parts.specs.declared.formulas.destination.Destination.{Destination}
use Rattle.plan_parts.specs.declared.formulas.formula.Formula.{Formula}

-- the formula by which a destination values blocks
abbrev pub formula_of : {I : _} {F : _} {g : _} → Destination I F g → Formula
formula_of d = d.formula

-- the formulas of a list of destinations, in order
abbrev pub formulas_of : {I : _} {F : _} {g : _} → List (Destination I F g) → List Formula
formulas_of destinations = map formula_of destinations
