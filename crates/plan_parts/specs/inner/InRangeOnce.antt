-- There is at most one proof that the numbers of a formula are in range. A destination stores it.
use Rattle.std.specs.Prelude.{List}
use Rattle.std.specs.Coded.{Coded-set, coded_bool, le_prop}
use Rattle.plan_parts.specs.formulas.BandsInvariant.{AreBands}
use Rattle.plan_parts.specs.formulas.Formula.{IsFormulaInRange}
use Rattle.plan_parts.specs.declared.formulas.band.Band.{Band}
use Rattle.plan_parts.specs.declared.formulas.formula.Formula.{Formula}
use Rattle.plan_parts.specs.declared.formulas.formula.Formula.TheVariants as formula

AreBands-prop : (bands : List Band) → IsProp (AreBands bands)
AreBands-prop bands x y = λ i. record {
  count = (le_prop x.count.0 y.count.0 i, le_prop x.count.1 y.count.1 i);
  in_range = λ k d h.
      let a = x.in_range k d h in
      let b = y.in_range k d h in
      (le_prop a.0 b.0 i, le_prop a.1 b.1 i);
  rising = Coded-set coded_bool _ _ x.rising y.rising i;
}

pub IsFormulaInRange-prop : (f : Formula) → IsProp (IsFormulaInRange f)
IsFormulaInRange-prop (formula.Mill recovery price cost) x y = λ i. (le_prop x.0 y.0 i, le_prop x.1 y.1 i, le_prop x.2 y.2 i)
IsFormulaInRange-prop (formula.Leach bands price cost) x y = λ i. (AreBands-prop bands x.0 y.0 i, le_prop x.1 y.1 i, le_prop x.2 y.2 i)
IsFormulaInRange-prop (formula.Dump cost) x y = le_prop x y
