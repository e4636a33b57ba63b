-- The orders of coefficients, limits and numbers are transitive.
use Rattle.std.specs.Prelude.{IsTrue}
use Rattle.std.proofs.Common.{ℕ, arith, nat_lt}
use Rattle.std.proofs.lemmas.Bool.Decides.{nat_tests}
use Rattle.plan_parts.specs.PlanInvariant.{stands_before}
use Rattle.plan_parts.specs.declared.limit.Limit.{Limit}
use Rattle.mine_instance.specs.Order.{coef_before}
use Rattle.mine_instance.specs.declared.coefs.coef.Coef.{Coef}

pub coef_before_is_transitive : (x y z : Coef) → IsTrue (coef_before x y) → IsTrue (coef_before y z) → IsTrue (coef_before x z)
coef_before_is_transitive x y z h k = grind (arith, nat_tests)

pub stands_before_is_transitive : (x y z : Limit) → IsTrue (stands_before x y) → IsTrue (stands_before y z) → IsTrue (stands_before x z)
stands_before_is_transitive x y z h k = grind (arith, nat_tests)

pub less_is_transitive : (x y z : ℕ) → IsTrue (nat_lt x y) → IsTrue (nat_lt y z) → IsTrue (nat_lt x z)
less_is_transitive x y z h k = grind (arith, nat_tests)
