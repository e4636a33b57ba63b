-- The order of coefficients.
use Rattle.std.specs.Prelude.{Bool, ◌==◌, ◌&&◌, ◌||◌, nat_lt}
use Rattle.mine_instance.specs.declared.coefs.coef.Coef.{Coef}

-- by block, then destination, then resource
abbrev pub coef_before : Coef → Coef → Bool
coef_before c e = nat_lt c.b e.b || ((c.b == e.b) && (nat_lt c.d e.d || ((c.d == e.d) && nat_lt c.r e.r)))
