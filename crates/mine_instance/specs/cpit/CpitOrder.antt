-- The order of a CPIT's coefficients.
use Rattle.std.specs.Prelude.{Bool, ◌==◌, ◌&&◌, ◌||◌, nat_lt}
use Rattle.mine_instance.specs.declared.coefs.coef.Coef.{Coef}

-- by block, then resource
abbrev pub cpit_coef_before : Coef → Coef → Bool
cpit_coef_before c e = nat_lt c.b e.b || ((c.b == e.b) && nat_lt c.r e.r)
