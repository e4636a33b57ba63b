-- The coefficients of a group: coefficients of one block with the same tonnes.
use Rattle.std.specs.Prelude.{ℕ, List, map}
use Rattle.mine_instance.specs.coefs.CoveredPairs.{coef_of}
use Rattle.mine_instance.specs.declared.coefs.coef.Coef.{Coef}
use Rattle.mine_instance.specs.declared.coefs.group.CoefGroup.{CoefGroup}
use Rattle.mine_instance.specs.declared.coefs.group.Pairs.{Pairs}
use Rattle.mine_instance.specs.declared.coefs.group.Pairs.TheVariants.{Covered, One}

-- the destination and the resource of each coefficient
abbrev pub pairs_of : Pairs → List (ℕ × ℕ)
pairs_of (Covered pairs) = pairs.now
pairs_of (One pair) = pair

-- the coefficients of a group
abbrev pub coefs_in : CoefGroup → List Coef
coefs_in group = map (coef_of group.b group.v) (pairs_of group.pairs)
