-- How contracts see counted rows as lists, and the maximum number of coefficients.
use Rattle.std.specs.Prelude.{ℕ, ◌+◌, ◌*◌, List, map, Option, Some, None}
use Rattle.std.specs.Global.{Vec}
use Rattle.mine_instance.specs.declared.coefs.coef.Coef.{Coef}

-- the items of each row
abbrev pub lists_in : {A : Type 0} → List (Vec A) → List (List A)
lists_in rows = map (λ row. row.items) rows

-- the largest number of coefficients up to one: places rise with the order, and there are at most 256 destinations and 256
-- resources
abbrev pub most_up_to : Option Coef → ℕ
most_up_to None = 0
most_up_to (Some c) = (c.b * 256 + c.d) * 256 + c.r + 1

-- the destination's and the resource's number of the last coefficient
abbrev pub last_d : Option Coef → ℕ
last_d None = 0
last_d (Some c) = c.d

abbrev pub last_r : Option Coef → ℕ
last_r None = 0
last_r (Some c) = c.r
