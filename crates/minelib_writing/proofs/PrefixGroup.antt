-- The start of a group of coefficients.
use Rattle.std.proofs.Common.{◌≡◌, ℕ, ◌≤◌, ◌∙◌, List, ℤ, length, map, take, ap, sym, arith, length-take}
use Rattle.std.specs.Prelude.{min}
use Rattle.std.proofs.lemmas.List.{take-map, take-take, take_min}
use Rattle.mine_instance.specs.coefs.CoveredPairs.{coef_of}
use Rattle.mine_instance.specs.declared.coefs.coef.Coef.{Coef}

-- the first pairs represent the same number of coefficients
pub prefix_part : (b : ℕ) (v : ℤ) (pairs prefix : List (ℕ × ℕ)) (most : ℕ) (rest : List Coef) → prefix ≡ take most pairs
    → map (coef_of b v) pairs ≡ take (length pairs) rest → map (coef_of b v) prefix ≡ take (length prefix) rest
prefix_part b v pairs prefix most rest is all =
    let count : length prefix ≡ min most (length pairs) = ap length is ∙ length-take most pairs in
    let within : length prefix ≤ length pairs = omega (arith, count) in
    let same : prefix ≡ take (length prefix) pairs = is ∙ sym (take_min most pairs) ∙ ap (λ n. take n pairs) (sym count) in
    ap (map (coef_of b v)) same ∙ sym (take-map (coef_of b v) (length prefix) pairs) ∙ ap (take (length prefix)) all
    ∙ take-take (length prefix) (length pairs) rest within
