-- Worths written over the first of eight zeros.
use Rattle.std.proofs.Common.{◌≡◌, ◌≤◌, ◌-◌, ◌++◌, ℕ, ℤ, pos, List, length, take, drop, replicate, arith, ap, ◌∙◌, length-append}
use Rattle.std.proofs.Math.Seq.{take-append_seam}
use Rattle.std.proofs.lemmas.List.{drop-replicate, length-replicate}

pub zeros_after : (n : ℕ) → drop n (replicate 8 (pos 0)) ≡ replicate (8 - n) (pos 0)
zeros_after n = drop-replicate n 8 (pos 0)

pub eight_cells : (xs : List ℤ) → length xs ≤ 8 → length (xs ++ drop (length xs) (replicate 8 (pos 0))) ≡ 8
eight_cells xs h =
    let zeros : length (drop (length xs) (replicate 8 (pos 0))) ≡ 8 - length xs =
    ap length (zeros_after (length xs)) ∙ length-replicate (8 - length xs) (pos 0) in
    omega (arith, length-append xs (drop (length xs) (replicate 8 (pos 0))))

pub worths_then_zeros : (xs : List ℤ) →
    xs ++ drop (length xs) (replicate 8 (pos 0))
    ≡ take (length xs) (xs ++ drop (length xs) (replicate 8 (pos 0))) ++ replicate (8 - length xs) (pos 0)
worths_then_zeros xs = rw (take-append_seam xs, zeros_after (length xs))
