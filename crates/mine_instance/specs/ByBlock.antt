-- The values of all blocks, block after block.
use Rattle.std.specs.Prelude.{ℕ, suc, zero, List, [], ◌∷◌, take, drop}

-- the values of each of n blocks, `width` for each
abbrev pub by_block : {A : Type 0} → ℕ → ℕ → List A → List (List A)
by_block zero width items = []
by_block (suc n) width items = take width items ∷ by_block n width (drop width items)
