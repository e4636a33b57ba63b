-- The bytes that a sink took, before and after it took more. A sink that reports no bytes reports none later.
use Rattle.std.specs.Prelude.{◌≡◌, List, ℕ, ◌++◌, Option, option_map}

-- the taken bytes, followed by these
abbrev pub added : List ℕ → Option (List ℕ) → Option (List ℕ)
added more taken = option_map (λ bytes. bytes ++ more) taken

-- these bytes alone, whatever was taken
abbrev pub holding : List ℕ → Option (List ℕ) → Option (List ℕ)
holding text taken = option_map (λ _. text) taken

-- the bytes taken now are a prefix of all the bytes
pub record IsTakenPrefix (now whole : Option (List ℕ)) : Type 0 where
  pub rest : List ℕ
  pub joined : whole ≡ added rest now
