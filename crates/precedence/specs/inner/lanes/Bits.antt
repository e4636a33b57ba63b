-- Bits of words.
use Rattle.std.specs.Prelude.{ℕ, ◌==◌, Bool}
use Rattle.std.specs.Int.{bit_at}

-- the word has the bit
abbrev pub has_bit : ℕ → ℕ → Bool
has_bit word i = bit_at word i == 1
