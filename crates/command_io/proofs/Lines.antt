-- The first line of a text, by the place of its LF.
use Rattle.std.proofs.Common.{◌≡◌, ℕ, suc, ◌+◌, ◌<◌, ◌≤◌, ◌==◌, Bool, true, false, List, [], ◌∷◌, length, take, drop, refl, sym, arith, Some, None, position}
use Rattle.std.specs.List.{position_or_len}
use Rattle.std.proofs.lemmas.Option.{cond_some}
use Rattle.std.proofs.lemmas.Bool.Decides.{nat_tests}
use Rattle.std.proofs.lemmas.List.{take_all, drop_all}
use Rattle.command_io.specs.Pieces.{ended_lines}

-- a byte that ends a line
abbrev pub is_feed : ℕ → Bool
is_feed b = b == 10

-- the first n bytes of a text are its first line
abbrev pub BeginsWithLine : List ℕ → ℕ → Type 0
BeginsWithLine text n = ended_lines text ≡ take n text ∷ ended_lines (drop n text)

-- the first line is the bytes up to the first LF, including it
first_line : (b : ℕ) (bs : List ℕ) → BeginsWithLine (b ∷ bs) (suc (position_or_len is_feed (b ∷ bs)))
first_line b [] = alone (b == 10) refl where
  alone : (t : Bool) → (b == 10) ≡ t → BeginsWithLine (b ∷ []) (suc (position_or_len is_feed (b ∷ [])))
  alone true e = rw e
  alone false e = rw e
first_line b (c ∷ cs) = before (b == 10) (first_line c cs) refl where
  before : (t : Bool) → BeginsWithLine (c ∷ cs) (suc (position_or_len is_feed (c ∷ cs))) → (b == 10) ≡ t
      → BeginsWithLine (b ∷ c ∷ cs) (suc (position_or_len is_feed (b ∷ c ∷ cs)))
  before true line e = rw e
  before false line e =
      let n = position_or_len is_feed (c ∷ cs) in
      let next : 1 + n ≡ suc n = omega arith in
      rw (e, next, line)

pub line_to_feed : (text : List ℕ) (place : ℕ) → Some place ≡ position is_feed text → BeginsWithLine text (place + 1)
line_to_feed [] place e = absurd (grind arith)
line_to_feed (b ∷ bs) place e =
    let found = cond_some _ _ _ (sym e) in
    let next : place + 1 ≡ suc (position_or_len is_feed (b ∷ bs)) = omega (arith, found.1) in
    rw next (first_line b bs)

-- a text that is no longer than its first line
whole_line : (text : List ℕ) (n : ℕ) → length text ≤ n → BeginsWithLine text n → BeginsWithLine text (length text)
whole_line text n short line =
    let whole = rw (take_all n text short, drop_all n text short) at line in
    let itself : length text ≤ length text = omega arith in
    rw (take_all (length text) text itself, drop_all (length text) text itself) whole

pub line_to_end : (text : List ℕ) → 0 < length text → None ≡ position is_feed text → BeginsWithLine text (length text)
line_to_end [] some e = absurd (omega arith)
line_to_end (b ∷ bs) some e =
    let none : length (b ∷ bs) ≤ suc (position_or_len is_feed (b ∷ bs)) = grind (arith, nat_tests) in
    whole_line (b ∷ bs) (suc (position_or_len is_feed (b ∷ bs))) none (first_line b bs)
