-- The start of a text: digits, or a decimal.
use Rattle.std.specs.Prelude.{◌≡◌, ℕ, ◌<◌, ◌≤◌, ◌==◌, List, [], ◌∷◌, ◌++◌, length, drop, min, ℤ, Ok, if◌then◌else◌}
use Rattle.std.specs.Char.{is_ascii_digit}
use Rattle.std.specs.List.{All, prefix_len}
use Rattle.std.specs.Str.Parse.{starts_with_minus}
use Rattle.pit_units.specs.Decimal.{decimal_of}
use Rattle.pit_units.specs.Shortest.{IsPlainByte}

-- the text begins with a decimal of m millionths, with at most `max` decimals and only digits, a point and a minus, followed by the
-- remainder
pub record BeginsWith (max : ℕ) (text : List ℕ) (m : ℤ) (rest : List ℕ) : Type 0 where
  pub prefix : List ℕ
  pub joined : text ≡ prefix ++ rest
  pub some : 0 < length prefix
  pub bytes : All IsPlainByte prefix
  pub stated : decimal_of max prefix ≡ Ok m

-- the number of digits that a text begins with
abbrev pub digits_ahead : List ℕ → ℕ
digits_ahead text = prefix_len is_ascii_digit text

-- the text without the minus that it may begin with
abbrev pub past_minus : List ℕ → List ℕ
past_minus text = if starts_with_minus text then drop 1 text else text

-- the text after the point that it begins with, or nothing
abbrev pub past_point : List ℕ → List ℕ
past_point [] = []
past_point (c ∷ text) = if c == 46 then text else []

-- the text after the digits that it begins with, at most 18 of them
abbrev pub past_digits : List ℕ → List ℕ
past_digits text = drop (min 18 (digits_ahead text)) text

-- the text after the point that it begins with and the digits after it, or the complete text
abbrev pub past_fraction : List ℕ → List ℕ
past_fraction [] = []
past_fraction (c ∷ text) = if c == 46 then past_digits text else c ∷ text

-- the text begins in the usual form, without a minus: 1 to 12 digits, and at most `max` digits after a point
pub record IsUsual (max : ℕ) (text : List ℕ) : Type 0 where
  pub some : 0 < digits_ahead text
  pub few : digits_ahead text ≤ 12
  pub coarse : digits_ahead (past_point (drop (digits_ahead text) text)) ≤ max
