-- The number that a decimal text denotes, and the text of a number. Numbers are counted in millionths.
use Rattle.std.specs.Prelude.{ℕ, suc, ◌+◌, ◌*◌, ◌/◌, ◌%◌, ◌-◌, ◌^◌, Bool, not, ◌&&◌, List, [], ◌∷◌, ◌++◌, length, map, take, drop, replicate, ℤ, pos, negsuc, neg_ℤ, int_le, if◌then◌else◌, nat_lt, ◌==◌, Ok, Err, Result}
use Rattle.std.specs.Char.{is_ascii_digit}
use Rattle.std.specs.Fmt.{decimal}
use Rattle.std.specs.List.{list_all, before_first, after_first, suffix_len}
use Rattle.std.specs.Str.Parse.{digits_value, starts_with_minus, without_leading_sign}
use Rattle.pit_units.specs.declared.decimal.TheConstants.{MAX_MILLIONTHS}
use Rattle.pit_units.specs.declared.fault.DecFault.{DecFault}
use Rattle.pit_units.specs.declared.fault.DecFault.TheVariants.{Number, TooFine, Range}

-- decimal digits only, or nothing
abbrev pub all_digits : List ℕ → Bool
all_digits bytes = list_all is_ascii_digit bytes

-- the character `0` only, or nothing
abbrev pub all_zeros : List ℕ → Bool
all_zeros bytes = list_all (λ c. c == 48) bytes

-- the text before the first point, without one sign
abbrev pub whole_of : List ℕ → List ℕ
whole_of text = before_first (λ c. c == 46) (without_leading_sign text)

-- the text after the first point
abbrev pub fraction_of : List ℕ → List ℕ
fraction_of text = after_first (λ c. c == 46) (without_leading_sign text)

-- the text has only digits, except for one sign and one point, with at least one digit
abbrev pub is_number : List ℕ → Bool
is_number text = all_digits (whole_of text) && all_digits (fraction_of text) && not (length (whole_of text) + length (fraction_of text) == 0)

-- the first six decimals, with zeros for the missing ones
abbrev pub six_decimals : List ℕ → List ℕ
six_decimals fraction = take 6 (fraction ++ replicate 6 48)

-- the number of millionths of digits before and after a point
abbrev pub size_of : List ℕ → List ℕ → ℕ
size_of whole fraction = digits_value 10 whole * 10 ^ 6 + digits_value 10 (six_decimals fraction)

-- n below zero or above it
abbrev pub signed : Bool → ℕ → ℤ
signed below n = if below then neg_ℤ (pos n) else pos n

-- the millionths of a text with at most `max` decimals (further ones are zeros), or the first error
unfoldable pub decimal_of : ℕ → List ℕ → Result ℤ DecFault
decimal_of max text =
    let size = size_of (whole_of text) (fraction_of text) in
    if not (is_number text) then Err Number
    else (if not (all_zeros (drop max (fraction_of text))) then Err TooFine
    else (if nat_lt MAX_MILLIONTHS size then Err Range
    else Ok (signed (starts_with_minus text) size)))

-- a number from the lowest to the highest millionths, or the error that it is out of this range
abbrev pub within_bounds : ℤ → ℤ → Result ℤ DecFault → Result ℤ DecFault
within_bounds low high (Ok m) = if int_le low m && int_le m high then Ok m else Err Range
within_bounds low high (Err fault) = Err fault

-- the millionths of a text, from the lowest to the highest, or the first error
unfoldable pub decimal_within : ℕ → ℤ → ℤ → List ℕ → Result ℤ DecFault
decimal_within max low high text = within_bounds low high (decimal_of max text)

-- the six decimals of n millionths
abbrev pub six_digits : ℕ → List ℕ
six_digits n = map (λ place. 48 + n / place % 10) (100000 ∷ 10000 ∷ 1000 ∷ 100 ∷ 10 ∷ 1 ∷ [])

-- the digits without the zeros at their end
abbrev pub without_end_zeros : List ℕ → List ℕ
without_end_zeros digits = take (length digits - suffix_len (λ c. c == 48) digits) digits

-- a point and the decimals of n millionths, or nothing if they are zero
abbrev pub fraction_text : ℕ → List ℕ
fraction_text n = if n == 0 then [] else 46 ∷ without_end_zeros (six_digits n)

-- the shortest text of n millionths
abbrev pub size_text : ℕ → List ℕ
size_text n = decimal (n / 10 ^ 6) ++ fraction_text (n % 10 ^ 6)

-- the shortest text of this number of millionths
unfoldable pub shortest : ℤ → List ℕ
shortest (pos n) = size_text n
shortest (negsuc n) = 45 ∷ size_text (suc n)
