-- A text made of the parts of a decimal is split into these parts again.
use Rattle.std.specs.Prelude.{◌≡◌, ◌≢◌, ℕ, ◌+◌, ◌<◌, Bool, true, false, not, ◌⊎◌, List, [], ◌∷◌, ◌++◌, length, get_or, drop, Result, Ok, Err, ◌==◌, nat_lt, if◌then◌else◌, ◌^◌, ℤ}
use Rattle.std.proofs.Common.{arith, refl, ap, ◌∙◌, inl, inr, append-nil}
use Rattle.std.proofs.Math.Seq.{drop-append-add}
use Rattle.std.proofs.lemmas.Bool.{and_parts}
use Rattle.std.proofs.lemmas.Bool.Decides.{nat_tests}
use Rattle.std.proofs.lemmas.List.{take_at, take_all, drop_all}
use Rattle.std.proofs.lemmas.Bool.{ne_eqb}
use Rattle.std.specs.Char.{is_ascii_digit}
use Rattle.std.specs.Int.{IsInRange}
use Rattle.std.specs.List.{position_or_len}
use Rattle.std.specs.Str.Parse.{starts_with_minus, without_leading_sign}
use Rattle.pit_units.specs.Decimal.{all_digits, all_zeros, whole_of, fraction_of, size_of, signed, decimal_of}
use Rattle.pit_units.specs.StandsFor.{IsDecimalText}
use Rattle.pit_units.specs.declared.fault.DecFault.{DecFault}
use Rattle.pit_units.specs.declared.fault.DecFault.TheVariants.{TooFine, Range}

pub digit_range : (c : ℕ) → is_ascii_digit c ≡ true → IsInRange 48 57 c
digit_range c h = grind (arith, nat_tests)

abbrev is_point : ℕ → Bool
is_point c = c == 46

not_point : (c : ℕ) → is_ascii_digit c ≡ true → (c == 46) ≡ false
not_point c h = ne_eqb c 46 (λ e. omega (arith, digit_range c h))

-- the first point follows the digits
point_after : (whole rest : List ℕ) → all_digits whole ≡ true → position_or_len is_point (whole ++ 46 ∷ rest) ≡ length whole
point_after [] rest h = refl
point_after (c ∷ cs) rest h =
    let parts = and_parts (is_ascii_digit c) (all_digits cs) h in
    rw (not_point c parts.0) (omega (arith, point_after cs rest parts.1))

-- digits have no point
point_nowhere : (whole : List ℕ) → all_digits whole ≡ true → position_or_len is_point whole ≡ length whole
point_nowhere [] h = refl
point_nowhere (c ∷ cs) h =
    let parts = and_parts (is_ascii_digit c) (all_digits cs) h in
    rw (not_point c parts.0) (omega (arith, point_nowhere cs parts.1))

-- a text without a sign at its start is unchanged
unsigned_stays : (body : List ℕ) → get_or body 0 0 ≢ 45 → get_or body 0 0 ≢ 43 → (without_leading_sign body ≡ body)
    × (starts_with_minus body ≡ false)
unsigned_stays body minus plus = (rw (ne_eqb (get_or body 0 0) 45 minus, ne_eqb (get_or body 0 0) 43 plus), ne_eqb _ _ minus)

-- the sign is removed
sign_falls : (sign body : List ℕ) → (sign ≡ []) ⊎ ((sign ≡ 43 ∷ []) ⊎ (sign ≡ 45 ∷ [])) → get_or body 0 0 ≢ 45 → get_or body 0 0 ≢ 43
    → (without_leading_sign (sign ++ body) ≡ body) × (starts_with_minus (sign ++ body) ≡ starts_with_minus sign)
sign_falls sign body (inl e) minus plus = rw e (unsigned_stays body minus plus)
sign_falls sign body (inr (inl e)) minus plus = rw e (refl, refl)
sign_falls sign body (inr (inr e)) minus plus = rw e (refl, refl)

-- digits, or a point, are no sign
first_byte : (whole tail fraction : List ℕ) → all_digits whole ≡ true → ((tail ≡ []) × (fraction ≡ [])) ⊎ (tail ≡ 46 ∷ fraction)
    → 0 < length whole + length fraction → (b : ℕ) → b < 46 → get_or (whole ++ tail) 0 0 ≢ b
first_byte (c ∷ cs) tail fraction digits point some b small e =
    let range = digit_range c (and_parts (is_ascii_digit c) (all_digits cs) digits).0 in
    omega arith
first_byte [] tail fraction digits (inl none) some b small e = omega (arith, ap length none.1)
first_byte [] tail fraction digits (inr is) some b small e = let h = rw is at e in omega arith

-- the parts of a text
pub record Falls (text sign whole fraction : List ℕ) : Type 0 where
  pub whole_is : whole_of text ≡ whole
  pub fraction_is : fraction_of text ≡ fraction
  pub side_is : starts_with_minus text ≡ starts_with_minus sign

module _ (text whole tail fraction : List ℕ) (bare : without_leading_sign text ≡ whole ++ tail) (digits : all_digits whole ≡ true) where
  whole_falls : ((tail ≡ []) × (fraction ≡ [])) ⊎ (tail ≡ 46 ∷ fraction) → whole_of text ≡ whole
  whole_falls (inl none) =
      let same : without_leading_sign text ≡ whole = bare ∙ ap (λ xs. whole ++ xs) none.0 ∙ append-nil whole in
      rw (same, point_nowhere whole digits) (take_all (length whole) whole (omega arith))
  whole_falls (inr is) =
      let same : without_leading_sign text ≡ whole ++ 46 ∷ fraction = bare ∙ ap (λ xs. whole ++ xs) is in
      rw (same, point_after whole fraction digits) (take_at whole (46 ∷ fraction) (length whole) refl)

  fraction_falls : ((tail ≡ []) × (fraction ≡ [])) ⊎ (tail ≡ 46 ∷ fraction) → fraction_of text ≡ fraction
  fraction_falls (inl none) =
      let same : without_leading_sign text ≡ whole = bare ∙ ap (λ xs. whole ++ xs) none.0 ∙ append-nil whole in
      rw (same, point_nowhere whole digits, none.1) (drop_all (length whole + 1) whole (omega arith))
  fraction_falls (inr is) =
      let same : without_leading_sign text ≡ whole ++ 46 ∷ fraction = bare ∙ ap (λ xs. whole ++ xs) is in
      rw (same, point_after whole fraction digits) (drop-append-add whole (46 ∷ fraction) 1)

-- an encoded text is split into its parts
pub falls : (text sign whole tail fraction : List ℕ) → IsDecimalText text sign whole tail fraction → Falls text sign whole fraction
falls text sign whole tail fraction s =
    let first = first_byte whole tail fraction s.whole_digits s.point s.some_digit in
    let loose = sign_falls sign (whole ++ tail) s.signs (first 45 (omega arith)) (first 43 (omega arith)) in
    let bare = rw (← s.joined) at loose.0 in
    record {
      whole_is = whole_falls text whole tail fraction bare s.whole_digits s.point;
      fraction_is = fraction_falls text whole tail fraction bare s.whole_digits s.point;
      side_is = rw s.joined loose.1;
    }

-- the number of an encoded text, by its parts
abbrev pub reading : ℕ → Bool → List ℕ → List ℕ → Result ℤ DecFault
reading max below whole fraction =
    if not (all_zeros (drop max fraction)) then Err TooFine
    else (if nat_lt (10 ^ 24) (size_of whole fraction) then Err Range
    else Ok (signed below (size_of whole fraction)))

pub reads : (max : ℕ) (text sign whole tail fraction : List ℕ) → IsDecimalText text sign whole tail fraction
    → decimal_of max text ≡ reading max (starts_with_minus sign) whole fraction
unfolding decimal_of
reads max text sign whole tail fraction s =
    let f = falls text sign whole tail fraction s in
    rw (
      f.whole_is,
      f.fraction_is,
      f.side_is,
      s.whole_digits,
      s.fraction_digits,
      ne_eqb (length whole + length fraction) 0 (λ e. omega (arith, s.some_digit, e)),
    )
