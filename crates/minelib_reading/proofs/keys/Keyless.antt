-- A line whose fields have no colon has none, and the text of a number is a field without a colon.
use Rattle.std.specs.Prelude.{◌≡◌, ℕ, Bool, true, false, not, List, [], ◌∷◌, ◌++◌, ◌≤◌, ℤ, if◌then◌else◌, ◌⊎◌}
use Rattle.std.specs.Char.{is_ascii_digit}
use Rattle.std.specs.List.{list_all, list_any, onto_first}
use Rattle.std.proofs.Common.{refl, arith, inl, inr, length, length-append}
use Rattle.std.proofs.lemmas.Bool.{or_parts}
use Rattle.std.proofs.lemmas.Bool.Decides.{nat_tests}
use Rattle.pit_units.specs.Decimal.{all_digits}
use Rattle.pit_units.specs.StandsFor.{StandsFor}
use Rattle.records.specs.Cells.{is_blank}
use Rattle.minelib_reading.specs.ModelKeys.{is_colon}
use Rattle.text_lines.specs.TextLines.{fields_of, is_ended}
use Rattle.text_lines.proofs.PlainText.{IsField, all_parts, all_weaker, is_plain}

-- a field has a colon
abbrev pub have_colon : List (List ℕ) → Bool
have_colon fields = list_any (list_any is_colon) fields

-- no plain byte is a colon
pub plain_no_colon : (c : ℕ) → is_plain c ≡ true → not (is_colon c) ≡ true
plain_no_colon c h = grind (arith, nat_tests)

blank_no_colon : (b : ℕ) → is_blank b ≡ true → is_colon b ≡ false
blank_no_colon b h = grind (arith, nat_tests)

digit_plain : (b : ℕ) → is_ascii_digit b ≡ true → is_plain b ≡ true
digit_plain b h = grind (arith, nat_tests)

onto_none : (b : ℕ) (fields : List (List ℕ)) → have_colon (onto_first b fields) ≡ false → (is_colon b ≡ false) × (have_colon fields ≡ false)
onto_none b [] h =
    let parts = or_parts (list_any is_colon (b ∷ [])) false h in
    ((or_parts (is_colon b) false parts.0).0, refl)
onto_none b (field ∷ fields) h =
    let parts = or_parts (list_any is_colon (b ∷ field)) (have_colon fields) h in
    let inner = or_parts (is_colon b) (list_any is_colon field) parts.0 in
    (inner.0, rw (inner.1, parts.1) refl)

pub keyless : (line : List ℕ) → have_colon (fields_of line) ≡ false → list_any is_colon line ≡ false
keyless [] h = refl
keyless (b ∷ bytes) h = by (λ none. keyless bytes none) (is_blank b) refl h
  where
    rest : Bool → List (List ℕ)
    rest ended = if ended then (b ∷ []) ∷ fields_of bytes else onto_first b (fields_of bytes)

    by_end : (ended : Bool) → have_colon (rest ended) ≡ false → (is_colon b ≡ false) × (have_colon (fields_of bytes) ≡ false)
    by_end true none =
        let parts = or_parts (list_any is_colon (b ∷ [])) (have_colon (fields_of bytes)) none in
        ((or_parts (is_colon b) false parts.0).0, parts.1)
    by_end false none = onto_none b (fields_of bytes) none

    by : (have_colon (fields_of bytes) ≡ false → list_any is_colon bytes ≡ false) → (t : Bool) → is_blank b ≡ t
        → have_colon (if t then fields_of bytes else rest (is_ended bytes)) ≡ false → list_any is_colon (b ∷ bytes) ≡ false
    by deeper true blank none = rw (blank_no_colon b blank, deeper none) refl
    by deeper false blank none = let parts = by_end (is_ended bytes) none in rw (parts.0, deeper parts.1) refl

digits_plain : (bytes : List ℕ) → all_digits bytes ≡ true → list_all is_plain bytes ≡ true
digits_plain bytes h = all_weaker is_ascii_digit is_plain digit_plain bytes h

sign_plain : (sign : List ℕ) → (sign ≡ []) ⊎ ((sign ≡ 43 ∷ []) ⊎ (sign ≡ 45 ∷ [])) → list_all is_plain sign ≡ true
sign_plain sign (inl none) = rw none refl
sign_plain sign (inr (inl plus)) = rw plus refl
sign_plain sign (inr (inr minus)) = rw minus refl

-- digits follow the sign, some of them after a point
tail_plain : (tail fraction : List ℕ) → ((tail ≡ []) × (fraction ≡ [])) ⊎ (tail ≡ 46 ∷ fraction) → all_digits fraction ≡ true
    → (list_all is_plain tail ≡ true) × (length fraction ≤ length tail)
tail_plain tail fraction (inl none) digits = (rw (none.0) refl, rw (none.1) (omega arith))
tail_plain tail fraction (inr some) digits = (rw some (digits_plain fraction digits), rw some (omega arith))

-- a decimal text is a field
pub number_field : (max : ℕ) (text : List ℕ) (m : ℤ) → StandsFor max text m → IsField text
number_field max text m s =
    let p = s.encoded in
    let tail = tail_plain s.tail s.fraction p.point p.fraction_digits in
    rw p.joined (record {
      some = omega (arith, p.some_digit, tail.1, length-append s.sign (s.whole ++ s.tail), length-append s.whole s.tail);
      bytes = all_parts is_plain s.sign (s.whole ++ s.tail) (sign_plain s.sign p.signs)
          (all_parts is_plain s.whole s.tail (digits_plain s.whole p.whole_digits) tail.0);
    })
