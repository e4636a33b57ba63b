-- A number at the start of a line is its first field, if a blank or nothing follows.
use Rattle.std.proofs.Common.{◌≡◌, ℕ, ◌*◌, ◌/◌, ◌^◌, ◌<◌, ◌≤◌, ◌==◌, true, List, [], ◌∷◌, ◌++◌, length, ℤ, pos, negsuc, arith, refl, sym, ap, ◌∙◌}
use Rattle.std.specs.Prelude.{◌&&◌, false, ◌≤ℤ◌, ◌+ℤ◌, int_le, unsigned_abs, Ok, Err}
use Rattle.std.specs.List.{list_all}
use Rattle.std.proofs.lemmas.Bool.{ne_eqb}
use Rattle.std.proofs.lemmas.Int.{ints}
use Rattle.std.proofs.lemmas.List.Sums.{list_all-from_AllPass}
use Rattle.records.specs.Cells.{without_leading_blanks}
use Rattle.pit_units.specs.Decimal.{decimal_within}
use Rattle.pit_units.specs.Prefix.{BeginsWith}
use Rattle.text_lines.specs.FieldValues.{first_by}
use Rattle.text_lines.specs.StatedFields.{decimal_in, size_in, below_in}
use Rattle.text_lines.specs.TextLines.{fields_of, is_ended}
use Rattle.text_lines.specs.inner.Taken.{TakesDecimal}
use Rattle.text_lines.specs.declared.text_fault.TextKind.TheVariants.{Range}
use Rattle.text_lines.proofs.Cuts.{after_blanks, StartsWithField}
use Rattle.text_lines.proofs.PlainText.{first_field, is_plain, number_byte}

prefix_cut : (prefix rest : List ℕ) → 0 < length prefix → list_all is_plain prefix ≡ true → is_ended rest ≡ true
    → fields_of (prefix ++ rest) ≡ prefix ∷ fields_of rest
prefix_cut [] rest some plain ended = absurd (omega (arith, some))
prefix_cut (c ∷ cs) rest some plain ended = first_field c cs rest plain ended

pub field_leads : (max : ℕ) (line : List ℕ) (m : ℤ) (rest : List ℕ) → BeginsWith max (without_leading_blanks line) m rest
    → is_ended rest ≡ true
    → TakesDecimal max line m rest
field_leads max line m rest b ended =
    let plain = list_all-from_AllPass is_plain b.prefix (λ k d h. number_byte _ (b.bytes k d h)) in
    record {
      field = b.prefix;
      cut = sym (after_blanks line).same ∙ ap fields_of b.joined ∙ prefix_cut b.prefix rest b.some plain ended;
      stated = b.stated;
    }

pub whole_taken : (limit : ℕ) (line : List ℕ) (n : ℕ) (rest : List ℕ) → TakesDecimal 0 line (pos (n * 10 ^ 6)) rest → n < limit
    → first_by (below_in limit) (fields_of line) ≡ Ok (n, fields_of rest)
unfolding below_in decimal_within
whole_taken limit line n rest t low =
    let within : (int_le (pos 0) (pos (n * 10 ^ 6)) && int_le (pos (n * 10 ^ 6)) (pos (limit * 10 ^ 6) +ℤ negsuc 0)) ≡ true =
    grind (arith, ints, low) in
    let whole : n * 10 ^ 6 / 10 ^ 6 ≡ n = omega arith in
    rw (t.cut, t.stated, within, whole) refl

pub whole_refused : (limit : ℕ) (line : List ℕ) (n : ℕ) (rest : List ℕ) → TakesDecimal 0 line (pos (n * 10 ^ 6)) rest → (n < limit → ⊥)
    → first_by (below_in limit) (fields_of line) ≡ Err Range
unfolding below_in decimal_within
whole_refused limit line n rest t above =
    let past : (int_le (pos 0) (pos (n * 10 ^ 6)) && int_le (pos (n * 10 ^ 6)) (pos (limit * 10 ^ 6) +ℤ negsuc 0)) ≡ false =
    grind (arith, ints, above) in
    rw (t.cut, t.stated, past) refl

pub size_taken : (decimals most : ℕ) (line : List ℕ) (m : ℤ) (rest : List ℕ) (size : ℕ) → TakesDecimal decimals line m rest
    → size ≡ unsigned_abs m → pos 0 ≤ℤ m → size ≤ most
    → first_by (size_in decimals most) (fields_of line) ≡ Ok (size, fields_of rest)
unfolding size_in decimal_within
size_taken decimals most line m rest size t is low high =
    let within : (int_le (pos 0) m && int_le m (pos most)) ≡ true = grind (arith, ints, is, low, high) in
    rw (t.cut, t.stated, within, is) refl

pub size_refused : (decimals most : ℕ) (line : List ℕ) (m : ℤ) (rest : List ℕ) (size : ℕ) → TakesDecimal decimals line m rest
    → size ≡ unsigned_abs m → (pos 0 ≤ℤ m → size ≤ most → ⊥)
    → first_by (size_in decimals most) (fields_of line) ≡ Err Range
unfolding size_in decimal_within
size_refused decimals most line m rest size t is out =
    let past : (int_le (pos 0) m && int_le m (pos most)) ≡ false = grind (arith, ints, is, out) in
    rw (t.cut, t.stated, past) refl

pub decimal_taken : (line : List ℕ) (m : ℤ) (rest : List ℕ) → TakesDecimal 6 line m rest
    → first_by decimal_in (fields_of line) ≡ Ok (m, fields_of rest)
unfolding decimal_in
decimal_taken line m rest t = rw (t.cut, t.stated) refl

-- a line has no field if it has only blanks
pub none_past_blanks : (line : List ℕ) → (length (without_leading_blanks line) == 0) ≡ (length (fields_of line) == 0)
none_past_blanks line = by (without_leading_blanks line) (after_blanks line).starts (after_blanks line).same
  where
    by : (text : List ℕ) → StartsWithField text → fields_of text ≡ fields_of line → (length text == 0) ≡ (length (fields_of line) == 0)
    by [] starts same = rw (sym same) refl
    by (c ∷ cs) starts same =
        let some : 0 < length (fields_of line) = rw (sym same, (starts (omega arith)).0) (omega arith) in
        ne_eqb (length (c ∷ cs)) 0 (λ e. omega (arith, e)) ∙ sym (ne_eqb (length (fields_of line)) 0 (λ e. omega (arith, e, some)))
