-- The end of a text's first line, and of a line's first field.
use Rattle.std.proofs.Common.{◌≡◌, ℕ, suc, ◌+◌, ◌<◌, ◌≤◌, ◌==◌, Bool, true, false, List, [], ◌∷◌, length, get_or, take, drop, refl, sym, ap, ◌∙◌, arith, position, nat_lt, Option, None, Some}
use Rattle.std.specs.Prelude.{unwrap_or}
use Rattle.std.specs.List.{onto_first, position_or_len}
use Rattle.std.proofs.lemmas.Bool.{le-ltb, lt-ltb, ltb-false, eq-eqb, ne_eqb}
use Rattle.std.proofs.lemmas.List.Sums.{position_or_len_is}
use Rattle.memchr.specs.Find.{IsFirstByte, is_byte}
use Rattle.records.specs.Cells.{is_blank, without_leading_blanks}
use Rattle.text_lines.specs.TextLines.{lines_of, fields_of}

pub place_within : {A : Type 0} (p : A → Bool) (xs : List A) → position_or_len p xs ≤ length xs
place_within p [] = omega arith
place_within p (x ∷ xs) = at (p x) (place_within p xs) refl where
  at : (t : Bool) → position_or_len p xs ≤ length xs → p x ≡ t → position_or_len p (x ∷ xs) ≤ length (x ∷ xs)
  at true within e = rw e (omega arith)
  at false within e = rw e (omega (arith, within))

pub place_or_length : {A : Type 0} (p : A → Bool) (xs : List A) → unwrap_or (position p xs) (length xs) ≡ position_or_len p xs
place_or_length p xs = found (nat_lt (position_or_len p xs) (length xs)) refl where
  found : (t : Bool) → nat_lt (position_or_len p xs) (length xs) ≡ t → unwrap_or (position p xs) (length xs) ≡ position_or_len p xs
  found true e = rw e refl
  found false e = rw e (omega (arith, ltb-false (position_or_len p xs) (length xs) e, place_within p xs))

-- a byte that ends a line
abbrev pub is_feed : ℕ → Bool
is_feed b = b == 10

-- the position that a search for a byte finds, or the length
pub byte_found : (c : ℕ) (text : List ℕ) (r : Option ℕ) → IsFirstByte (is_byte c) text r
    → unwrap_or r (length text) ≡ position_or_len (λ b. b == c) text
byte_found c text None h =
    sym (position_or_len_is (λ b. b == c) text (length text) 0 (omega arith)
    (λ k within. ne_eqb (get_or text k 0) c (λ e. h k (omega arith) within (eq-eqb _ _ e))) (λ within. absurd (omega arith)))
byte_found c text (Some k) h =
    sym (position_or_len_is (λ b. b == c) text k 0 (omega (arith, h.0.high))
    (λ i before. ne_eqb (get_or text i 0) c (λ e. h.0.before i (omega arith) before (eq-eqb _ _ e))) (λ _. h.1))

-- the position that a search for a byte finds
pub byte_placed : (c : ℕ) (text : List ℕ) (r : Option ℕ) → IsFirstByte (is_byte c) text r → position (λ b. b == c) text ≡ r
byte_placed c text None h =
    let past : nat_lt (position_or_len (λ b. b == c) text) (length text) ≡ false = le-ltb _ _ (omega (arith, byte_found c text None h)) in
    rw past refl
byte_placed c text (Some k) h =
    let found = byte_found c text (Some k) h in
    let within : nat_lt (position_or_len (λ b. b == c) text) (length text) ≡ true = lt-ltb _ _ (omega (arith, found, h.0.high)) in
    rw (within, sym found) refl

-- the first n bytes of a text are its first line, and the next line begins after its LF
abbrev pub BeginsWithLine : List ℕ → ℕ → Type 0
BeginsWithLine text n = lines_of text ≡ take n text ∷ lines_of (drop (suc n) text)

line_of_some : (b : ℕ) (bs : List ℕ) → BeginsWithLine (b ∷ bs) (position_or_len is_feed (b ∷ bs))
line_of_some b [] = alone (b == 10) refl where
  alone : (t : Bool) → (b == 10) ≡ t → BeginsWithLine (b ∷ []) (position_or_len is_feed (b ∷ []))
  alone true e = rw e
  alone false e = rw e
line_of_some b (c ∷ cs) = before (b == 10) (line_of_some c cs) refl where
  before : (t : Bool) → BeginsWithLine (c ∷ cs) (position_or_len is_feed (c ∷ cs)) → (b == 10) ≡ t
      → BeginsWithLine (b ∷ c ∷ cs) (position_or_len is_feed (b ∷ c ∷ cs))
  before true line e = rw e
  before false line e =
      let n = position_or_len is_feed (c ∷ cs) in
      let next : 1 + n ≡ suc n = omega arith in
      rw (e, next, line)

pub line_cut : (text : List ℕ) → 0 < length text
    → lines_of text ≡ take (position_or_len is_feed text) text ∷ lines_of (drop (position_or_len is_feed text + 1) text)
line_cut [] some = absurd (omega arith)
line_cut (b ∷ bs) some =
    let next : position_or_len is_feed (b ∷ bs) + 1 ≡ suc (position_or_len is_feed (b ∷ bs)) = omega arith in
    rw next (line_of_some b bs)

-- the first n bytes of a text are its first field
abbrev pub BeginsWithField : List ℕ → ℕ → Type 0
BeginsWithField text n = fields_of text ≡ take n text ∷ fields_of (drop n text)

fields_join : (b c : ℕ) (cs : List ℕ) → is_blank b ≡ false → is_blank c ≡ false → fields_of (b ∷ c ∷ cs) ≡ onto_first b (fields_of (c ∷ cs))
fields_join b c cs e at = rw (e, at) refl

fields_part : (b c : ℕ) (cs : List ℕ) → is_blank b ≡ false → is_blank c ≡ true → fields_of (b ∷ c ∷ cs) ≡ (b ∷ []) ∷ fields_of (c ∷ cs)
fields_part b c cs e at = rw (e, at) refl

field_of_some : (b : ℕ) (bs : List ℕ) → is_blank b ≡ false → BeginsWithField (b ∷ bs) (position_or_len is_blank (b ∷ bs))
field_of_some b [] e = rw e refl
field_of_some b (c ∷ cs) e = before (is_blank c) (field_of_some c cs) refl where
  before : (t : Bool) → (is_blank c ≡ false → BeginsWithField (c ∷ cs) (position_or_len is_blank (c ∷ cs))) → is_blank c ≡ t
      → BeginsWithField (b ∷ c ∷ cs) (position_or_len is_blank (b ∷ c ∷ cs))
  before true field at =
      let next : position_or_len is_blank (b ∷ c ∷ cs) ≡ 1 = rw (e, at) refl in
      rw next (fields_part b c cs e at)
  before false field at =
      let n = position_or_len is_blank (c ∷ cs) in
      let next : position_or_len is_blank (b ∷ c ∷ cs) ≡ suc n = rw e (omega arith) in
      rw next (fields_join b c cs e at ∙ ap (onto_first b) (field at))

-- the text after the blanks begins with a field, if it has any bytes
abbrev pub StartsWithField : List ℕ → Type 0
StartsWithField text = 0 < length text → BeginsWithField text (position_or_len is_blank text) × (0 < position_or_len is_blank text)

-- blanks before a line's first field do not count
pub record IsAfterBlanks (line text : List ℕ) : Type 0 where
  pub same : fields_of text ≡ fields_of line
  pub starts : StartsWithField text
  pub short : length text ≤ length line

pub after_blanks : (line : List ℕ) → IsAfterBlanks line (without_leading_blanks line)
after_blanks [] = record { same = refl; starts = λ some. absurd (omega (arith, some)); short = omega arith }
after_blanks (b ∷ bs) = past (is_blank b) (after_blanks bs) refl where
  past : (t : Bool) → IsAfterBlanks bs (without_leading_blanks bs) → is_blank b ≡ t
      → IsAfterBlanks (b ∷ bs) (without_leading_blanks (b ∷ bs))
  past true rest e =
      let same : fields_of (without_leading_blanks bs) ≡ fields_of (b ∷ bs) = rw e rest.same in
      rw e (record { same = same; starts = rest.starts; short = omega (arith, rest.short) })
  past false rest e =
      let starts : StartsWithField (b ∷ bs) = λ some. (field_of_some b bs e, rw e (omega arith)) in
      rw e (record { same = refl; starts = starts; short = omega arith })

pub no_fields : (text : List ℕ) → length text ≡ 0 → fields_of text ≡ []
no_fields [] e = refl
no_fields (b ∷ bs) e = absurd (omega (arith, e))
