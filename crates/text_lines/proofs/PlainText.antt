-- Plain bytes, which fields and lines consist of: a field of them is read unchanged.
use Rattle.std.proofs.Common.{◌≡◌, ℕ, ◌<◌, Bool, true, false, not, ◌&&◌, List, [], ◌∷◌, ◌++◌, length, arith, refl}
use Rattle.std.specs.Prelude.{nat_lt, ◌==◌}
use Rattle.std.specs.List.{list_all, list_any}
use Rattle.std.proofs.lemmas.Bool.{and_parts, not-true}
use Rattle.std.proofs.lemmas.Bool.Decides.{nat_tests}
use Rattle.std.proofs.lemmas.List.Folds.{list_all-append}
use Rattle.records.specs.Cells.{is_blank}
use Rattle.pit_units.specs.Shortest.{IsPlainByte}
use Rattle.text_lines.specs.TextLines.{is_skipped, is_ended, fields_of}

-- a byte of a field: no blank, no end of a line, no `%`, no colon
abbrev pub is_plain : ℕ → Bool
is_plain c = nat_lt 37 c && (nat_lt c 128 && not (c == 58))

-- a byte of a line: no end of a line, and none of a mark
abbrev pub is_inner : ℕ → Bool
is_inner c = nat_lt c 128 && (not (c == 10) && not (c == 13))

pub record IsField (field : List ℕ) : Type 0 where
  pub some : 0 < length field
  pub bytes : list_all is_plain field ≡ true

abbrev pub EachField : List (List ℕ) → Type 0
EachField [] = Unit {0}
EachField (field ∷ fields) = IsField field × EachField fields

-- a line that is read, of such bytes
pub record IsLine (line : List ℕ) : Type 0 where
  pub inner : list_all is_inner line ≡ true
  pub is_read : is_skipped line ≡ false

pub plain_inner : (c : ℕ) → is_plain c ≡ true → is_inner c ≡ true
plain_inner c h = grind (arith, nat_tests)

not_blank : (c : ℕ) → is_plain c ≡ true → is_blank c ≡ false
not_blank c h = grind (arith, nat_tests)

not_percent : (c : ℕ) → is_plain c ≡ true → (c == 37) ≡ false
not_percent c h = grind (arith, nat_tests)

pub not_lf : (c : ℕ) → is_inner c ≡ true → (c == 10) ≡ false
not_lf c h = grind (arith, nat_tests)

pub not_cr : (c : ℕ) → is_inner c ≡ true → (c == 13) ≡ false
not_cr c h = grind (arith, nat_tests)

pub not_mark : (c : ℕ) → is_inner c ≡ true → (c == 239) ≡ false
not_mark c h = grind (arith, nat_tests)

pub number_byte : (c : ℕ) → IsPlainByte c → is_plain c ≡ true
number_byte c h = grind (arith, nat_tests)

-- fields: a field ends before a blank or at the end
pub first_field : (c : ℕ) (cs rest : List ℕ) → list_all is_plain (c ∷ cs) ≡ true → is_ended rest ≡ true
    → fields_of (c ∷ (cs ++ rest)) ≡ (c ∷ cs) ∷ fields_of rest
first_field c [] rest h ended = let parts = and_parts (is_plain c) true h in rw (not_blank c parts.0, ended) refl
first_field c (d ∷ ds) rest h ended =
    let parts = and_parts (is_plain c) (list_all is_plain (d ∷ ds)) h in
    let more = and_parts (is_plain d) (list_all is_plain ds) parts.1 in
    rw (not_blank c parts.0, first_field d ds rest parts.1 ended, not_blank d more.0) refl

pub all_parts : (p : ℕ → Bool) (xs ys : List ℕ) → list_all p xs ≡ true → list_all p ys ≡ true → list_all p (xs ++ ys) ≡ true
all_parts p xs ys h k = rw (list_all-append p xs ys, h, k) refl

pub all_weaker : (p q : ℕ → Bool) → ((c : ℕ) → p c ≡ true → q c ≡ true) → (xs : List ℕ) → list_all p xs ≡ true → list_all q xs ≡ true
all_weaker p q so [] h = refl
all_weaker p q so (c ∷ cs) h = let parts = and_parts (p c) (list_all p cs) h in rw (so c parts.0, all_weaker p q so cs parts.1) refl

pub none_from_all : (p : ℕ → Bool) (xs : List ℕ) → list_all (λ c. not (p c)) xs ≡ true → list_any p xs ≡ false
none_from_all p [] h = refl
none_from_all p (c ∷ cs) h =
    let parts = and_parts (not (p c)) (list_all (λ c. not (p c)) cs) h in
    rw (not-true (p c) parts.0, none_from_all p cs parts.1) refl

pub first_read : (c : ℕ) (cs : List ℕ) → is_plain c ≡ true → is_skipped (c ∷ cs) ≡ false
first_read c cs h = rw (not_blank c h, not_percent c h) refl
