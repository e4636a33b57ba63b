-- Fields that are written with a space between them are read from their line as they are written.
use Rattle.std.specs.Prelude.{List, ℕ}
use Rattle.std.proofs.Common.{[], ap, append-nil, arith, false, length, refl, subst, sym, true, ◌++◌, ◌<◌, ◌∙◌, ◌∷◌, ◌≡◌}
use Rattle.std.proofs.lemmas.Bool.{and_parts}
use Rattle.std.specs.List.{list_all}
use Rattle.text_lines.proofs.PlainText.{EachField, IsField, IsLine, all_parts, all_weaker, first_field, first_read, is_inner, is_plain, plain_inner}
use Rattle.text_lines.specs.TextLines.{fields_of, is_skipped}
use Rattle.minelib_lines.specs.Lines.{line_of}

fields_again : (fields : List (List ℕ)) → EachField fields → fields_of (line_of fields) ≡ fields
fields_again [] h = refl
fields_again ([] ∷ fs) h = absurd (omega (arith, h.0.some))
fields_again ((c ∷ cs) ∷ []) h = ap (λ line. fields_of (c ∷ line)) (sym (append-nil cs)) ∙ first_field c cs [] h.0.bytes refl
fields_again ((c ∷ cs) ∷ g ∷ gs) h =
    first_field c cs (32 ∷ line_of (g ∷ gs)) h.0.bytes refl ∙ ap (λ fields. (c ∷ cs) ∷ fields) (fields_again (g ∷ gs) h.1)

pub only_field : (word : List ℕ) → IsField word → fields_of word ≡ word ∷ []
only_field word h = fields_again (word ∷ []) (h, tt)

pub inner_field : (field : List ℕ) → IsField field → list_all is_inner field ≡ true
inner_field field h = all_weaker is_plain is_inner plain_inner field h.bytes

line_inner : (fields : List (List ℕ)) → EachField fields → list_all is_inner (line_of fields) ≡ true
line_inner [] h = refl
line_inner (f ∷ []) h = inner_field f h.0
line_inner (f ∷ g ∷ gs) h = all_parts is_inner f (32 ∷ line_of (g ∷ gs)) (inner_field f h.0) (line_inner (g ∷ gs) h.1)

line_read : (f : List ℕ) (fs : List (List ℕ)) → IsField f → is_skipped (line_of (f ∷ fs)) ≡ false
line_read [] fs h = absurd (omega (arith, h.some))
line_read (c ∷ cs) [] h = first_read c cs (and_parts (is_plain c) (list_all is_plain cs) h.bytes).0
line_read (c ∷ cs) (g ∷ gs) h = first_read c (cs ++ 32 ∷ line_of (g ∷ gs)) (and_parts (is_plain c) (list_all is_plain cs) h.bytes).0

-- fields with a space between them are a line
fields_line : (fields : List (List ℕ)) → 0 < length fields → EachField fields → IsLine (line_of fields)
fields_line [] some h = absurd (omega (arith, some))
fields_line (f ∷ fs) some h = record { inner = line_inner (f ∷ fs) h; is_read = line_read f fs h.0 }

-- what the fields spell, their line spells
pub plain_line : (fields : List (List ℕ)) (Encodes : List (List ℕ) → Type 0) → 0 < length fields → EachField fields → Encodes fields
    → IsLine (line_of fields) × Encodes (fields_of (line_of fields))
plain_line fields Encodes some each h = (fields_line fields some each, subst Encodes (sym (fields_again fields each)) h)
