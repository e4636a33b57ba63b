-- What the lines of a text and the fields of a line are.
use Rattle.std.specs.Prelude.{◌≡◌, ◌≢◌, ℕ, ◌≤◌, true, false, List, [], ◌∷◌, ◌++◌, length, All, ◌==◌}
use Rattle.std.proofs.Common.{refl, ◌∙◌, ap, arith, ne_eqb, append_assoc}
use Rattle.std.proofs.lemmas.List.Elements.{All-head, All-tail}
use Rattle.records.specs.Cells.{is_blank}
use Rattle.text_lines.specs.TextParts.{IsLineText, AreBlanks, IsFieldText}
use Rattle.minelib_lines.specs.Lines.{text_of}
use Rattle.text_lines.specs.TextLines.{lines_of, is_ended, fields_of}

one_line : (line rest : List ℕ) → IsLineText line → lines_of ((line ++ 10 ∷ []) ++ rest) ≡ line ∷ lines_of rest
one_line [] rest h = refl
one_line (b ∷ bytes) rest h =
    let here : (b == 10) ≡ false = ne_eqb b 10 (All-head (λ c. c ≢ 10) b bytes h) in
    rw (here, one_line bytes rest (All-tail (λ c. c ≢ 10) b bytes h)) refl

pub lines_again : (lines : List (List ℕ)) → All IsLineText lines → lines_of (text_of lines) ≡ lines
lines_again [] h = refl
lines_again (line ∷ lines) h =
    one_line line (text_of lines) (All-head IsLineText line lines h)
    ∙ ap (λ rest. line ∷ rest) (lines_again lines (All-tail IsLineText line lines h))

lone_line : (b : ℕ) (bytes : List ℕ) → IsLineText (b ∷ bytes) → lines_of (b ∷ bytes) ≡ (b ∷ bytes) ∷ []
lone_line b [] h =
    let here : (b == 10) ≡ false = ne_eqb b 10 (All-head (λ c. c ≢ 10) b [] h) in
    rw here refl
lone_line b (c ∷ bytes) h =
    let here : (b == 10) ≡ false = ne_eqb b 10 (All-head (λ c. c ≢ 10) b (c ∷ bytes) h) in
    rw (here, lone_line c bytes (All-tail (λ c. c ≢ 10) b (c ∷ bytes) h)) refl

pub last_again : (lines : List (List ℕ)) (last : List ℕ) → All IsLineText lines → IsLineText last → 1 ≤ length last
    → lines_of (text_of lines ++ last) ≡ lines ++ last ∷ []
last_again [] [] h k some = absurd (omega arith)
last_again [] (b ∷ bytes) h k some = lone_line b bytes k
last_again (line ∷ lines) last h k some =
    ap lines_of (append_assoc (line ++ 10 ∷ []) (text_of lines) last)
    ∙ one_line line (text_of lines ++ last) (All-head IsLineText line lines h)
    ∙ ap (λ rest. line ∷ rest) (last_again lines last (All-tail IsLineText line lines h) k some)

pub blanks_fall : (blanks rest : List ℕ) → AreBlanks blanks → fields_of (blanks ++ rest) ≡ fields_of rest
blanks_fall [] rest h = refl
blanks_fall (b ∷ bytes) rest h =
    let here : is_blank b ≡ true = All-head (λ c. is_blank c ≡ true) b bytes h in
    rw here (blanks_fall bytes rest (All-tail (λ c. is_blank c ≡ true) b bytes h))

first_field : (b : ℕ) (bytes rest : List ℕ) → All (λ c. is_blank c ≡ false) (b ∷ bytes) → is_ended rest ≡ true
    → fields_of (b ∷ (bytes ++ rest)) ≡ (b ∷ bytes) ∷ fields_of rest
first_field b [] rest h ended =
    let here : is_blank b ≡ false = All-head (λ c. is_blank c ≡ false) b [] h in
    rw (here, ended) refl
first_field b (c ∷ bytes) rest h ended =
    let here : is_blank b ≡ false = All-head (λ c. is_blank c ≡ false) b (c ∷ bytes) h in
    let more = All-tail (λ c. is_blank c ≡ false) b (c ∷ bytes) h in
    let next : is_blank c ≡ false = All-head (λ c. is_blank c ≡ false) c bytes more in
    rw (here, first_field c bytes rest more ended, next) refl

pub field_falls : (field rest : List ℕ) → IsFieldText field → is_ended rest ≡ true → fields_of (field ++ rest) ≡ field ∷ fields_of rest
field_falls [] rest h ended = absurd (omega (arith, h.0))
field_falls (b ∷ bytes) rest h ended = first_field b bytes rest h.1 ended
