-- Written lines are read as they stand, and spell what they were written of.
use Rattle.std.proofs.Common.{◌≡◌, ℕ, ◌+◌, ◌-◌, ◌<◌, false, List, [], ◌∷◌, ◌++◌, length, arith, refl, ◌∙◌, ap, sym, append_assoc, eq-eqb, subst}
use Rattle.std.specs.Prelude.{All, slice_index_or}
use Rattle.std.specs.List.{list_all}
use Rattle.std.specs.Str.Lines.{strip_carriage_return}
use Rattle.std.proofs.lemmas.Bool.{and_parts}
use Rattle.std.proofs.lemmas.List.{length_push}
use Rattle.std.proofs.lemmas.List.Elements.{All-cons, All-head, All-nil, All-tail, All-weaker}
use Rattle.std.proofs.lemmas.List.Sums.{AllPass-from_list_all}
use Rattle.minelib_lines.specs.Lines.{text_of, line_of, lines_from}
use Rattle.minelib_reading.specs.encoded.EncodedLines.{AreLines}
use Rattle.text_lines.specs.TextLines.{Line, without_mark, is_skipped, numbered_lines, lines_in}
use Rattle.text_lines.specs.TextParts.{IsLineText}
use Rattle.text_lines.proofs.PlainText.{is_inner, IsLine, not_lf, not_cr, not_mark}
use Rattle.minelib_text.proofs.LinesOfText.{lines_again}

some_bytes : (line : List ℕ) → is_skipped line ≡ false → 0 < length line
some_bytes [] h = absurd (cc)
some_bytes (c ∷ cs) h = omega arith

no_cr : (line : List ℕ) → IsLine line → strip_carriage_return line ≡ line
no_cr line h =
    rw (not_cr _ (AllPass-from_list_all is_inner line h.inner (length line - 1) 0 (omega (arith, some_bytes line h.is_read)))) refl

no_lf : (line : List ℕ) → IsLine line → IsLineText line
no_lf line h k d within same =
    let byte = slice_index_or line k d in
    let other = not_lf byte (AllPass-from_list_all is_inner line h.inner k d within) in
    absurd (cc (other, eq-eqb byte 10 same))

no_mark : (lines : List (List ℕ)) → All IsLine lines → without_mark (text_of lines) ≡ text_of lines
no_mark [] h = refl
no_mark ([] ∷ lines) h = absurd (omega (arith, some_bytes [] (All-head IsLine [] lines h).is_read))
no_mark ((c ∷ cs) ∷ lines) h =
    rw (not_mark c (and_parts (is_inner c) (list_all is_inner cs) (All-head IsLine (c ∷ cs) lines h).inner).0) refl

-- lines under their numbers
abbrev pub numbered : ℕ → List (List ℕ) → List Line
numbered n [] = []
numbered n (line ∷ lines) = record { number = n; text = line } ∷ numbered (n + 1) lines

pub numbered_both : (n : ℕ) (xs ys : List (List ℕ)) → numbered n (xs ++ ys) ≡ numbered n xs ++ numbered (n + length xs) ys
numbered_both n [] ys = let place : n ≡ n + 0 = omega arith in ap (λ k. numbered k ys) place
numbered_both n (x ∷ xs) ys =
    let place : n + 1 + length xs ≡ n + length (x ∷ xs) = omega arith in
    ap (λ more. record { number = n; text = x } ∷ more) (numbered_both (n + 1) xs ys ∙ ap (λ k. numbered (n + 1) xs ++ numbered k ys) place)

all_read : (n : ℕ) (lines : List (List ℕ)) → All IsLine lines → numbered_lines n lines ≡ numbered n lines
all_read n [] h = refl
all_read n (line ∷ lines) h =
    let here = All-head IsLine line lines h in
    rw (no_cr line here, here.is_read, all_read (n + 1) lines (All-tail IsLine line lines h)) refl

pub text_lines : (lines : List (List ℕ)) → All IsLine lines → lines_in (text_of lines) ≡ numbered 1 lines
text_lines lines h = rw (no_mark lines h, lines_again lines (All-weaker IsLine IsLineText no_lf lines h)) (all_read 1 lines h)

-- lines that are read as they stand, and spell these items, of which the first has this number
pub record AreWritten {A : Type 0} (Encodes : ℕ → List ℕ → A → Type 0) (n : ℕ) (lines : List (List ℕ)) (items : List A) : Type 0 where
  pub each : All IsLine lines
  pub encoded : (number : ℕ) → AreLines Encodes n (numbered number lines) items

pub none_written : {A : Type 0} (Encodes : ℕ → List ℕ → A → Type 0) (n : ℕ) → AreWritten Encodes n [] []
none_written Encodes n = record { each = All-nil IsLine; encoded = λ number. tt }

pub then_written : {A : Type 0} (Encodes : ℕ → List ℕ → A → Type 0) (n : ℕ) (line : List ℕ) (lines : List (List ℕ)) (x : A) (items : List A)
    → IsLine line × Encodes n line x → AreWritten Encodes (n + 1) lines items → AreWritten Encodes n (line ∷ lines) (x ∷ items)
then_written Encodes n line lines x items here more = record {
  each = All-cons IsLine line lines here.0 more.each;
  encoded = λ number. (here.1, more.encoded (number + 1));
}

-- the line of each item does, by the number of those before it
abbrev pub IsEachWritten : {A : Type 0} → (ℕ → List ℕ → A → Type 0) → (ℕ → A → List (List ℕ)) → List A → Type 0
IsEachWritten {A} Encodes fields all =
    (done : List A) (x : A) (rest : List A) → all ≡ done ++ x ∷ rest
    → IsLine (line_of (fields (length done) x)) × Encodes (length done) (line_of (fields (length done) x)) x

-- so all do
pub items_written : {A : Type 0} (Encodes : ℕ → List ℕ → A → Type 0) (fields : ℕ → A → List (List ℕ)) (all : List A)
    → IsEachWritten Encodes fields all → (n : ℕ) (done rest : List A) → n ≡ length done → all ≡ done ++ rest
    → AreWritten Encodes n (lines_from fields n rest) rest
items_written Encodes fields all each n done [] e whole = none_written Encodes n
items_written Encodes fields all each n done (x ∷ rest) e whole =
    then_written Encodes n (line_of (fields n x)) (lines_from fields (n + 1) rest) x rest (rw e (each done x rest whole))
    (items_written Encodes fields all each (n + 1) (done ++ x ∷ []) rest (omega (arith, e, length_push done x))
    (whole ∙ sym (append_assoc done (x ∷ []) rest)))

-- the lines of their text spell them
pub text_encodes : {A : Type 0} (Encodes : ℕ → List ℕ → A → Type 0) (fields : ℕ → A → List (List ℕ)) (all : List A)
    → IsEachWritten Encodes fields all → AreLines Encodes 0 (lines_in (text_of (lines_from fields 0 all))) all
text_encodes Encodes fields all each =
    let w = items_written Encodes fields all each 0 [] all refl refl in
    subst (λ lines. AreLines Encodes 0 lines all) (sym (text_lines (lines_from fields 0 all) w.each)) (w.encoded 1)
