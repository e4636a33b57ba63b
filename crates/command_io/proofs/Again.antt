-- A text before a cut is returned as the first part.
use Rattle.std.proofs.Common.{◌≡◌, ℕ, suc, ◌-◌, ◌<◌, ◌==◌, Bool, true, false, List, [], ◌∷◌, ◌++◌, length, map, filter, slice_index, if◌then◌else◌, refl, ap, ◌∙◌, arith}
use Rattle.std.specs.List.{All, concat, onto_first, slice_split}
use Rattle.std.proofs.lemmas.List.Elements.{All-cons, All-nil}
use Rattle.std.proofs.lemmas.List.Splits.{slice_split_at, slice_split_none}
use Rattle.command_io.specs.Pieces.{ended_lines, is_cut, cuts_of, pieces_of, IsEnded}
use Rattle.command_io.proofs.Joined.{lines_join}

some_line : (b : ℕ) (bs : List ℕ) → 0 < length (ended_lines (b ∷ bs))
some_line b bs = by (ended_lines (b ∷ bs)) (lines_join (b ∷ bs)) where
  by : (lines : List (List ℕ)) → concat lines ≡ b ∷ bs → 0 < length lines
  by [] e = absurd cc
  by (line ∷ lines) e = omega arith

-- the lines of a text that is empty or ends in LF, and then the lines of the text after it
ended_lines-append : (text rest : List ℕ) → IsEnded text → ended_lines (text ++ rest) ≡ ended_lines text ++ ended_lines rest
ended_lines-append [] rest ended = refl
ended_lines-append (b ∷ []) rest ended = let feed : b ≡ 10 = ended (omega arith) in rw feed refl
ended_lines-append (b ∷ c ∷ cs) rest ended =
    let last : length (b ∷ c ∷ cs) - 1 ≡ suc (length (c ∷ cs) - 1) = omega arith in
    let following : slice_index (b ∷ c ∷ cs) (length (b ∷ c ∷ cs) - 1) ≡ 10 = ended (omega arith) in
    onto (b == 10) (ended_lines (c ∷ cs ++ rest)) (ended_lines (c ∷ cs)) (some_line c cs)
    (ended_lines-append (c ∷ cs) rest (λ _. rw last at following)) where
      onto : (t : Bool) (all lines : List (List ℕ)) → 0 < length lines → all ≡ lines ++ ended_lines rest
          → (if t then (b ∷ []) ∷ all else onto_first b all) ≡ (if t then (b ∷ []) ∷ lines else onto_first b lines) ++ ended_lines rest
      onto true all lines some same = ap (λ ls. (b ∷ []) ∷ ls) same
      onto false all [] some same = absurd (omega arith)
      onto false all (line ∷ lines) some same = ap (onto_first b) same

none_pass : (p : List ℕ → Bool) (lines : List (List ℕ)) → filter p lines ≡ [] → All (λ line. p line ≡ false) lines
none_pass p [] none = All-nil (λ line. p line ≡ false)
none_pass p (line ∷ lines) none = by_test (p line) refl (none_pass p lines) where
  by_test : (t : Bool) → p line ≡ t → (filter p lines ≡ [] → All (λ line. p line ≡ false) lines) → All (λ line. p line ≡ false) (line ∷ lines)
  by_test true e rest = let no = rw e at none in absurd cc
  by_test false e rest = All-cons (λ line. p line ≡ false) line lines e (rest (rw e at none))

pub pieces_again : (text cut rest : List ℕ) → IsEnded text → cuts_of text ≡ [] → ended_lines (cut ++ rest) ≡ cut ∷ ended_lines rest
    → is_cut cut ≡ true → pieces_of (text ++ (cut ++ rest)) ≡ text ∷ pieces_of rest
pieces_again text cut rest ended uncut line e =
    let lines : ended_lines (text ++ (cut ++ rest)) ≡ ended_lines text ++ cut ∷ ended_lines rest
    = ended_lines-append text (cut ++ rest) ended ∙ ap (λ ls. ended_lines text ++ ls) line in
    ap (λ ls. map concat (slice_split is_cut ls)) lines ∙ ap (map concat) (slice_split_at is_cut (ended_lines text) cut (ended_lines rest) (none_pass is_cut (ended_lines text) uncut) e)
    ∙ ap (λ xs. xs ∷ pieces_of rest) (lines_join text)

-- a text without a line that cuts is its only part
pub uncut_whole : (text : List ℕ) → cuts_of text ≡ [] → pieces_of text ≡ text ∷ []
uncut_whole text uncut =
    ap (map concat) (slice_split_none is_cut (ended_lines text) (none_pass is_cut (ended_lines text) uncut)) ∙ ap (λ xs. xs ∷ []) (lines_join text)
