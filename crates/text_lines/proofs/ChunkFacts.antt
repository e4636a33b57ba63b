-- The lines of a text that is cut after a line's end are the lines of its two parts.
use Rattle.std.proofs.Common.{◌≡◌, ℕ, suc, ◌+◌, ◌<◌, ◌≤◌, ◌==◌, Bool, true, false, List, [], ◌∷◌, ◌++◌, length, take, refl, sym, ap, ◌∙◌, arith, Result, Ok, Err, subst}
use Rattle.std.specs.List.{onto_first}
use Rattle.std.specs.Str.{bytes_eq}
use Rattle.std.specs.Str.Lines.{strip_carriage_return}
use Rattle.std.proofs.lemmas.List.{append_assoc, length-drop}
use Rattle.pit_units.specs.Steps.{◌>>=◌}
use Rattle.text_lines.specs.Reading.{at_line, read_lines}
use Rattle.text_lines.specs.TextLines.{Line, is_skipped, lines_of, numbered_lines, without_mark}
use Rattle.text_lines.specs.declared.text_fault.TextKind.{TextKind}
use Rattle.text_lines.specs.inner.Waiting.{AreWholeLines, unmarked}

onto_some : (b : ℕ) (lines : List (List ℕ)) → 0 < length (onto_first b lines)
onto_some b [] = omega arith
onto_some b (line ∷ lines) = omega arith

onto_append : (b : ℕ) (lines more : List (List ℕ)) → 0 < length lines → onto_first b (lines ++ more) ≡ onto_first b lines ++ more
onto_append b [] more some = absurd (omega (arith, some))
onto_append b (line ∷ lines) more some = refl

some_lines : (prefix : List ℕ) → 0 < length (lines_of (prefix ++ 10 ∷ []))
some_lines [] = omega arith
some_lines (b ∷ bs) = at (b == 10) refl where
  at : (t : Bool) → (b == 10) ≡ t → 0 < length (lines_of (b ∷ bs ++ 10 ∷ []))
  at true e = rw e (omega arith)
  at false e = rw e (onto_some b (lines_of (bs ++ 10 ∷ [])))

lines_after : (prefix more : List ℕ) → lines_of (prefix ++ 10 ∷ more) ≡ lines_of (prefix ++ 10 ∷ []) ++ lines_of more
lines_after [] more = refl
lines_after (b ∷ bs) more = at (b == 10) (lines_after bs more) refl where
  at : (t : Bool) → lines_of (bs ++ 10 ∷ more) ≡ lines_of (bs ++ 10 ∷ []) ++ lines_of more → (b == 10) ≡ t
      → lines_of (b ∷ bs ++ 10 ∷ more) ≡ lines_of (b ∷ bs ++ 10 ∷ []) ++ lines_of more
  at true same e = rw e (ap (λ lines. [] ∷ lines) same)
  at false same e = rw e (ap (onto_first b) same ∙ onto_append b (lines_of (bs ++ 10 ∷ [])) (lines_of more) (some_lines bs))

-- complete lines, and then more
pub lines_append : (chunk more : List ℕ) → AreWholeLines chunk → lines_of (chunk ++ more) ≡ lines_of chunk ++ lines_of more
lines_append chunk more whole =
    let cut : chunk ++ more ≡ whole.prefix ++ 10 ∷ more = ap (λ bytes. bytes ++ more) whole.ends ∙ append_assoc whole.prefix (10 ∷ []) more in
    ap lines_of cut ∙ lines_after whole.prefix more ∙ ap (λ bytes. lines_of bytes ++ lines_of more) (sym whole.ends)

onto_few : (b : ℕ) (lines : List (List ℕ)) (n : ℕ) → length lines ≤ n → length (onto_first b lines) ≤ suc n
onto_few b [] n few = omega arith
onto_few b (line ∷ lines) n few = omega (arith, few)

-- each line has a byte or an end
pub lines_few : (text : List ℕ) → length (lines_of text) ≤ length text
lines_few [] = omega arith
lines_few (b ∷ bs) = at (b == 10) (lines_few bs) refl where
  at : (t : Bool) → length (lines_of bs) ≤ length bs → (b == 10) ≡ t → length (lines_of (b ∷ bs)) ≤ length (b ∷ bs)
  at true few e = rw e (omega (arith, few))
  at false few e = rw e (onto_few b (lines_of bs) (length bs) few)

pub numbered_append : (n : ℕ) (lines more : List (List ℕ))
    → numbered_lines n (lines ++ more) ≡ numbered_lines n lines ++ numbered_lines (n + length lines) more
numbered_append n [] more = let same : n ≡ n + 0 = omega arith in ap (λ m. numbered_lines m more) same
numbered_append n (line ∷ lines) more = at (is_skipped (strip_carriage_return line)) (numbered_append (n + 1) lines more) refl where
  next : n + 1 + length lines ≡ n + suc (length lines)
  next = omega arith

  at : (t : Bool)
      → numbered_lines (n + 1) (lines ++ more) ≡ numbered_lines (n + 1) lines ++ numbered_lines (n + 1 + length lines) more
      → is_skipped (strip_carriage_return line) ≡ t
      → numbered_lines n (line ∷ lines ++ more)
      ≡ numbered_lines n (line ∷ lines) ++ numbered_lines (n + suc (length lines)) more
  at true same e = rw e (same ∙ ap (λ m. numbered_lines (n + 1) lines ++ numbered_lines m more) next)
  at false same e =
      let first : Line = record { number = n; text = strip_carriage_return line } in
      rw e (ap (λ all. first ∷ all) (same ∙ ap (λ m. numbered_lines (n + 1) lines ++ numbered_lines m more) next))

pub read_append : {S : Type 0} (admit : S → List ℕ → Result S TextKind) (state : S) (lines more : List Line)
    → read_lines admit state (lines ++ more) ≡ (read_lines admit state lines >>= λ next. read_lines admit next more)
read_append admit state [] more = refl
read_append {S} admit state (line ∷ lines) more = by (λ next. read_append admit next lines more) (admit state line.text) where
  by : ((next : S) → read_lines admit next (lines ++ more) ≡ (read_lines admit next lines >>= λ t. read_lines admit t more))
      → (r : Result S TextKind)
      → (at_line line.number r >>= λ next. read_lines admit next (lines ++ more))
      ≡ ((at_line line.number r >>= λ next. read_lines admit next lines) >>= λ t. read_lines admit t more)
  by again (Ok next) = again next
  by again (Err kind) = refl

-- a byte order mark is in the first line, or nowhere
no_mark_2 : (a : ℕ) (more : List ℕ) → bytes_eq (take 3 (a ∷ 10 ∷ more)) (239 ∷ 187 ∷ 191 ∷ []) ≡ false
no_mark_2 a more = at (a == 239) refl where
  at : (t : Bool) → (a == 239) ≡ t → bytes_eq (take 3 (a ∷ 10 ∷ more)) (239 ∷ 187 ∷ 191 ∷ []) ≡ false
  at true e = rw e refl
  at false e = rw e refl

no_mark_3 : (a b : ℕ) (more : List ℕ) → bytes_eq (take 3 (a ∷ b ∷ 10 ∷ more)) (239 ∷ 187 ∷ 191 ∷ []) ≡ false
no_mark_3 a b more = at (a == 239) (b == 187) refl refl where
  at : (t u : Bool) → (a == 239) ≡ t → (b == 187) ≡ u → bytes_eq (take 3 (a ∷ b ∷ 10 ∷ more)) (239 ∷ 187 ∷ 191 ∷ []) ≡ false
  at true true e f = rw (e, f) refl
  at true false e f = rw (e, f) refl
  at false true e f = rw e refl
  at false false e f = rw e refl

-- complete lines without the mark are complete lines, and no byte after them belongs to a mark
pub record IsUnmarked (chunk : List ℕ) : Type 0 where
  pub whole : AreWholeLines (without_mark chunk)
  pub following : (more : List ℕ) → without_mark (chunk ++ more) ≡ without_mark chunk ++ more

unmarked_from : (prefix : List ℕ) → IsUnmarked (prefix ++ 10 ∷ [])
unmarked_from [] = record { whole = record { prefix = []; ends = refl }; following = λ more. refl }
unmarked_from (a ∷ []) = record {
  whole = record { prefix = a ∷ []; ends = rw (no_mark_2 a []) refl };
  following = λ more. rw (no_mark_2 a more) refl;
}
unmarked_from (a ∷ b ∷ []) = record {
  whole = record { prefix = a ∷ b ∷ []; ends = rw (no_mark_3 a b []) refl };
  following = λ more. rw (no_mark_3 a b more) refl;
}
unmarked_from (a ∷ b ∷ c ∷ rest) = at (bytes_eq (a ∷ b ∷ c ∷ []) (239 ∷ 187 ∷ 191 ∷ [])) refl where
  at : (t : Bool) → bytes_eq (a ∷ b ∷ c ∷ []) (239 ∷ 187 ∷ 191 ∷ []) ≡ t → IsUnmarked (a ∷ b ∷ c ∷ rest ++ 10 ∷ [])
  at true e = record { whole = record { prefix = rest; ends = rw e refl }; following = λ more. rw e refl }
  at false e = record { whole = record { prefix = a ∷ b ∷ c ∷ rest; ends = rw e refl }; following = λ more. rw e refl }

pub mark_leads : (chunk : List ℕ) → AreWholeLines chunk → IsUnmarked chunk
mark_leads chunk whole = subst IsUnmarked (sym whole.ends) (unmarked_from whole.prefix)

-- the same for bytes that cannot start with a mark
pub unmarked_whole : (begun : Bool) (chunk : List ℕ) → AreWholeLines chunk → AreWholeLines (unmarked begun chunk)
unmarked_whole true chunk whole = whole
unmarked_whole false chunk whole = (mark_leads chunk whole).whole

pub unmarked_append : (begun : Bool) (chunk more : List ℕ) → AreWholeLines chunk → unmarked begun (chunk ++ more) ≡ unmarked begun chunk ++ more
unmarked_append true chunk more whole = refl
unmarked_append false chunk more whole = (mark_leads chunk whole).following more

mark_short : (text : List ℕ) → length (without_mark text) ≤ length text
mark_short text = at (bytes_eq (take 3 text) (239 ∷ 187 ∷ 191 ∷ [])) refl where
  at : (t : Bool) → bytes_eq (take 3 text) (239 ∷ 187 ∷ 191 ∷ []) ≡ t → length (without_mark text) ≤ length text
  at true e = rw e (rw (length-drop 3 text) (omega arith))
  at false e = rw e (omega arith)

pub unmarked_short : (begun : Bool) (chunk : List ℕ) → length (unmarked begun chunk) ≤ length chunk
unmarked_short true chunk = omega arith
unmarked_short false chunk = mark_short chunk
