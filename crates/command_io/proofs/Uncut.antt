-- No part has a line that cuts.
use Rattle.std.proofs.Common.{◌≡◌, ℕ, ◌==◌, Bool, true, false, List, [], ◌∷◌, ◌++◌, map, filter, refl, ap, ◌∙◌}
use Rattle.std.specs.List.{concat, onto_first, slice_split, All, AllByRecursion}
use Rattle.std.proofs.lemmas.List.{append-nil}
use Rattle.std.proofs.lemmas.List.Elements.{All-from_recursion}
use Rattle.command_io.specs.Pieces.{ended_lines, is_cut, cuts_of, pieces_of}

-- these lines are consecutive in a text: each except the last is a line, whatever follows it
abbrev AreLines : List (List ℕ) → Type 0
AreLines [] = Unit {0}
AreLines (line ∷ []) = ended_lines line ≡ line ∷ []
AreLines (line ∷ next ∷ lines) = ((rest : List ℕ) → ended_lines (line ++ rest) ≡ line ∷ ended_lines rest) × AreLines (next ∷ lines)

-- joined and cut into lines, they are the same lines
lines_again : (lines : List (List ℕ)) → AreLines lines → ended_lines (concat lines) ≡ lines
lines_again [] are = refl
lines_again (line ∷ []) are = rw (append-nil line) are
lines_again (line ∷ next ∷ lines) are = are.0 (concat (next ∷ lines)) ∙ ap (λ ls. line ∷ ls) (lines_again (next ∷ lines) are.1)

lines_are : (text : List ℕ) → AreLines (ended_lines text)
lines_are [] = tt
lines_are (b ∷ bs) = by_test (b == 10) refl (lines_are bs) where
  fed : (lines : List (List ℕ)) → (b == 10) ≡ true → AreLines lines → AreLines ((b ∷ []) ∷ lines)
  fed [] e are = rw e
  fed (line ∷ lines) e are = ((λ rest. rw e), are)

  onto : (lines : List (List ℕ)) → (b == 10) ≡ false → AreLines lines → AreLines (onto_first b lines)
  onto [] e are = rw e
  onto (line ∷ []) e are = rw (e, are)
  onto (line ∷ next ∷ lines) e are = ((λ rest. rw (e, are.0 rest)), are.1)

  by_test : (t : Bool) → (b == 10) ≡ t → AreLines (ended_lines bs) → AreLines (ended_lines (b ∷ bs))
  by_test true e are = rw e (fed (ended_lines bs) e are)
  by_test false e are = rw e (onto (ended_lines bs) e are)

-- a group of lines between those that pass is consecutive in the text, and none of its lines passes
record IsPart (p : List ℕ → Bool) (part : List (List ℕ)) : Type 0 where
  lines : AreLines part
  uncut : filter p part ≡ []

parts_are : (p : List ℕ → Bool) (lines : List (List ℕ)) → AreLines lines → AllByRecursion (IsPart p) (slice_split p lines)
parts_are p [] are = (record { lines = tt; uncut = refl }, tt)
parts_are p (line ∷ []) are = by_test (p line) refl where
  by_test : (t : Bool) → p line ≡ t → AllByRecursion (IsPart p) (slice_split p (line ∷ []))
  by_test true e = rw e (record { lines = tt; uncut = refl }, (record { lines = tt; uncut = refl }, tt))
  by_test false e = rw e (record { lines = are; uncut = rw e }, tt)
parts_are p (line ∷ next ∷ lines) are = by_test (p line) refl (parts_are p (next ∷ lines) are.1) where
  alone : ended_lines line ≡ line ∷ []
  alone = let ended : ended_lines (line ++ []) ≡ line ∷ [] = are.0 [] in rw (append-nil line) at ended

  onto : p line ≡ false → (parts : List (List (List ℕ))) → AllByRecursion (IsPart p) parts
      → AllByRecursion (IsPart p) (onto_first line parts)
  onto e [] all = (record { lines = alone; uncut = rw e }, tt)
  onto e ([] ∷ parts) all = (record { lines = alone; uncut = rw e }, all.1)
  onto e ((first ∷ part) ∷ parts) all = (record { lines = (are.0, all.0.lines); uncut = rw e all.0.uncut }, all.1)

  by_test : (t : Bool) → p line ≡ t → AllByRecursion (IsPart p) (slice_split p (next ∷ lines))
      → AllByRecursion (IsPart p) (slice_split p (line ∷ next ∷ lines))
  by_test true e all = rw e (record { lines = tt; uncut = refl }, all)
  by_test false e all = rw e (onto e (slice_split p (next ∷ lines)) all)

pub pieces_uncut : (input : List ℕ) → All (λ piece. cuts_of piece ≡ []) (pieces_of input)
pieces_uncut input =
    All-from_recursion _ (pieces_of input)
    (joined (slice_split is_cut (ended_lines input)) (parts_are is_cut (ended_lines input) (lines_are input))) where
      joined : (parts : List (List (List ℕ))) → AllByRecursion (IsPart is_cut) parts
          → AllByRecursion (λ piece. cuts_of piece ≡ []) (map concat parts)
      joined [] all = tt
      joined (part ∷ parts) all = (ap (filter is_cut) (lines_again part all.0.lines) ∙ all.0.uncut, joined parts all.1)
