-- Parts and cuts in turn are the input.
use Rattle.std.proofs.Common.{◌≡◌, ℕ, ◌==◌, Bool, true, false, List, [], ◌∷◌, ◌++◌, length, map, filter, refl, ap, ◌∙◌, append_assoc, arith}
use Rattle.std.specs.List.{concat, onto_first, slice_split}
use Rattle.std.proofs.lemmas.List.{length-map, length-drop}
use Rattle.std.proofs.lemmas.List.Splits.{length-slice_split}
use Rattle.std.proofs.lemmas.List.Sums.{length-filter}
use Rattle.command_io.specs.Pieces.{ended_lines, is_cut, cuts_of, pieces_of, zone_pieces, woven}

-- the lines of a text, joined, are the text
pub lines_join : (text : List ℕ) → concat (ended_lines text) ≡ text
lines_join [] = refl
lines_join (b ∷ bs) = by_test (b == 10) refl (lines_join bs) where
  onto : (b : ℕ) (lines : List (List ℕ)) → concat (onto_first b lines) ≡ b ∷ concat lines
  onto b [] = refl
  onto b (line ∷ lines) = refl

  by_test : (t : Bool) → (b == 10) ≡ t → concat (ended_lines bs) ≡ bs → concat (ended_lines (b ∷ bs)) ≡ b ∷ bs
  by_test true e rest = rw e (ap (λ xs. b ∷ xs) rest)
  by_test false e rest = rw e (onto b (ended_lines bs) ∙ ap (λ xs. b ∷ xs) rest)

-- a line that begins the first part begins the woven list
woven_onto : (line : List ℕ) (parts : List (List (List ℕ))) (cuts : List (List ℕ))
    → woven (map concat (onto_first line parts)) cuts ≡ line ++ woven (map concat parts) cuts
woven_onto line [] [] = append_assoc line [] []
woven_onto line [] (cut ∷ cuts) = append_assoc line [] (cut ++ concat cuts)
woven_onto line (part ∷ parts) [] = append_assoc line (concat part) (concat (map concat parts))
woven_onto line (part ∷ parts) (cut ∷ cuts) = append_assoc line (concat part) (cut ++ woven (map concat parts) cuts)

-- lines that are split at those that pass, and those that pass, in turn
split_woven : (p : List ℕ → Bool) (lines : List (List ℕ)) → woven (map concat (slice_split p lines)) (filter p lines) ≡ concat lines
split_woven p [] = refl
split_woven p (line ∷ lines) = by_test (p line) refl (split_woven p lines) where
  by_test : (t : Bool) → p line ≡ t → woven (map concat (slice_split p lines)) (filter p lines) ≡ concat lines
      → woven (map concat (slice_split p (line ∷ lines))) (filter p (line ∷ lines)) ≡ line ++ concat lines
  by_test true e rest = rw e (ap (λ xs. line ++ xs) rest)
  by_test false e rest = rw e (woven_onto line (slice_split p lines) (filter p lines) ∙ ap (λ xs. line ++ xs) rest)

pub pieces_woven : (input : List ℕ) → woven (pieces_of input) (cuts_of input) ≡ input
pieces_woven input = split_woven is_cut (ended_lines input) ∙ lines_join input

pub zone_for_each_cut : (input : List ℕ) → length (zone_pieces input) ≡ length (cuts_of input)
zone_for_each_cut input =
    let parts = length-slice_split is_cut (ended_lines input) in
    let pieces = length-map (slice_split is_cut (ended_lines input)) concat in
    let zones = length-drop 1 (pieces_of input) in
    let cuts = length-filter is_cut (ended_lines input) in
    omega arith
