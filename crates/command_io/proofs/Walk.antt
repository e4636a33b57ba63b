-- The search through the lines of a text up to its first cut.
use Rattle.std.proofs.Common.{◌≡◌, ℕ, ◌+◌, ◌<◌, ◌≤◌, false, List, [], ◌∷◌, ◌++◌, length, take, drop, map, get_or, refl, sym, ◌∙◌, ap, append_assoc, length-append, arith, IfSome, MatchOption, Option, Some, None, Bor}
use Rattle.std.specs.List.{concat, onto_first, slice_split}
use Rattle.std.proofs.lemmas.List.{drop-drop}
use Rattle.std.proofs.lemmas.List.Splits.{slice_split-cons_no, length-slice_split}
use Rattle.std.proofs.Math.Seq.{take-add}
use Rattle.command_io.specs.Pieces.{ended_lines, is_cut, pieces_of, plan_piece, zone_pieces}
use Rattle.command_io.proofs.Lines.{BeginsWithLine}

-- no line before this place cuts the text
pub record IsUncut (text : List ℕ) (place : ℕ) : Type 0 where
  pub within : place ≤ length text
  pub plan : plan_piece text ≡ take place text ++ plan_piece (drop place text)
  pub zones : zone_pieces text ≡ zone_pieces (drop place text)

-- the parts of some lines
abbrev pieces_in : List (List ℕ) → List (List ℕ)
pieces_in lines = map concat (slice_split is_cut lines)

-- there is always a first part
pub pieces_first : (text : List ℕ) → pieces_of text ≡ plan_piece text ∷ zone_pieces text
pieces_first text = by_parts (slice_split is_cut (ended_lines text)) (omega (arith, length-slice_split is_cut (ended_lines text))) where
  by_parts : (parts : List (List (List ℕ))) → 0 < length parts
      → map concat parts ≡ get_or (map concat parts) 0 [] ∷ drop 1 (map concat parts)
  by_parts [] some = absurd (omega arith)
  by_parts (part ∷ parts) some = refl

-- a line that is no cut begins the first part
uncut_line : (line : List ℕ) (lines : List (List ℕ)) → is_cut line ≡ false
    → pieces_in (line ∷ lines) ≡ (line ++ get_or (pieces_in lines) 0 []) ∷ drop 1 (pieces_in lines)
uncut_line line lines e = rw (slice_split-cons_no is_cut line lines e) (by_parts line (slice_split is_cut lines)) where
  by_parts : (line : List ℕ) (parts : List (List (List ℕ)))
      → map concat (onto_first line parts) ≡ (line ++ get_or (map concat parts) 0 []) ∷ drop 1 (map concat parts)
  by_parts line [] = refl
  by_parts line (part ∷ parts) = refl

pub uncut_on : (text : List ℕ) (place n : ℕ) → place + n ≤ length text → BeginsWithLine (drop place text) n
    → is_cut (take n (drop place text)) ≡ false → IsUncut text place → IsUncut text (place + n)
uncut_on text place n within line e uncut =
    let pieces : pieces_of (drop place text) ≡ (take n (drop place text) ++ plan_piece (drop (place + n) text))
    ∷ zone_pieces (drop (place + n) text)
    = rw (← drop-drop n place text) (ap pieces_in line ∙ uncut_line (take n (drop place text)) (ended_lines (drop n (drop place text))) e) in
    record {
      within = within;
      plan = uncut.plan ∙ ap (λ ps. take place text ++ get_or ps 0 []) pieces
          ∙ rw (take-add place n text) (sym (append_assoc (take place text) _ _));
      zones = uncut.zones ∙ ap (drop 1) pieces;
    }

-- the parts of the bytes after a cut, and a number that falls with each of them
abbrev pub pieces_after : Option (Bor (List ℕ)) → List (List ℕ)
pieces_after None = []
pieces_after (Some rest) = pieces_of rest.now

abbrev pub steps_after : Option (Bor (List ℕ)) → ℕ
steps_after None = 0
steps_after (Some rest) = 1 + length rest.now

-- another part is cut off
pub cut_on : (zones more cut : List (List ℕ)) (rest zone : List ℕ) (next : Option (Bor (List ℕ))) → zones ≡ more ++ pieces_of rest
    → zone ≡ plan_piece rest
    → MatchOption next (zone_pieces rest ≡ []) (λ following. zone_pieces rest ≡ pieces_of following.now) → cut ≡ more ++ zone ∷ []
    → zones ≡ cut ++ pieces_after next
cut_on zones more cut rest zone next before first further push =
    let same : pieces_of rest ≡ zone ∷ pieces_after next = rw (first, ← by_next next further) (pieces_first rest) in
    before ∙ rw (push, same) (sym (append_assoc more (zone ∷ []) (pieces_after next))) where
      by_next : (next : Option (Bor (List ℕ))) → MatchOption next (zone_pieces rest ≡ []) (λ following. zone_pieces rest ≡ pieces_of following.now)
          → zone_pieces rest ≡ pieces_after next
      by_next None e = e
      by_next (Some following) e = e

-- if something remains to be cut, there are more parts than are stored
pub more_than_held : (zones held : List (List ℕ)) (rest : List ℕ) → zones ≡ held ++ pieces_of rest → length held < length zones
more_than_held zones held rest e = rw (e, length-append held (pieces_of rest), pieces_first rest) (omega arith)

-- another part is stored: it fits if the earlier parts did not reach the maximum, and less remains to be cut
pub one_more_fits : (held more : List (List ℕ)) (piece : List ℕ) (most n : ℕ) → more ≡ held ++ piece ∷ [] → length held ≤ most
    → n ≡ length held → (n ≡ most → ⊥) → length more ≤ most
one_more_fits held more piece most n push fit same differs =
    omega (arith, ap length push, length-append held (piece ∷ []), fit, same, differs)

pub less_remaining : (held more : List (List ℕ)) (piece : List ℕ) (rest : Bor (List ℕ)) (following next : Option (Bor (List ℕ))) (size : ℕ)
    → more ≡ held ++ piece ∷ []
    → following ≡ Some rest → IfSome next (λ r. length r.now < length rest.now) → length held + steps_after following ≤ size
    → length more + steps_after next ≤ size
less_remaining held more piece rest following next size push is shorter fit =
    let before : length held + (1 + length rest.now) ≤ size = rw is at fit in
    omega (arith, ap length push, length-append held (piece ∷ []), before, falls next shorter)
  where
    falls : (next : Option (Bor (List ℕ))) → IfSome next (λ r. length r.now < length rest.now) → steps_after next ≤ length rest.now
    falls None h = omega arith
    falls (Some r) h = omega (arith, h)
