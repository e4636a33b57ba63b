-- The effect of writing lines on a sink and a buffer, and the contents of a sink that was cut off.
use Rattle.std.proofs.Common.{◌≡◌, ℕ, ◌+◌, List, [], ◌∷◌, ◌++◌, take, drop, subst, refl, sym, ◌∙◌, ap, append_assoc, append-nil}
use Rattle.std.proofs.lemmas.List.{take-append-drop}
use Rattle.std.proofs.lemmas.Result.{MatchResult-weaker}
use Rattle.std.specs.Prelude.{Result}
use Rattle.std.proofs.Math.Seq.{take-add}
use Rattle.minelib_lines.specs.Lines.{text_of}
use Rattle.devices.specs.sinks.SinkState.{SinkState}
use Rattle.devices.specs.sinks.SinkSteps.{IsAppended, IsAppendCut}
use Rattle.devices.specs.declared.sinks.sink.SinkFault.{SinkFault}
use Rattle.pit_units.specs.declared.or_memory.OrMemory.{OrMemory}
use Rattle.devices.specs.sinks.Writes.{IsWrittenOn, WritesOn}
use Rattle.devices.proofs.Prefixes.{cut_before, cut_then, written_then}
pub use Rattle.devices.proofs.Prefixes.{buffered, cut_at_begin, nothing_put}

pub text_of-append : (xs ys : List (List ℕ)) → text_of (xs ++ ys) ≡ text_of xs ++ text_of ys
text_of-append [] ys = refl
text_of-append (x ∷ xs) ys =
    ap (λ rest. (x ++ 10 ∷ []) ++ rest) (text_of-append xs ys) ∙ sym (append_assoc (x ++ 10 ∷ []) (text_of xs) (text_of ys))

-- lines were cut off, and more were to come
pub lines_cut_before : {n : ℕ} {before : List ℕ} {old new : SinkState} (xs ys : List (List ℕ))
    → IsAppendCut n (text_of xs) before old new → IsAppendCut n (text_of (xs ++ ys)) before old new
lines_cut_before xs ys cut = rw text_of-append (cut_before (text_of ys) cut)

module _ {before mid : List ℕ} {old between new : SinkState} where
  -- lines were written, and then more of them
  pub lines_then : {after : List ℕ} (xs ys : List (List ℕ)) → IsWrittenOn (text_of xs) before mid old between
      → IsWrittenOn (text_of ys) mid after between new → IsWrittenOn (text_of (xs ++ ys)) before after old new
  lines_then xs ys first then =
      record { appended = rw text_of-append (written_then first.appended then.appended); room = λ room. then.room (first.room room) }

  -- lines were written, and the next were cut off
  pub lines_cut_then : {n : ℕ} (xs ys : List (List ℕ)) → IsAppended (text_of xs) before mid old between
      → IsAppendCut n (text_of ys) mid between new → IsAppendCut n (text_of (xs ++ ys)) before old new
  lines_cut_then xs ys first cut = rw text_of-append (cut_then first cut)

  -- all lines before a position were written, and then n more
  pub more_then : {after : List ℕ} (lines : List (List ℕ)) (i n : ℕ) → IsWrittenOn (text_of (take i lines)) before mid old between
      → IsWrittenOn (text_of (take n (drop i lines))) mid after between new → IsWrittenOn (text_of (take (i + n) lines)) before after old new
  more_then lines i n first then = rw take-add (lines_then (take i lines) (take n (drop i lines)) first then)

  -- all lines before a position were written, and the others were cut off
  pub rest_cut : {n : ℕ} (lines : List (List ℕ)) (i : ℕ) → IsAppended (text_of (take i lines)) before mid old between
      → IsAppendCut n (text_of (drop i lines)) mid between new → IsAppendCut n (text_of lines) before old new
  rest_cut {n} lines i first cut =
      subst (λ all. IsAppendCut n (text_of all) before old new) (take-append-drop i lines)
      (lines_cut_then (take i lines) (drop i lines) first cut)

-- lines were written, and a writer continues with more of them
pub continues : {before mid : List ℕ} {old between : SinkState} (after : List ℕ) (new : SinkState) (xs ys : List (List ℕ))
    (result : Result (Unit {0}) (OrMemory SinkFault)) → IsWrittenOn (text_of xs) before mid old between → WritesOn (text_of ys) mid after between new result
    → WritesOn (text_of (xs ++ ys)) before after old new result
continues after new xs ys result first writes =
    MatchResult-weaker result writes (λ _ then. lines_then xs ys first then) (λ _ cut. lines_cut_then xs ys first.appended cut)

-- the first of these lines were cut off, and so are all lines
first_cut : {n : ℕ} {before : List ℕ} {old new : SinkState} (lines : List (List ℕ)) (i : ℕ)
    → IsAppendCut n (text_of (take i lines)) before old new → IsAppendCut n (text_of lines) before old new
first_cut {n} {before} {old} {new} lines i cut =
    subst (λ all. IsAppendCut n (text_of all) before old new) (take-append-drop i lines)
    (lines_cut_before (take i lines) (drop i lines) cut)

-- all lines before a position were written, the next were cut off, and so are all lines
pub more_cut : {n : ℕ} {before mid : List ℕ} {old between new : SinkState} (lines : List (List ℕ)) (i count : ℕ)
    → IsAppended (text_of (take i lines)) before mid old between → IsAppendCut n (text_of (take count (drop i lines))) mid between new
    → IsAppendCut n (text_of lines) before old new
more_cut lines i count first cut = rest_cut lines i first (first_cut (drop i lines) count cut)

-- the buffer took the text, and its contents were cut off
pub held_cut : {n : ℕ} {before after : List ℕ} {old new : SinkState} (text : List ℕ) → after ≡ before ++ text → IsAppendCut n [] after old new
    → IsAppendCut n text before old new
held_cut {n} {before} {after} {old} {new} text e cut =
    subst (λ text. IsAppendCut n text before old new) (append-nil text) (cut_then (buffered text e) cut)

-- the buffer took a line, and its contents were cut off before more lines came
pub line_cut : {n : ℕ} {before after : List ℕ} {old new : SinkState} (line : List ℕ) (lines : List (List ℕ))
    → after ≡ before ++ (line ++ 10 ∷ []) → IsAppendCut n [] after old new → IsAppendCut n (text_of (line ∷ lines)) before old new
line_cut line lines e cut = cut_before (text_of lines) (held_cut (line ++ 10 ∷ []) e cut)
