-- The effect of writing parts on a sink and a buffer, and the contents of a sink that was cut off.
use Rattle.std.proofs.Common.{◌≡◌, ℕ, ◌+◌, List, [], ◌++◌, take, drop, subst, sym, ◌∙◌, ap}
use Rattle.std.specs.List.{concat}
use Rattle.std.proofs.lemmas.List.{take-append-drop}
use Rattle.std.proofs.lemmas.List.Folds.{concat-append}
use Rattle.std.proofs.Math.Seq.{take-add}
use Rattle.devices.specs.sinks.SinkState.{SinkState}
use Rattle.devices.specs.sinks.SinkSteps.{IsAppended, IsAppendCut}
use Rattle.devices.specs.sinks.Writes.{IsWrittenOn}
use Rattle.devices.proofs.Prefixes.{cut_before, cut_then, written_then}
use Rattle.minelib_writing.proofs.SectionsWritten.{held_cut}

-- the parts before a position, and the parts from it on
in_two : (parts : List (List ℕ)) (i : ℕ) → concat (take i parts) ++ concat (drop i parts) ≡ concat parts
in_two parts i = sym (concat-append (take i parts) (drop i parts)) ∙ ap concat (take-append-drop i parts)

-- all parts before a position were written, and then n more
pub parts_then : {before mid after : List ℕ} {old between new : SinkState} (parts : List (List ℕ)) (i n : ℕ)
    → IsWrittenOn (concat (take i parts)) before mid old between → IsWrittenOn (concat (take n (drop i parts))) mid after between new
    → IsWrittenOn (concat (take (i + n) parts)) before after old new
parts_then {before} {mid} {after} {old} {between} {new} parts i n first then =
    subst (λ text. IsWrittenOn text before after old new)
    (sym (ap concat (take-add i n parts) ∙ concat-append (take i parts) (take n (drop i parts))))
    (record { appended = written_then first.appended then.appended; room = λ room. then.room (first.room room) })

-- all parts before a position were written, and the others were cut off
pub rest_cut : {n : ℕ} {before mid : List ℕ} {old between new : SinkState} (parts : List (List ℕ)) (i : ℕ)
    → IsAppended (concat (take i parts)) before mid old between → IsAppendCut n (concat (drop i parts)) mid between new
    → IsAppendCut n (concat parts) before old new
rest_cut {n} {before} {mid} {old} {between} {new} parts i first cut =
    subst (λ text. IsAppendCut n text before old new) (in_two parts i) (cut_then first cut)

-- the buffer took the first parts, and its contents were cut off
pub prefix_cut : {n : ℕ} {before after : List ℕ} {old new : SinkState} (parts : List (List ℕ)) (i : ℕ)
    → after ≡ before ++ concat (take i parts) → IsAppendCut n [] after old new → IsAppendCut n (concat parts) before old new
prefix_cut {n} {before} {after} {old} {new} parts i e cut =
    subst (λ text. IsAppendCut n text before old new) (in_two parts i)
    (cut_before (concat (drop i parts)) (held_cut (concat (take i parts)) e cut))
