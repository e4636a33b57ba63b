-- Blocks and predecessors are read line by line, if and only if their lines encode them.
use Rattle.std.specs.Prelude.{Bool, Err, List, Ok, Result, if◌then◌else◌, ℕ, ◌==◌, ◌⊎◌}
use Rattle.std.proofs.Common.{[], ap, false, inl, inr, length, refl, subst, sym, true, ◌++◌, ◌∙◌, ◌∷◌, ◌≡◌}
use Rattle.std.proofs.lemmas.Bool.{eq-eqb, eqb-true}
use Rattle.pit_units.proofs.Exactly.{Exactly, as_, done, holds, then_}
use Rattle.pit_units.specs.OrMemory.{Gives}
use Rattle.pit_units.specs.Steps.{◌>>=◌}
use Rattle.pit_units.specs.declared.or_memory.OrMemory.{OrMemory}
use Rattle.pit_units.specs.declared.or_memory.OrMemory.TheVariants.{Fault, OutOfMemory}
use Rattle.text_lines.proofs.LinesRead.{first_fault, kept_beside}
use Rattle.text_lines.proofs.ReadSteps.{err_same, then_err}
use Rattle.text_lines.specs.Reading.{IsFirstFault, Leaves, read_lines}
use Rattle.text_lines.specs.TextLines.{Line, end_of, fields_of, lines_in}
use Rattle.text_lines.specs.declared.text_fault.LineFault.{LineFault}
use Rattle.text_lines.specs.declared.text_fault.TextKind.{TextKind}
use Rattle.minelib_reading.proofs.lines.ItemLines.{first_unencoded, items_exact}
use Rattle.minelib_reading.proofs.lines.LineFacts.{block_exact, preds_exact}
use Rattle.minelib_reading.specs.BlockText.{block_stated, blocks_in, with_block}
use Rattle.minelib_reading.specs.PrecText.{finish_preds, lines_missing, preds_in, preds_stated, with_preds}
use Rattle.minelib_reading.specs.inner.LinesTaken.{PrecDraftView, admit_preds, no_lists}
use Rattle.minelib_reading.specs.encoded.EncodedLines.{AreLines, IsFirstInvalidLine}
use Rattle.minelib_reading.specs.encoded.EncodedTexts.{EncodeBlocks, EncodePreds, EncodesBlockLine, EncodesPredsLine, MissesLines}

pub blocks_exact : (text : List ℕ) → Exactly (blocks_in text) (EncodeBlocks text)
blocks_exact text =
    items_exact (λ n line. block_stated n (fields_of line)) EncodesBlockLine (λ n line. block_exact n (fields_of line)) (lines_in text)

-- a precedence file of n blocks from which these lists were read
abbrev pub draft_of : ℕ → List (List ℕ) → PrecDraftView
draft_of n lists = record { blocks = n; lists = lists }

pub preds_read : (n : ℕ) (text : List ℕ)
    → (read_lines admit_preds (no_lists n) (lines_in text) >>= λ d. finish_preds d.blocks (end_of text) d.lists) ≡ preds_in n text
preds_read n text =
    ap (λ r. r >>= λ d. finish_preds d.blocks (end_of text) d.lists)
    (kept_beside (draft_of n) (with_preds n) admit_preds (λ lists line. same (preds_stated n (length lists) (fields_of line)) lists) [] (lines_in text))
    ∙ by (read_lines (with_preds n) [] (lines_in text))
  where
    same : (r : Result (List ℕ) TextKind) (lists : List (List ℕ))
        → (r >>= λ ids. Ok (draft_of n (lists ++ ids ∷ []))) ≡ ((r >>= λ ids. Ok (lists ++ ids ∷ [])) >>= λ next. Ok (draft_of n next))
    same (Ok ids) lists = refl
    same (Err kind) lists = refl

    by : (r : Result (List (List ℕ)) LineFault)
        → ((r >>= λ lists. Ok (draft_of n lists)) >>= λ d. finish_preds d.blocks (end_of text) d.lists)
        ≡ (r >>= finish_preds n (end_of text))
    by (Ok lists) = refl
    by (Err fault) = refl

-- the result after all lines
pub preds_finished : (n : ℕ) (text : List ℕ) (d : PrecDraftView) → read_lines admit_preds (no_lists n) (lines_in text) ≡ Ok d
    → finish_preds d.blocks (end_of text) d.lists ≡ preds_in n text
preds_finished n text d read = sym (ap (λ r. r >>= λ d. finish_preds d.blocks (end_of text) d.lists) read) ∙ preds_read n text

-- the result if a line is invalid, or memory was refused
pub preds_stopped : (n : ℕ) (text : List ℕ) (after : PrecDraftView) (error : OrMemory LineFault)
    → Leaves {A = ℕ} after (Err error) (read_lines admit_preds (no_lists n) (lines_in text))
    → Gives {A = List (List ℕ)} (λ x. x) (Err error) (preds_in n text)
preds_stopped n text after (Fault fault) read =
    sym (preds_read n text) ∙ ap (λ r. r >>= λ d. finish_preds d.blocks (end_of text) d.lists) read
preds_stopped n text after OutOfMemory read = tt

-- the lines of a precedence file, for any number of lines
each_exact : (n : ℕ) (text : List ℕ) → Exactly (read_lines (with_preds n) [] (lines_in text)) (AreLines (EncodesPredsLine n) 0 (lines_in text))
each_exact n text =
    items_exact (λ own line. preds_stated n own (fields_of line)) (EncodesPredsLine n) (λ own line. preds_exact n own (fields_of line)) (lines_in text)

pub lists_exact : (n : ℕ) (text : List ℕ) → Exactly (preds_in n text) (EncodePreds n text)
lists_exact n text =
    as_ (then_ (each_exact n text) (λ lists. holds (lines_missing (end_of text)) (done lists))) to from
  where
    Lines : List (List ℕ) → Type 0
    Lines lists = AreLines (EncodesPredsLine n) 0 (lines_in text) lists

    Ended : List (List ℕ) → Type 0
    Ended all = (lists : List (List ℕ)) × Lines lists × (((length lists == n) ≡ true) × (all ≡ lists))

    to : (all : List (List ℕ)) → Ended all → EncodePreds n text all
    to all h = (ap length h.2.1 ∙ eqb-true (length h.0) n h.2.0, subst Lines (sym h.2.1) h.1)

    from : (all : List (List ℕ)) → EncodePreds n text all → Ended all
    from all h = (all, h.1, (eq-eqb (length all) n h.0, refl))

pub bad_block : (text : List ℕ) (fault : LineFault) → blocks_in text ≡ Err fault
    → IsFirstFault with_block [] (lines_in text) fault × IsFirstInvalidLine EncodesBlockLine (lines_in text) fault.line
bad_block text fault e =
    let first = first_fault with_block (lines_in text) [] fault e in (
      first,
      first_unencoded (λ n line. block_stated n (fields_of line)) EncodesBlockLine (λ n line. block_exact n (fields_of line)) (lines_in text) fault first,
    )

-- the fault of a file that a test ends: an invalid line, or a part that is missing after the last
pub ended_fails : {S : Type 0} (admit : S → List ℕ → Result S TextKind) (s : S) (lines : List Line) (ended : S → Bool) (lacks fault : LineFault)
    → (read_lines admit s lines >>= λ last. if ended last then Ok last else Err lacks) ≡ Err fault
    → IsFirstFault admit s lines fault ⊎ ((last : S) × (read_lines admit s lines ≡ Ok last) × (ended last ≡ false) × (lacks ≡ fault))
ended_fails {S} admit s lines ended lacks fault e = by (read_lines admit s lines) refl e
  where
    by : (r : Result S LineFault) → read_lines admit s lines ≡ r → (r >>= λ last. if ended last then Ok last else Err lacks) ≡ Err fault
        → IsFirstFault admit s lines fault ⊎ ((last : S) × (read_lines admit s lines ≡ Ok last) × (ended last ≡ false) × (lacks ≡ fault))
    by (Ok last) read e = let t = then_err (ended last) lacks fault last e in inr (last, read, t.0, t.1)
    by (Err found) read e = inl (first_fault admit lines s fault (read ∙ ap Err (err_same {B = S} found fault e)))

pub bad_preds : (n : ℕ) (text : List ℕ) (fault : LineFault) → preds_in n text ≡ Err fault
    → (IsFirstFault (with_preds n) [] (lines_in text) fault × IsFirstInvalidLine (EncodesPredsLine n) (lines_in text) fault.line)
    ⊎ MissesLines n text fault
bad_preds n text fault e =
    elim (ended_fails (with_preds n) [] (lines_in text) (λ lists. length lists == n) (lines_missing (end_of text)) fault e) [
      | inl first ↦ inl (
        first,
        first_unencoded (λ own line. preds_stated n own (fields_of line)) (EncodesPredsLine n) (λ own line. preds_exact n own (fields_of line))
            (lines_in text) fault first,
      )
      | inr lacks ↦ inr (record {
        lists = lacks.0;
        encoded = (each_exact n text).reported lacks.0 lacks.1;
        other_count = λ count. absurd (cc (lacks.2, eq-eqb (length lacks.0) n count));
        is = sym lacks.3;
      })
    ]
