-- The results of a counting reader for a feed's text.
use Rattle.std.specs.Prelude.{Err, List, Ok, Result, sum_by, ℕ}
use Rattle.std.proofs.Common.{[], ap, length, sym, ◌∙◌, ◌≡◌}
use Rattle.devices.specs.feeds.Fed.{IfFed, fed_fault}
use Rattle.devices.specs.feeds.FeedState.{FeedState}
use Rattle.devices.specs.declared.feeds.fed_fault.FedFault.{FedFault}
use Rattle.devices.specs.declared.feeds.fed_fault.FedFault.TheVariants.{Text, Unread}
use Rattle.pit_units.specs.OrMemory.{Gives}
use Rattle.pit_units.specs.Steps.{◌>>=◌}
use Rattle.pit_units.specs.declared.or_memory.OrMemory.{OrMemory}
use Rattle.pit_units.specs.declared.or_memory.OrMemory.TheVariants.{Fault, OutOfMemory}
use Rattle.plan_parts.specs.declared.block.Block.{Block}
use Rattle.text_lines.specs.Fed.{IsFedReading}
use Rattle.text_lines.specs.TextLines.{end_of}
use Rattle.text_lines.specs.declared.text_fault.LineFault.{LineFault}
use Rattle.minelib_lines.specs.declared.problem.Problem.{Problem}
use Rattle.minelib_reading.proofs.encoded.EncodedRead.{preds_finished, preds_stopped}
use Rattle.minelib_reading.specs.BlockText.{with_block}
use Rattle.minelib_reading.specs.FedCounts.{IsFedAnswer, arcs_counted, blocks_counted, model_counted}
use Rattle.minelib_reading.specs.ModelDraft.{ModelDraftView, blank_model}
use Rattle.minelib_reading.specs.ModelText.{finish_model, line_stated, model_in}
use Rattle.minelib_reading.specs.PrecText.{finish_preds, preds_in}
use Rattle.minelib_reading.specs.inner.LinesTaken.{PrecDraftView, admit_preds, no_lists}

pub blocks_reported : (limit : ℕ) (old new : FeedState) (end : ℕ) (after : List Block) → IsFedReading with_block limit old new [] after (Ok end)
    → IsFedAnswer blocks_counted limit old new (Ok (length after))
unfolding blocks_counted
blocks_reported limit old new end after read = record {
  text = read.text;
  is_text = read.is_text;
  answers = ap (λ r. r >>= λ blocks. Ok (length blocks)) (sym read.reads.0);
}

pub blocks_invalid : (limit : ℕ) (old new : FeedState) (after : List Block) (fault : FedFault LineFault)
    → IfFed {A = ℕ} (Err fault) (IsFedReading with_block limit old new [] after)
    → IfFed {A = ℕ} (Err fault) (IsFedAnswer blocks_counted limit old new)
unfolding blocks_counted
blocks_invalid limit old new after (Text fault) read = record {
  text = read.text;
  is_text = read.is_text;
  answers = ap (λ r. r >>= λ blocks. Ok (length blocks)) (sym read.reads);
}
blocks_invalid limit old new after (Unread fault) read = tt

-- all lines were read, and their result is finished like this
arcs_finished : (n : ℕ) (limit : ℕ) (old new : FeedState) (end : ℕ) (after : PrecDraftView) (r : Result (List (List ℕ)) LineFault)
    → IsFedReading admit_preds limit old new (no_lists n) after (Ok end) → finish_preds after.blocks end after.lists ≡ r
    → IsFedAnswer (arcs_counted n) limit old new (r >>= λ all. Ok (sum_by length all))
unfolding arcs_counted
arcs_finished n limit old new end after r read finished =
    let whole = preds_finished n read.text after read.reads.0 in
    let stated : preds_in n read.text ≡ r =
    sym whole ∙ ap (λ e. finish_preds after.blocks e after.lists) (sym read.reads.1) ∙ finished in
    record {
      text = read.text;
      is_text = read.is_text;
      answers = sym (ap (λ r. r >>= λ all. Ok (sum_by length all)) stated);
    }

pub arcs_reported : (n : ℕ) (limit : ℕ) (old new : FeedState) (end : ℕ) (after : PrecDraftView) (lists : List (List ℕ))
    → IsFedReading admit_preds limit old new (no_lists n) after (Ok end) → finish_preds after.blocks end after.lists ≡ Ok lists
    → IsFedAnswer (arcs_counted n) limit old new (Ok (sum_by length lists))
arcs_reported n limit old new end after lists read finished = arcs_finished n limit old new end after (Ok lists) read finished

pub arcs_lacking : (n : ℕ) (limit : ℕ) (old new : FeedState) (end : ℕ) (after : PrecDraftView) (error : OrMemory LineFault)
    → IsFedReading admit_preds limit old new (no_lists n) after (Ok end)
    → Gives {A = List (List ℕ)} (λ x. x) (Err error) (finish_preds after.blocks end after.lists)
    → IfFed {A = ℕ} (Err (fed_fault error)) (IsFedAnswer (arcs_counted n) limit old new)
arcs_lacking n limit old new end after (Fault fault) read finished = arcs_finished n limit old new end after (Err fault) read finished
arcs_lacking n limit old new end after OutOfMemory read finished = tt

pub arcs_invalid : (n : ℕ) (limit : ℕ) (old new : FeedState) (after : PrecDraftView) (fault : FedFault LineFault)
    → IfFed {A = ℕ} (Err fault) (IsFedReading admit_preds limit old new (no_lists n) after)
    → IfFed {A = ℕ} (Err fault) (IsFedAnswer (arcs_counted n) limit old new)
unfolding arcs_counted
arcs_invalid n limit old new after (Text fault) read =
    let stated : preds_in n read.text ≡ Err fault = preds_stopped n read.text after (Fault fault) read.reads in
    record {
      text = read.text;
      is_text = read.is_text;
      answers = sym (ap (λ r. r >>= λ all. Ok (sum_by length all)) stated);
    }
arcs_invalid n limit old new after (Unread fault) read = tt

-- the same for a model file
model_finished : (problem : Problem) (n : ℕ) (limit : ℕ) (old new : FeedState) (end : ℕ) (after : ModelDraftView)
    (r : Result ModelDraftView LineFault) → IsFedReading line_stated limit old new (blank_model problem n) after (Ok end)
    → finish_model end after ≡ r
    → IsFedAnswer (model_counted problem n) limit old new (r >>= λ d. Ok (length d.coefs, length d.limits))
unfolding model_counted
model_finished problem n limit old new end after r read finished =
    let stated : model_in problem n read.text ≡ r =
    ap (λ r. r >>= finish_model (end_of read.text)) read.reads.0
    ∙ ap (λ e. finish_model e after) (sym read.reads.1) ∙ finished in
    record {
      text = read.text;
      is_text = read.is_text;
      answers = sym (ap (λ r. r >>= λ d. Ok (length d.coefs, length d.limits)) stated);
    }

pub model_reported : (problem : Problem) (n : ℕ) (limit : ℕ) (old new : FeedState) (end : ℕ) (after d : ModelDraftView)
    → IsFedReading line_stated limit old new (blank_model problem n) after (Ok end) → finish_model end after ≡ Ok d
    → IsFedAnswer (model_counted problem n) limit old new (Ok (length d.coefs, length d.limits))
model_reported problem n limit old new end after d read finished = model_finished problem n limit old new end after (Ok d) read finished

pub model_lacking : (problem : Problem) (n : ℕ) (limit : ℕ) (old new : FeedState) (end : ℕ) (after : ModelDraftView)
    (error : OrMemory LineFault) → IsFedReading line_stated limit old new (blank_model problem n) after (Ok end)
    → Gives {A = ModelDraftView} (λ x. x) (Err error) (finish_model end after)
    → IfFed {A = ℕ × ℕ} (Err (fed_fault error)) (IsFedAnswer (model_counted problem n) limit old new)
model_lacking problem n limit old new end after (Fault fault) read finished =
    model_finished problem n limit old new end after (Err fault) read finished
model_lacking problem n limit old new end after OutOfMemory read finished = tt

pub model_invalid : (problem : Problem) (n : ℕ) (limit : ℕ) (old new : FeedState) (after : ModelDraftView) (fault : FedFault LineFault)
    → IfFed {A = ℕ} (Err fault) (IsFedReading line_stated limit old new (blank_model problem n) after)
    → IfFed {A = ℕ × ℕ} (Err fault) (IsFedAnswer (model_counted problem n) limit old new)
unfolding model_counted
model_invalid problem n limit old new after (Text fault) read =
    let stated : model_in problem n read.text ≡ Err fault =
    ap (λ r. r >>= finish_model (end_of read.text)) read.reads in
    record {
      text = read.text;
      is_text = read.is_text;
      answers = sym (ap (λ r. r >>= λ d. Ok (length d.coefs, length d.limits)) stated);
    }
model_invalid problem n limit old new after (Unread fault) read = tt
