use Rattle.text_lines.specs.TextLines.{fields_of}
use Rattle.minelib_reading.proofs.lines.LineFacts.{block_exact, preds_exact}
use Rattle.minelib_reading.proofs.models.ModelSteps.{coef_added, key_encoded, key_read, limit_added, values_added}
use Rattle.minelib_reading.proofs.laws.lines_state_what_they_encode.Goals as goal

pub returns : goal.returns
returns c = record {
  blocks = λ before line b. let x = block_exact before (fields_of line) in (x.reported b, x.back b);
  preds = λ n own line ids. let x = preds_exact n own (fields_of line) in (x.reported ids, x.back ids);
  header = key_encoded;
  read = key_read;
  values = λ d next fields. let x = values_added d fields in (x.reported next, x.back next);
  coefs = λ d next fields. let x = coef_added d fields in (x.reported next, x.back next);
  limits = λ d next fields. let x = limit_added d fields in (x.reported next, x.back next);
}
