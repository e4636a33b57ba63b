-- Counts of what a feed's text states.
use Rattle.std.specs.Prelude.{◌≡◌, ℕ, List, length, sum_by, Result, Ok}
use Rattle.devices.specs.feeds.FeedState.{FeedState}
use Rattle.pit_units.specs.Steps.{◌>>=◌}
use Rattle.text_lines.specs.Fed.{IsTextOf}
use Rattle.text_lines.specs.declared.text_fault.LineFault.{LineFault}
use Rattle.minelib_reading.specs.BlockText.{blocks_in}
use Rattle.minelib_reading.specs.ModelText.{model_in}
use Rattle.minelib_reading.specs.PrecText.{preds_in}
use Rattle.minelib_lines.specs.declared.problem.Problem.{Problem}

-- what a rule answers of the text of a feed
pub record IsFedAnswer {A : Type 0} (rule : List ℕ → A) (limit : ℕ) (old new : FeedState) (answer : A) : Type 0 where
  pub text : List ℕ
  pub is_text : IsTextOf limit old new text
  pub answers : answer ≡ rule text

-- the number of blocks that a text states
unfoldable pub blocks_counted : List ℕ → Result ℕ LineFault
blocks_counted text = blocks_in text >>= λ blocks. Ok (length blocks)

-- the number of predecessors that a text states for all of n blocks
unfoldable pub arcs_counted : ℕ → List ℕ → Result ℕ LineFault
arcs_counted n text = preds_in n text >>= λ lists. Ok (sum_by length lists)

-- the numbers of coefficients and limits that a model file of n blocks states
unfoldable pub model_counted : Problem → ℕ → List ℕ → Result (ℕ × ℕ) LineFault
model_counted problem n text = model_in problem n text >>= λ d. Ok (length d.coefs, length d.limits)
