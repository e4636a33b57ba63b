-- Three texts encode an instance, and one encodes a constrained pit limit problem, by their lines in order.
use Rattle.std.specs.Prelude.{◌≡◌, ◌≢◌, ℕ, List, length}
use Rattle.plan_parts.specs.declared.block.Block.{Block}
use Rattle.mine_instance.specs.cpit.Cpit.{CpitParts}
use Rattle.mine_instance.specs.Instance.{Instance}
use Rattle.minelib_reading.specs.PrecText.{lines_missing}
use Rattle.minelib_reading.specs.encoded.EncodedItems.{EncodesBlock, EncodesPreds}
use Rattle.minelib_reading.specs.encoded.EncodedLines.{AreLines}
use Rattle.minelib_reading.specs.encoded.EncodedModel.{AreModelLines}
use Rattle.minelib_reading.specs.StatedModel.{model_of, model_of_cpit}
use Rattle.text_lines.specs.TextLines.{end_of, fields_of, lines_in}
use Rattle.text_lines.specs.declared.text_fault.LineFault.{LineFault}
use Rattle.minelib_lines.specs.declared.problem.Problem.TheVariants.{Pcpsp, Cpit}

-- a line of a block file after `before` others, and the line of a block in a precedence file of n blocks
abbrev pub EncodesBlockLine : ℕ → List ℕ → Block → Type 0
EncodesBlockLine before line b = EncodesBlock before (fields_of line) b

abbrev pub EncodesPredsLine : ℕ → ℕ → List ℕ → List ℕ → Type 0
EncodesPredsLine n own line ids = EncodesPreds n own (fields_of line) ids

-- one line for each block, in order of identifier
abbrev pub EncodeBlocks : List ℕ → List Block → Type 0
EncodeBlocks text blocks = AreLines EncodesBlockLine 0 (lines_in text) blocks

-- one line with the predecessors of each of n blocks, in order of identifier
abbrev pub EncodePreds : ℕ → List ℕ → List (List ℕ) → Type 0
EncodePreds n text lists = (length lists ≡ n) × AreLines (EncodesPredsLine n) 0 (lines_in text) lists

-- each line encodes the predecessors of a block, but the number of lines is not n
pub record MissesLines (n : ℕ) (text : List ℕ) (fault : LineFault) : Type 0 where
  pub lists : List (List ℕ)
  pub encoded : AreLines (EncodesPredsLine n) 0 (lines_in text) lists
  pub other_count : length lists ≢ n
  pub is : fault ≡ lines_missing (end_of text)

-- the lines of the three files encode the blocks, the predecessors and the model of the instance
pub record EncodeInstance (blocks prec pcpsp : List ℕ) (i : Instance) : Type 0 where
  pub of_blocks : EncodeBlocks blocks i.blocks
  pub of_preds : EncodePreds (length i.blocks) prec i.preds
  pub of_model : AreModelLines Pcpsp (length i.blocks) (lines_in pcpsp) (model_of i)

-- the lines of the file encode the constrained pit limit problem of n blocks
abbrev pub EncodeCpit : ℕ → List ℕ → CpitParts → Type 0
EncodeCpit n text c = AreModelLines Cpit n (lines_in text) (model_of_cpit c)
