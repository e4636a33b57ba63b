-- The instance that MineLib texts denote, and the constrained pit limit problem that its text denotes.
use Rattle.std.specs.Prelude.{◌≡◌, ℕ, List, length, pos, Result, Ok}
use Rattle.std.specs.List.{flat_map}
use Rattle.pit_units.specs.Steps.{◌>>=◌}
use Rattle.plan_parts.specs.declared.block.Block.{Block}
use Rattle.mine_instance.specs.cpit.Cpit.{CpitParts}
use Rattle.mine_instance.specs.cpit.CpitInvariant.{cpit_of}
use Rattle.mine_instance.specs.Instance.{Instance}
use Rattle.minelib_reading.specs.BlockText.{blocks_in}
use Rattle.minelib_reading.specs.HeaderNumbers.{count_in}
use Rattle.minelib_reading.specs.ModelDraft.{ModelDraftView}
use Rattle.minelib_reading.specs.ModelText.{model_in}
use Rattle.minelib_reading.specs.PrecText.{preds_in}
use Rattle.text_lines.specs.Reading.{in_file}
use Rattle.minelib_lines.specs.declared.header_key.HeaderKey.TheVariants as key
use Rattle.minelib_lines.specs.declared.problem.Problem.TheVariants as problem
use Rattle.text_lines.specs.declared.text_fault.TextFault.{TextFault}
use Rattle.text_lines.specs.declared.text_fault.TextFile.TheVariants.{Blocks, Prec, Pcpsp, Cpit}

-- the instance that three files state
abbrev pub instance_read : List Block → List (List ℕ) → ModelDraftView → Instance
instance_read blocks lists d = record {
  name = d.name;
  rate = pos (count_in d.header key.Rate);
  periods = count_in d.header key.Periods;
  destinations = count_in d.header key.Destinations;
  resources = count_in d.header key.Resources;
  blocks = blocks;
  preds = lists;
  values = d.values;
  coefs = d.coefs;
  limits = d.limits;
}

-- the instance that three texts denote, or the first invalid line: of the blocks, then of the precedences, then of the model
unfoldable pub denoted : List ℕ → List ℕ → List ℕ → Result Instance TextFault
denoted blocks prec pcpsp = do
  all ← in_file Blocks (blocks_in blocks)
  lists ← in_file Prec (preds_in (length all) prec)
  model ← in_file Pcpsp (model_in problem.Pcpsp (length all) pcpsp)
  Ok (instance_read all lists model)

-- the texts denote the instance
abbrev pub Denotes : List ℕ → List ℕ → List ℕ → Instance → Type 0
Denotes blocks prec pcpsp i = denoted blocks prec pcpsp ≡ Ok i

-- the constrained pit limit problem that a file states: one value for each block
abbrev pub cpit_read : ModelDraftView → CpitParts
cpit_read d =
    cpit_of d.name (pos (count_in d.header key.Rate)) (count_in d.header key.Periods) (count_in d.header key.Resources)
    (flat_map (λ values. values) d.values) d.coefs d.limits

-- the constrained pit limit problem of n blocks that a text denotes, or its first invalid line
unfoldable pub cpit_denoted : ℕ → List ℕ → Result CpitParts TextFault
cpit_denoted n text = do
  model ← in_file Cpit (model_in problem.Cpit n text)
  Ok (cpit_read model)

-- the text denotes the constrained pit limit problem of n blocks
abbrev pub DenotesCpit : ℕ → List ℕ → CpitParts → Type 0
DenotesCpit n text c = cpit_denoted n text ≡ Ok c
