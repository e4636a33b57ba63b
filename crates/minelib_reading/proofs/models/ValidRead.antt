-- Instances and CPITs that are read are valid.
use Rattle.std.specs.Prelude.{List, Ok, slice_index_or, ℕ}
use Rattle.std.proofs.Common.{[], arith, length, refl, subst, sym, ◌+◌, ◌<◌, ◌∙◌, ◌∷◌, ◌≡◌, ◌≤◌}
use Rattle.std.proofs.lemmas.List.{length-map}
use Rattle.plan_parts.specs.declared.block.Block.{Block}
use Rattle.mine_instance.specs.Instance.{Instance}
use Rattle.mine_instance.specs.Valid.{AreCoefs, ArePredsOf, IsValid}
use Rattle.mine_instance.specs.cpit.Cpit.{CpitParts}
use Rattle.mine_instance.specs.cpit.CpitInvariant.{IsCpit}
use Rattle.text_lines.specs.TextLines.{fields_of, lines_in}
use Rattle.minelib_lines.specs.declared.problem.Problem.{Problem}
use Rattle.minelib_lines.specs.declared.problem.Problem.TheVariants as problem
use Rattle.minelib_reading.proofs.lines.FormFacts.{fields_fit}
use Rattle.minelib_reading.proofs.lines.ItemLines.{each_item}
use Rattle.minelib_reading.proofs.models.ValidModel.{IsModel, encoded_model}
use Rattle.minelib_reading.proofs.encoded.EncodedDenotes.{cpit_encoded, denoted_encoded, model_encoded}
use Rattle.minelib_reading.proofs.encoded.EncodedRead.{blocks_exact}
use Rattle.minelib_reading.specs.BlockText.{blocks_in}
use Rattle.minelib_reading.specs.Denotes.{Denotes, DenotesCpit, cpit_denoted, cpit_read}
use Rattle.minelib_reading.specs.ModelDraft.{ModelDraftView}
use Rattle.minelib_reading.specs.ModelText.{model_in}
use Rattle.minelib_reading.specs.StatedModel.{alone, model_of, model_of_cpit, stated_by}
use Rattle.minelib_reading.specs.encoded.EncodedItems.{EncodesBlock, EncodesPreds}
use Rattle.minelib_reading.specs.encoded.EncodedTexts.{EncodeBlocks, EncodeCpit}

pub model_is_valid : (problem : Problem) (n : ℕ) (text : List ℕ) (d : ModelDraftView) → model_in problem n text ≡ Ok d
    → IsModel problem n (stated_by d)
model_is_valid problem n text d e = encoded_model problem n (lines_in text) (stated_by d) (model_encoded problem n text d e)

-- there are at most 64,000,000 blocks, since the last block has an identifier
few_encoded : (text : List ℕ) (blocks : List Block) → EncodeBlocks text blocks → length blocks ≤ 64000000
few_encoded text [] are = omega arith
few_encoded text (b ∷ blocks) are =
    let last = each_item (λ id line b. EncodesBlock id (fields_of line) b) (λ id _. id < 64000000) (λ id line b s. (fields_fit (fields_of line) _ s).0)
    0 (lines_in text) (b ∷ blocks) are (length blocks) b (omega arith) in
    omega (arith, last)

pub few_blocks : (text : List ℕ) (blocks : List Block) → blocks_in text ≡ Ok blocks → length blocks ≤ 64000000
few_blocks text blocks e = few_encoded text blocks ((blocks_exact text).reported blocks e)

-- the instance that three texts denote is valid
pub read_valid : (blocks prec pcpsp : List ℕ) (i : Instance) → Denotes blocks prec pcpsp i → IsValid i
read_valid blocks prec pcpsp i e =
    let are = denoted_encoded blocks prec pcpsp i e in
    let n = length i.blocks in
    let model = encoded_model problem.Pcpsp n (lines_in pcpsp) (model_of i) are.of_model in
    record {
      lengths = record { few = few_encoded blocks i.blocks are.of_blocks; preds = are.of_preds.0; values = model.count };
      preds = λ id within.
          let place : 0 + id ≡ id = omega arith in
          subst (λ own. ArePredsOf own n (slice_index_or i.preds id [])) place (each_item (λ own line ids. EncodesPreds n own (fields_of line) ids)
          (λ own ids. ArePredsOf own n ids) (λ own line ids s. s.1) 0 (lines_in prec) i.preds are.of_preds.1 id [] within);
      horizon = model.horizon;
      destinations = model.destinations;
      coefs = model.coefs;
      limits = model.limits;
    }

-- a constrained pit limit problem that a text encodes has its lengths, ranges and orders, and one value for each block
encoded_cpit_valid : (n : ℕ) (text : List ℕ) (c : CpitParts) → n ≤ 64000000 → EncodeCpit n text c → IsCpit c × (length c.values ≡ n)
encoded_cpit_valid n text c few are =
    let m = encoded_model problem.Cpit n (lines_in text) (model_of_cpit c) are in
    let count : length c.values ≡ n = sym (length-map c.values alone) ∙ m.count in (
      record {
        few = omega (arith, count);
        horizon = m.horizon;
        coefs = subst (λ n. AreCoefs n 1 c.resources c.coefs) (sym count) m.coefs;
        limits = m.limits;
      },
      count,
    )

pub read_cpit_valid : (n : ℕ) (text : List ℕ) (c : CpitParts) → n ≤ 64000000 → DenotesCpit n text c → IsCpit c × (length c.values ≡ n)
read_cpit_valid n text c few e = encoded_cpit_valid n text c few (cpit_encoded n text c e)

pub cpit_is_valid : (n : ℕ) (text : List ℕ) (d : ModelDraftView) → n ≤ 64000000 → model_in problem.Cpit n text ≡ Ok d
    → IsCpit (cpit_read d) × (length (cpit_read d).values ≡ n)
unfolding cpit_denoted
cpit_is_valid n text d few e = read_cpit_valid n text (cpit_read d) few (rw e refl)
