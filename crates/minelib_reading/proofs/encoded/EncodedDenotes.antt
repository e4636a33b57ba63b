-- Texts denote an instance, and a text a CPIT, if and only if their lines encode it.
use Rattle.std.specs.Prelude.{List, Ok, pos, ℕ, ℤ}
use Rattle.std.proofs.Common.{All, [], ap, arith, length, map, refl, subst, sym, ◌∙◌, ◌∷◌, ◌≡◌}
use Rattle.std.proofs.lemmas.List.Elements.{All-head, All-tail}
use Rattle.std.specs.List.{flat_map}
use Rattle.plan_parts.specs.declared.block.Block.{Block}
use Rattle.mine_instance.specs.Instance.{Instance}
use Rattle.mine_instance.specs.cpit.Cpit.{CpitParts}
use Rattle.mine_instance.specs.cpit.CpitInvariant.{cpit_of}
use Rattle.text_lines.proofs.ReadSteps.{bind_then, in_file_ok, same_ok, then_ok}
use Rattle.text_lines.specs.Reading.{in_file, read_lines}
use Rattle.text_lines.specs.TextLines.{lines_in}
use Rattle.text_lines.specs.declared.text_fault.TextFile.TheVariants.{Blocks, Cpit, Pcpsp, Prec}
use Rattle.minelib_lines.specs.declared.header_key.HeaderKey.TheVariants as key
use Rattle.minelib_lines.specs.declared.problem.Problem.{Problem}
use Rattle.minelib_lines.specs.declared.problem.Problem.TheVariants as problem
use Rattle.minelib_reading.proofs.models.ValidModel.{encoded_model}
use Rattle.minelib_reading.proofs.encoded.EncodedModelBack.{encoded_stated}
use Rattle.minelib_reading.proofs.encoded.EncodedModelRead.{StateModel, stated_encoded}
use Rattle.minelib_reading.proofs.encoded.EncodedRead.{blocks_exact, lists_exact}
use Rattle.minelib_reading.specs.BlockText.{blocks_in}
use Rattle.minelib_reading.specs.Denotes.{Denotes, DenotesCpit, cpit_denoted, cpit_read, denoted, instance_read}
use Rattle.minelib_reading.specs.HeaderNumbers.{count_in}
use Rattle.minelib_reading.specs.ModelDraft.{ModelDraftView, blank_model, has_all_parts}
use Rattle.minelib_reading.specs.ModelText.{line_stated, model_in}
use Rattle.minelib_reading.specs.PrecText.{preds_in}
use Rattle.minelib_reading.specs.StatedModel.{StatedModel, alone, model_of, model_of_cpit, stated_by}
use Rattle.minelib_reading.specs.encoded.EncodedModel.{AreModelLines}
use Rattle.minelib_reading.specs.encoded.EncodedTexts.{EncodeCpit, EncodeInstance}

-- the lines state one after the other what is read, and what they state is read
model_states : (problem : Problem) (n : ℕ) (text : List ℕ) (d : ModelDraftView) → model_in problem n text ≡ Ok d
    → StateModel problem n (lines_in text) d
model_states problem n text d e =
    bind_then (read_lines line_stated (blank_model problem n) (lines_in text)) _ d e (λ found read rest.
    let t = then_ok (has_all_parts found) _ (Ok found) d rest in
    subst (StateModel problem n (lines_in text)) (same_ok found d t.1) (read, t.0))

states_back : (problem : Problem) (n : ℕ) (text : List ℕ) (d : ModelDraftView) → StateModel problem n (lines_in text) d
    → model_in problem n text ≡ Ok d
states_back problem n text d are = rw (are.0, are.1) refl

-- so they encode what is read, and what they encode is read
pub model_encoded : (problem : Problem) (n : ℕ) (text : List ℕ) (d : ModelDraftView) → model_in problem n text ≡ Ok d
    → AreModelLines problem n (lines_in text) (stated_by d)
model_encoded problem n text d e = stated_encoded problem n (lines_in text) d (model_states problem n text d e)

pub model_back : (problem : Problem) (n : ℕ) (text : List ℕ) (m : StatedModel) → AreModelLines problem n (lines_in text) m
    → (d : ModelDraftView) × (model_in problem n text ≡ Ok d) × (stated_by d ≡ m)
model_back problem n text m are =
    let b = encoded_stated problem n (lines_in text) m are in
    (b.0, states_back problem n text b.0 b.1, b.2)

pub denoted_encoded : (blocks prec pcpsp : List ℕ) (i : Instance) → Denotes blocks prec pcpsp i → EncodeInstance blocks prec pcpsp i
unfolding denoted
denoted_encoded blocks prec pcpsp i e =
    bind_then (in_file Blocks (blocks_in blocks)) _ i e (λ all e1 rest1.
    bind_then (in_file Prec (preds_in (length all) prec)) _ i rest1 (λ lists e2 rest2.
    bind_then (in_file Pcpsp (model_in problem.Pcpsp (length all) pcpsp)) _ i rest2 (λ d e3 rest3.
    subst (EncodeInstance blocks prec pcpsp) (same_ok (instance_read all lists d) i rest3) (record {
      of_blocks = (blocks_exact blocks).reported all (in_file_ok Blocks _ all e1);
      of_preds = (lists_exact (length all) prec).reported lists (in_file_ok Prec _ lists e2);
      of_model = model_encoded problem.Pcpsp (length all) pcpsp d (in_file_ok Pcpsp _ d e3);
    }))))

-- the instance of blocks, their predecessors and a model
abbrev instance_stated : List Block → List (List ℕ) → StatedModel → Instance
instance_stated blocks lists m = record {
  name = m.header.name;
  rate = m.header.rate;
  periods = m.header.periods;
  destinations = m.header.destinations;
  resources = m.header.resources;
  blocks = blocks;
  preds = lists;
  values = m.values;
  coefs = m.coefs;
  limits = m.limits;
}

pub encoded_denoted : (blocks prec pcpsp : List ℕ) (i : Instance) → EncodeInstance blocks prec pcpsp i → Denotes blocks prec pcpsp i
unfolding denoted
encoded_denoted blocks prec pcpsp i h =
    let m = model_back problem.Pcpsp (length i.blocks) pcpsp (model_of i) h.of_model in
    rw (
      (blocks_exact blocks).back i.blocks h.of_blocks,
      (lists_exact (length i.blocks) prec).back i.preds h.of_preds,
      m.1,
    ) (ap (λ m. Ok (instance_stated i.blocks i.preds m)) m.2)

-- the values of a CPIT are the values at its only destination
each_alone : (rows : List (List ℤ)) → All (λ row. length row ≡ 1) rows → map alone (flat_map (λ values. values) rows) ≡ rows
each_alone [] one = refl
each_alone ((v ∷ []) ∷ rows) one = ap (λ more. (v ∷ []) ∷ more) (each_alone rows (All-tail (λ row. length row ≡ 1) (v ∷ []) rows one))
each_alone (row ∷ rows) one = absurd (omega (arith, All-head (λ row. length row ≡ 1) row rows one))

values_joined : (values : List ℤ) → flat_map (λ values. values) (map alone values) ≡ values
values_joined [] = refl
values_joined (v ∷ values) = ap (λ more. v ∷ more) (values_joined values)

pub cpit_encoded : (n : ℕ) (text : List ℕ) (c : CpitParts) → DenotesCpit n text c → EncodeCpit n text c
unfolding cpit_denoted
cpit_encoded n text c e =
    bind_then (in_file Cpit (model_in problem.Cpit n text)) _ c e (λ d e1 rest.
    let read = in_file_ok Cpit _ d e1 in
    let are = model_encoded problem.Cpit n text d read in
    let model = encoded_model problem.Cpit n (lines_in text) (stated_by d) are in
    let one = model.single in
    let rows = sym (each_alone d.values (subst (λ k. All (λ values. length values ≡ k) d.values) one model.destinations.one_each)) in
    let same : stated_by d ≡ model_of_cpit (cpit_read d) =
    λ i. record {
      header = record {
        name = d.name;
        periods = count_in d.header key.Periods;
        destinations = one i;
        resources = count_in d.header key.Resources;
        rate = pos (count_in d.header key.Rate);
      };
      values = rows i;
      coefs = d.coefs;
      limits = d.limits;
    } in
    subst (EncodeCpit n text) (same_ok (cpit_read d) c rest) (subst (AreModelLines problem.Cpit n (lines_in text)) same are))

pub encoded_cpit : (n : ℕ) (text : List ℕ) (c : CpitParts) → EncodeCpit n text c → DenotesCpit n text c
unfolding cpit_denoted
encoded_cpit n text c are =
    let m = model_back problem.Cpit n text (model_of_cpit c) are in
    rw (m.1) (ap Ok (ap cpit_stated m.2 ∙ again))
  where
    cpit_stated : StatedModel → CpitParts
    cpit_stated m = cpit_of m.header.name m.header.rate m.header.periods m.header.resources
        (flat_map (λ values. values) m.values) m.coefs m.limits

    again : cpit_stated (model_of_cpit c) ≡ c
    again = λ i. record c { values = values_joined c.values i }
