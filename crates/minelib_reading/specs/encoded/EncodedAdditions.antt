-- What a line of a model file adds to earlier lines, by what its fields encode.
use Rattle.std.specs.Prelude.{◌≡◌, ◌≢◌, ◌↔◌, ℕ, true, false, List, [], ◌∷◌, ◌++◌, length, ℤ, Ok, IsOk}
use Rattle.plan_parts.specs.PlanInvariant.{is_turned, stands_before}
use Rattle.plan_parts.specs.declared.limit.Limit.{Limit}
use Rattle.mine_instance.specs.Order.{coef_before}
use Rattle.mine_instance.specs.declared.coefs.coef.Coef.{Coef}
use Rattle.minelib_lines.specs.declared.header_key.HeaderKey.{HeaderKey}
use Rattle.minelib_lines.specs.declared.header_key.HeaderKey.TheVariants as key
use Rattle.minelib_lines.specs.StatedHeader.{StatedHeader}
use Rattle.minelib_reading.specs.HeaderNumbers.{count_in, is_given, number_of}
use Rattle.minelib_reading.specs.ModelDraft.{ModelDraftView, is_after, is_heading, last_of}
use Rattle.minelib_reading.specs.ModelText.{item_stated, key_stated}
use Rattle.minelib_reading.specs.StatedModel.{stated_by}
use Rattle.minelib_reading.specs.declared.model.key.Section.{Section}
use Rattle.minelib_reading.specs.declared.model.key.Section.TheVariants.{Heading, Objective, Coefs, Limits}
use Rattle.minelib_reading.specs.encoded.EncodedItems.{EncodesCoef, EncodesLimit, EncodesValues}
use Rattle.minelib_reading.specs.encoded.EncodedModel.{EncodesKey}

-- the numbers of other header keys stay, and so does everything that no key states
pub record KeepsOthers (d : ModelDraftView) (k : HeaderKey) (next : ModelDraftView) : Type 0 where
  pub numbers : (j : HeaderKey) → k ≢ j → number_of next.header j ≡ number_of d.header j
  pub name : k ≢ key.Name → next.name ≡ d.name
  pub rest : next ≡ record d { header = next.header; name = next.name }

-- a single field follows the colon of a header key. It encodes what the model then states for the key; all else is unchanged
abbrev pub StatesKey : ModelDraftView → HeaderKey → List (List ℕ) → ModelDraftView → Type 0
StatesKey d k fields next =
    (value : List ℕ) × (fields ≡ value ∷ []) × EncodesKey d.problem d.blocks (stated_by next).header k value × KeepsOthers d k next

-- before the first section, every value that encodes something for a key that was not read yet is read
abbrev pub ReadsKey : HeaderKey → Type 0
ReadsKey k =
    (d : ModelDraftView) (h : StatedHeader) (value : List ℕ) → is_heading d.section ≡ true → is_given k d.header ≡ false
    → EncodesKey d.problem d.blocks h k value → IsOk (key_stated d k (value ∷ []))

-- the fields encode the values of the next block; or a coefficient, or a limit without reversed ends, that follows the last one
abbrev pub AddsItem : ModelDraftView → Section → List (List ℕ) → ModelDraftView → Type 0
AddsItem d Heading fields next = ⊥
AddsItem d Objective fields next =
    (vs : List ℤ) × (next ≡ record d { values = d.values ++ vs ∷ [] })
    × EncodesValues d.blocks (count_in d.header key.Destinations) (length d.values) fields vs
AddsItem d Coefs fields next =
    (c : Coef) × (next ≡ record d { coefs = d.coefs ++ c ∷ [] })
    × EncodesCoef d.problem d.blocks (count_in d.header key.Destinations) (count_in d.header key.Resources) fields c
    × (is_after coef_before (last_of d.coefs) c ≡ true)
AddsItem d Limits fields next =
    (l : Limit) × (next ≡ record d { limits = d.limits ++ l ∷ [] })
    × EncodesLimit (count_in d.header key.Resources) (count_in d.header key.Periods) fields l
    × (is_turned l.bound ≡ false) × (is_after stands_before (last_of d.limits) l ≡ true)

-- a line of this section states something if and only if its fields encode what it adds
abbrev pub AddsWhatItEncodes : Section → Type 0
AddsWhatItEncodes section =
    (d next : ModelDraftView) (fields : List (List ℕ)) → (item_stated d section fields ≡ Ok next) ↔ AddsItem d section fields next
