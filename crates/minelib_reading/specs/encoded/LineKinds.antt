-- Invalid lines of predecessors or of section keys, for each kind of fault.
use Rattle.std.specs.Prelude.{◌≡◌, ◌≢◌, ◌↔◌, ℕ, true, false, List, [], length, Err}
use Rattle.mine_instance.specs.Valid.{ArePredsOf}
use Rattle.text_lines.specs.TextLines.{fields_of}
use Rattle.text_lines.specs.declared.text_fault.TextKind.{TextKind}
use Rattle.minelib_reading.specs.ModelDraft.{ModelDraftView, is_next, is_ready}
use Rattle.minelib_reading.specs.ModelText.{section_stated}
use Rattle.minelib_reading.specs.PrecText.{preds_stated}
use Rattle.minelib_reading.specs.declared.model.key.Section.{Section}
use Rattle.minelib_reading.specs.encoded.EncodedItems.{NumbersThen}

-- the first number of a line of predecessors is not the block's own
abbrev pub IsOfAnother : ℕ → ℕ → List (List ℕ) → Type 0
IsOfAnother n own fields = NumbersThen n fields (λ id k ids. id ≢ own)

-- the first number is the block's own, but the second is not the number of predecessors
abbrev pub Miscounts : ℕ → ℕ → List (List ℕ) → Type 0
Miscounts n own fields = NumbersThen n fields (λ id k ids. (id ≡ own) × (k ≢ length ids))

-- both are right, but a predecessor appears twice or is the block itself
abbrev pub Repeats : ℕ → ℕ → List (List ℕ) → Type 0
Repeats n own fields = NumbersThen n fields (λ id k ids. (id ≡ own) × ((k ≡ length ids) × ¬ (ArePredsOf own n ids)))

-- the section of a key is not the next one
abbrev pub IsOutOfTurn : ModelDraftView → Section → List (List ℕ) → Type 0
IsOutOfTurn d section fields = is_next d.section section ≡ false

-- the section is the next one, but a field follows the colon
abbrev pub HasFields : ModelDraftView → Section → List (List ℕ) → Type 0
HasFields d section fields = (is_next d.section section ≡ true) × (fields ≢ [])

-- no field follows, but something required before the key is missing
abbrev pub MissesRequired : ModelDraftView → Section → List (List ℕ) → Type 0
MissesRequired d section fields = (is_next d.section section ≡ true) × ((fields ≡ []) × (is_ready d d.section ≡ false))

-- a line of predecessors, or of a section's key, has a fault of this kind if and only if this holds
abbrev pub PredsFail : TextKind → (ℕ → ℕ → List (List ℕ) → Type 0) → Type 0
PredsFail kind IsSo = (n own : ℕ) (line : List ℕ) → (preds_stated n own (fields_of line) ≡ Err kind) ↔ IsSo n own (fields_of line)

abbrev pub SectionFails : TextKind → (ModelDraftView → Section → List (List ℕ) → Type 0) → Type 0
SectionFails kind IsSo =
    (d : ModelDraftView) (section : Section) (fields : List (List ℕ)) → (section_stated d section fields ≡ Err kind) ↔ IsSo d section fields
