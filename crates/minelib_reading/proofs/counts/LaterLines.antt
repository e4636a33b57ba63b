-- Lines that are counted after an error state what the definitions state.
use Rattle.std.specs.Prelude.{Bool, Err, List, Ok, Result, if◌then◌else◌, nat_lt, ℕ, ℤ, ◌==◌}
use Rattle.std.proofs.Common.{false, length, refl, true, ◌+◌, ◌≡◌}
use Rattle.std.proofs.lemmas.Bool.{eq-eqb, eqb-true}
use Rattle.pit_units.specs.declared.or_memory.OrMemory.{OrMemory}
use Rattle.plan_parts.specs.declared.block.Block.{Block}
use Rattle.plan_parts.specs.declared.limit.Limit.{Limit}
use Rattle.mine_instance.specs.declared.coefs.coef.Coef.{Coef}
use Rattle.text_lines.specs.FieldValues.{kind_by}
use Rattle.text_lines.specs.Reading.{Leaves}
use Rattle.text_lines.specs.declared.text_fault.TextKind.{TextKind}
use Rattle.text_lines.specs.declared.text_fault.TextKind.TheVariants.{Fields}
use Rattle.minelib_lines.specs.declared.problem.Problem.{Problem}
use Rattle.minelib_lines.specs.declared.problem.Problem.TheVariants.{Cpit, Pcpsp}
use Rattle.minelib_reading.proofs.lines.FormFacts.{kind_after}
use Rattle.minelib_reading.proofs.lines.LineFacts.{block_exact, block_fields_exact, coef_exact, coef_fields_exact, limit_exact, limit_fields_exact, preds_exact, preds_fields_exact}
use Rattle.minelib_reading.specs.BlockText.{block_stated}
use Rattle.minelib_reading.specs.LineFields.{item_in}
use Rattle.minelib_reading.specs.LineForms.{block_form, coef_form, limit_form, preds_form, values_form}
use Rattle.minelib_reading.specs.ModelText.{coef_stated, coef_width, limit_stated, limit_width, values_stated}
use Rattle.minelib_reading.specs.PrecText.{preds_stated}
use Rattle.minelib_reading.specs.inner.LinesTaken.{coef_steps}

-- blocks
pub block_counted : (before : ℕ) (fields : List (List ℕ)) (block : Block) → item_in (block_form before) fields ≡ Ok block
    → block_stated before fields ≡ Ok block
block_counted before fields block e = (block_exact before fields).back block ((block_fields_exact before fields).reported block e).0

pub block_kind : (before : ℕ) (fields : List (List ℕ)) (kind : TextKind) → item_in (block_form before) fields ≡ Err kind
    → block_stated before fields ≡ Err (kind_by (length fields == 7) kind)
unfolding block_stated
block_kind before fields kind e = kind_after (item_in (block_form before) fields) (length fields) 7 kind e

-- predecessors: a line with fewer than two fields has too few
pub preds_by_count : (n own : ℕ) (fields : List (List ℕ))
    → preds_stated n own fields ≡ (if nat_lt (length fields) 2 then Err Fields else item_in (preds_form n own) fields)
unfolding preds_stated
preds_by_count n own fields = refl

pub preds_counted : (n own : ℕ) (fields : List (List ℕ)) (ids : List ℕ) → item_in (preds_form n own) fields ≡ Ok ids
    → preds_stated n own fields ≡ Ok ids
preds_counted n own fields ids e = (preds_exact n own fields).back ids ((preds_fields_exact n own fields).reported ids e)

-- values, from a line with the required number of fields
pub values_counted : (n destinations before : ℕ) (fields : List (List ℕ)) → length fields ≡ destinations + 1
    → values_stated n destinations before fields ≡ item_in (values_form n before) fields
unfolding values_stated
values_counted n destinations before fields count = rw (eq-eqb (length fields) (destinations + 1) count) refl

pub values_admitted : {A : Type 0} (n destinations before : ℕ) (fields : List (List ℕ)) (row : List ℤ) (r : Result A (OrMemory TextKind))
    → (length fields ≡ destinations + 1 → Leaves row r (item_in (values_form n before) fields))
    → length fields ≡ destinations + 1 → Leaves row r (values_stated n destinations before fields)
values_admitted n destinations before fields row r h count = rw (values_counted n destinations before fields count) (h count)

pub values_kind : (n destinations before : ℕ) (fields : List (List ℕ)) (found : TextKind)
    → (length fields ≡ destinations + 1 → values_stated n destinations before fields ≡ Err found)
    → values_stated n destinations before fields ≡ Err (kind_by (length fields == destinations + 1) found)
unfolding values_stated
values_kind n destinations before fields found counted = by (length fields == destinations + 1) refl
  where
    by : (t : Bool) → (length fields == destinations + 1) ≡ t → values_stated n destinations before fields ≡ Err (kind_by t found)
    by true e = counted (eqb-true (length fields) (destinations + 1) e)
    by false e = rw e refl

-- coefficients
pub coef_read : (problem : Problem) (n destinations resources : ℕ) (fields : List (List ℕ))
    → item_in (coef_form problem n destinations resources) fields ≡ coef_steps problem n destinations resources fields
coef_read Pcpsp n destinations resources fields = refl
coef_read Cpit n destinations resources fields = refl

pub coef_counted : (problem : Problem) (n destinations resources : ℕ) (fields : List (List ℕ)) (coef : Coef)
    → item_in (coef_form problem n destinations resources) fields ≡ Ok coef → coef_stated problem n destinations resources fields ≡ Ok coef
coef_counted problem n destinations resources fields coef e =
    (coef_exact problem n destinations resources fields).back coef ((coef_fields_exact problem n destinations resources fields).reported coef e)

pub coef_kind : (problem : Problem) (n destinations resources : ℕ) (fields : List (List ℕ)) (kind : TextKind)
    → item_in (coef_form problem n destinations resources) fields ≡ Err kind
    → coef_stated problem n destinations resources fields ≡ Err (kind_by (length fields == coef_width problem) kind)
unfolding coef_stated
coef_kind problem n destinations resources fields kind e =
    kind_after (item_in (coef_form problem n destinations resources) fields) (length fields) (coef_width problem) kind e

-- limits
pub limit_counted : (resources periods : ℕ) (fields : List (List ℕ)) (limit : Limit) → item_in (limit_form resources periods) fields ≡ Ok limit
    → limit_stated resources periods fields ≡ Ok limit
limit_counted resources periods fields limit e =
    (limit_exact resources periods fields).back limit ((limit_fields_exact resources periods fields).reported limit e).0

pub limit_kind : (resources periods : ℕ) (fields : List (List ℕ)) (kind : TextKind) → item_in (limit_form resources periods) fields ≡ Err kind
    → limit_stated resources periods fields ≡ Err (kind_by (length fields == limit_width fields) kind)
unfolding limit_stated
limit_kind resources periods fields kind e = kind_after (item_in (limit_form resources periods) fields) (length fields) (limit_width fields) kind e
