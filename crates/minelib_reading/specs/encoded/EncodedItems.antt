-- What the fields of a line encode: a block, predecessors, the values of a block, a coefficient, or a limit.
use Rattle.std.specs.Prelude.{◌≡◌, ℕ, ◌≤◌, List, length, drop, ℤ}
use Rattle.std.specs.List.{AllZip}
use Rattle.pit_units.specs.EncodedNumbers.{EncodesBelow}
use Rattle.plan_parts.specs.declared.block.Block.{Block}
use Rattle.plan_parts.specs.declared.limit.Limit.{Limit}
use Rattle.mine_instance.specs.Valid.{ArePredsOf}
use Rattle.mine_instance.specs.declared.coefs.coef.Coef.{Coef}
use Rattle.minelib_lines.specs.declared.problem.Problem.{Problem}
use Rattle.minelib_lines.specs.declared.problem.Problem.TheVariants.{Pcpsp, Cpit}
use Rattle.minelib_reading.specs.LineFields.{EncodesItem}
use Rattle.minelib_reading.specs.LineForms.{block_form, coef_form, limit_form, preds_form, values_form}
use Rattle.text_lines.specs.StatedFields.{field_at}

-- the number of earlier lines, and the block
abbrev pub EncodesBlock : (before : ℕ) (fields : List (List ℕ)) → Block → Type 0
EncodesBlock before fields b = EncodesItem (block_form before) fields b

-- the block's own number, one of n, the number of its predecessors, and each predecessor
abbrev pub EncodesPreds : (n own : ℕ) (fields : List (List ℕ)) → List ℕ → Type 0
EncodesPreds n own fields ids = EncodesItem (preds_form n own) fields ids × ArePredsOf own n ids

-- the block's number, one of n, and its value at each destination
abbrev pub EncodesValues : (n destinations block : ℕ) (fields : List (List ℕ)) → List ℤ → Type 0
EncodesValues n destinations block fields values = EncodesItem (values_form n block) fields values × (length values ≡ destinations)

-- a coefficient; in a CPIT, it is of the only destination
abbrev pub EncodesCoef : Problem → (n destinations resources : ℕ) (fields : List (List ℕ)) → Coef → Type 0
EncodesCoef Pcpsp n destinations resources fields c = EncodesItem (coef_form Pcpsp n destinations resources) fields c
EncodesCoef Cpit n destinations resources fields c = EncodesItem (coef_form Cpit n destinations resources) fields c × (c.d ≡ 0)

-- a limit
abbrev pub EncodesLimit : (resources periods : ℕ) (fields : List (List ℕ)) → Limit → Type 0
EncodesLimit resources periods fields l = EncodesItem (limit_form resources periods) fields l

-- the numbers of a line of predecessors, and a condition on them
abbrev pub NumbersThen : ℕ → List (List ℕ) → (ℕ → ℕ → List ℕ → Type 0) → Type 0
NumbersThen n fields Q =
    (2 ≤ length fields)
    × ((id : ℕ) × EncodesBelow n (field_at fields 0) id × ((k : ℕ) × EncodesBelow n (field_at fields 1) k
    × ((ids : List ℕ) × AllZip (EncodesBelow n) (drop 2 fields) ids × Q id k ids)))
