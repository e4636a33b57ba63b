-- The fields of the lines of the block file, the precedence file and the model file.
use Rattle.std.specs.Prelude.{ℕ, ◌*◌, ◌/◌, ◌==◌, ◌&&◌, ◌||◌, not, Bool, true, List, [], ◌∷◌, length, ℤ, pos, Result, Ok, Err, if◌then◌else◌}
use Rattle.std.specs.List.{list_any}
use Rattle.plan_parts.specs.Block.{block_with}
use Rattle.plan_parts.specs.declared.block.Block.{Block}
use Rattle.plan_parts.specs.declared.limit.Bound.{Bound}
use Rattle.plan_parts.specs.declared.limit.Bound.TheVariants.{AtMost, AtLeast, Between}
use Rattle.plan_parts.specs.declared.limit.Limit.{Limit}
use Rattle.plan_parts.specs.declared.ranges.TheConstants.{GRID_CELLS, MAX_BLOCKS, MAX_GRADE, MAX_KG, MAX_ZONES}
use Rattle.mine_instance.specs.declared.coefs.coef.Coef.{Coef}
use Rattle.minelib_lines.specs.declared.problem.Problem.{Problem}
use Rattle.minelib_lines.specs.declared.problem.Problem.TheVariants.{Pcpsp, Cpit}
use Rattle.text_lines.specs.declared.text_fault.TextKind.{TextKind}
use Rattle.text_lines.specs.declared.text_fault.TextKind.TheVariants.{Count, Order, Twice}
use Rattle.minelib_reading.specs.LineFields.{Below, Decimal, End, FieldKind, Form, Letter, Millionths, Others, Then, Thousandths, ValueOf}
use Rattle.minelib_reading.specs.declared.model.limit_lines.LimitLetter.{LimitLetter}
use Rattle.minelib_reading.specs.declared.model.limit_lines.LimitLetter.TheVariants.{G, I, L}

-- a field, as a step of `do`, and the fields after it
infixl 10 ◌>>=◌
abbrev pub ◌>>=◌ : {A : Type 0} (field : (kind : FieldKind) × (A → ValueOf kind)) → (ValueOf field.0 → Form A) → Form A
field >>= next = Then field.0 field.1 next

-- `id x y z tonnes grade zone` after `before` lines of blocks: identifiers are 0, 1, 2, ..; tonnes have up to three decimals and
-- grams per tonne up to six, and a kilogram is a thousandth of a tonne
abbrev pub block_form : ℕ → Form Block
block_form before = do
  id ← (Below MAX_BLOCKS, λ b. before)
  x ← (Below GRID_CELLS, λ b. b.x)
  y ← (Below GRID_CELLS, λ b. b.y)
  z ← (Below GRID_CELLS, λ b. b.z)
  tonnes ← (Thousandths (MAX_KG * 1000), λ b. b.kg * 1000)
  grade ← (Millionths MAX_GRADE, λ b. b.grade)
  zone ← (Below MAX_ZONES, λ b. b.zone)
  End (if not (id == before) then Err Order else Ok (block_with x y z (tonnes / 1000) grade zone))

-- the number is in the list
abbrev pub has_id : List ℕ → ℕ → Bool
has_id ids id = list_any (λ other. other == id) ids

-- no number appears twice
abbrev pub all_differ : List ℕ → Bool
all_differ [] = true
all_differ (id ∷ ids) = not (has_id ids id) && all_differ ids

-- `id k p1 .. pk` for the block `own`, one of n: the k predecessors, all distinct and other than the block; a k of n or more is out
-- of range
abbrev pub preds_with : (own id k : ℕ) → List ℕ → Result (List ℕ) TextKind
preds_with own id k ids =
    if not (id == own) then Err Order else (
    if not (k == length ids) then Err Count else (
    if has_id ids own || not (all_differ ids) then Err Twice else Ok ids))

abbrev pub preds_form : (n own : ℕ) → Form (List ℕ)
preds_form n own = do
  id ← (Below n, λ ids. own)
  k ← (Below n, λ ids. length ids)
  Others (Below n) (λ ids. ids) (preds_with own id k)

-- `b v0 v1 ..` for the block `before`, one of n: a value for each destination
abbrev pub values_form : (n before : ℕ) → Form (List ℤ)
values_form n before = do
  b ← (Below n, λ values. before)
  Others Decimal (λ values. values) (λ values. if not (b == before) then Err Order else Ok values)

-- the coefficient `b d r v`; `b r v` in a CPIT, which has one destination
abbrev pub coef_form : Problem → (n destinations resources : ℕ) → Form Coef
coef_form Pcpsp n destinations resources = do
  b ← (Below n, λ c. c.b)
  d ← (Below destinations, λ c. c.d)
  r ← (Below resources, λ c. c.r)
  v ← (Decimal, λ c. c.v)
  End (Ok (record { b = b; d = d; r = r; v = v }))
coef_form Cpit n destinations resources = do
  b ← (Below n, λ c. c.b)
  r ← (Below resources, λ c. c.r)
  v ← (Decimal, λ c. c.v)
  End (Ok (record { b = b; d = 0; r = r; v = v }))

-- the limit `r t L v`, `r t G v` or `r t I v w`
abbrev pub letter_of : Bound → LimitLetter
letter_of (AtMost v) = L
letter_of (AtLeast v) = G
letter_of (Between v w) = I

abbrev pub first_of : Bound → ℤ
first_of (AtMost v) = v
first_of (AtLeast v) = v
first_of (Between v w) = v

abbrev pub second_of : Bound → ℤ
second_of (Between v w) = w
second_of bound = pos 0

abbrev pub bound_form : (resource period : ℕ) → LimitLetter → ℤ → Form Limit
bound_form resource period L v = End (Ok (record { resource = resource; period = period; bound = AtMost v }))
bound_form resource period G v = End (Ok (record { resource = resource; period = period; bound = AtLeast v }))
bound_form resource period I v = do
  w ← (Decimal, λ l. second_of l.bound)
  End (Ok (record { resource = resource; period = period; bound = Between v w }))

abbrev pub limit_form : (resources periods : ℕ) → Form Limit
limit_form resources periods = do
  resource ← (Below resources, λ l. l.resource)
  period ← (Below periods, λ l. l.period)
  letter ← (Letter, λ l. letter_of l.bound)
  v ← (Decimal, λ l. first_of l.bound)
  bound_form resource period letter v
