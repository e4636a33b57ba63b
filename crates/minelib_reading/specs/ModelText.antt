-- What a line of a model file adds to earlier lines, or the kind of its first fault; and what a file states.
use Rattle.std.specs.Prelude.{ℕ, ◌+◌, ◌==◌, ◌||◌, not, List, [], ◌∷◌, ◌++◌, length, ℤ, codes, Option, Some, None, Result, Ok, Err, if◌then◌else◌}
use Rattle.std.specs.List.{list_any, before_first, after_first}
use Rattle.std.specs.Str.{bytes_eq}
use Rattle.pit_units.specs.Steps.{◌>>=◌}
use Rattle.plan_parts.specs.PlanInvariant.{is_turned, stands_before}
use Rattle.plan_parts.specs.declared.limit.Limit.{Limit}
use Rattle.mine_instance.specs.Order.{coef_before}
use Rattle.mine_instance.specs.declared.coefs.coef.Coef.{Coef}
use Rattle.minelib_lines.specs.declared.header_key.HeaderKey.{HeaderKey}
use Rattle.minelib_lines.specs.declared.header_key.HeaderKey.TheVariants as key
use Rattle.minelib_lines.specs.declared.problem.Problem.{Problem}
use Rattle.minelib_lines.specs.declared.problem.Problem.TheVariants.{Pcpsp, Cpit}
use Rattle.minelib_reading.specs.HeaderNumbers.{count_in, is_given, with_key}
use Rattle.minelib_reading.specs.LineFields.{item_in}
use Rattle.minelib_reading.specs.LineForms.{coef_form, limit_form, values_form}
use Rattle.minelib_reading.specs.ModelDraft.{ModelDraftView, blank_model, is_after, is_heading, is_next, is_ready, has_all_parts, last_of, name_with}
use Rattle.minelib_reading.specs.ModelKeys.{is_colon, key_of, number_stated}
use Rattle.minelib_reading.specs.declared.model.key.ModelKey.{ModelKey}
use Rattle.minelib_reading.specs.declared.model.key.ModelKey.TheVariants as model_key
use Rattle.minelib_reading.specs.declared.model.key.Section.{Section}
use Rattle.minelib_reading.specs.declared.model.key.Section.TheVariants.{Heading, Objective, Coefs, Limits}
use Rattle.text_lines.specs.Reading.{read_lines}
use Rattle.text_lines.specs.StatedFields.{field_at}
use Rattle.text_lines.specs.TextLines.{end_of, fields_of, lines_in}
use Rattle.text_lines.specs.declared.text_fault.LineFault.{LineFault}
use Rattle.text_lines.specs.declared.text_fault.TextKind.{TextKind}
use Rattle.text_lines.specs.declared.text_fault.TextKind.TheVariants.{Fields, Order, Twice, Key, Missing}

-- `KEY: value` before the first section; each key appears once
unfoldable pub key_stated : ModelDraftView → HeaderKey → List (List ℕ) → Result ModelDraftView TextKind
key_stated d k fields =
    if not (is_heading d.section) then Err Key
    else (if is_given k d.header then Err Twice
    else (if not (length fields == 1) then Err Fields else do
      number ← number_stated d.problem d.blocks k (field_at fields 0)
      Ok (record d { header = with_key d.header k number; name = name_with k (field_at fields 0) d.name })))

-- `KEY:` of the next section
unfoldable pub section_stated : ModelDraftView → Section → List (List ℕ) → Result ModelDraftView TextKind
section_stated d section fields =
    if not (is_next d.section section) then Err Key
    else (if not (length fields == 0) then Err Fields
    else (if not (is_ready d d.section) then Err Missing
    else Ok (record d { section = section })))

-- a line with a colon: its key, and the fields after the colon
abbrev pub keyed_stated : ModelDraftView → Option ModelKey → List (List ℕ) → Result ModelDraftView TextKind
keyed_stated d None fields = Err Key
keyed_stated d (Some (model_key.Header k)) fields = key_stated d k fields
keyed_stated d (Some (model_key.Section section)) fields = section_stated d section fields

-- the values of the block `before`, one of n: one for each destination
unfoldable pub values_stated : ℕ → ℕ → ℕ → List (List ℕ) → Result (List ℤ) TextKind
values_stated n destinations before fields =
    if not (length fields == destinations + 1) then Err Fields else item_in (values_form n before) fields

-- a coefficient
abbrev pub coef_width : Problem → ℕ
coef_width Pcpsp = 4
coef_width Cpit = 3

unfoldable pub coef_stated : Problem → ℕ → ℕ → ℕ → List (List ℕ) → Result Coef TextKind
coef_stated problem n destinations resources fields =
    if not (length fields == coef_width problem) then Err Fields else item_in (coef_form problem n destinations resources) fields

-- a limit: an interval has five fields
abbrev pub limit_width : List (List ℕ) → ℕ
limit_width fields = if bytes_eq (field_at fields 2) (codes "I") then 5 else 4

unfoldable pub limit_stated : ℕ → ℕ → List (List ℕ) → Result Limit TextKind
limit_stated resources periods fields =
    if not (length fields == limit_width fields) then Err Fields else item_in (limit_form resources periods) fields

-- a line without a colon, in its section: coefficients and limits follow the last one, and no interval has its ends reversed
abbrev pub item_stated : ModelDraftView → Section → List (List ℕ) → Result ModelDraftView TextKind
item_stated d Heading fields = Err Key
item_stated d Objective fields = do
  values ← values_stated d.blocks (count_in d.header key.Destinations) (length d.values) fields
  Ok (record d { values = d.values ++ values ∷ [] })
item_stated d Coefs fields = do
  c ← coef_stated d.problem d.blocks (count_in d.header key.Destinations) (count_in d.header key.Resources) fields
  if is_after coef_before (last_of d.coefs) c then Ok (record d { coefs = d.coefs ++ c ∷ [] }) else Err Order
item_stated d Limits fields = do
  l ← limit_stated (count_in d.header key.Resources) (count_in d.header key.Periods) fields
  if is_turned l.bound || not (is_after stands_before (last_of d.limits) l) then Err Order else Ok (record d { limits = d.limits ++ l ∷ [] })

-- a line of the file; its key is before the first colon
unfoldable pub line_stated : ModelDraftView → List ℕ → Result ModelDraftView TextKind
line_stated d line =
    if list_any is_colon line
    then keyed_stated d (key_of d.problem (fields_of (before_first is_colon line))) (fields_of (after_first is_colon line))
    else item_stated d d.section (fields_of line)

-- the file after all lines are read
abbrev pub finish_model : ℕ → ModelDraftView → Result ModelDraftView LineFault
finish_model end d = if has_all_parts d then Ok d else Err (record { line = end; kind = Missing })

-- what the model file of a problem states for n blocks, or its first invalid line
abbrev pub model_in : Problem → ℕ → List ℕ → Result ModelDraftView LineFault
model_in problem n text = read_lines line_stated (blank_model problem n) (lines_in text) >>= finish_model (end_of text)
