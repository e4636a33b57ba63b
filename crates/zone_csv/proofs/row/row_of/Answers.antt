use Rattle.std.proofs.Common.{rules, ◌*◌, ◌^◌, arith, Ok, ap, refl, sym, ◌∙◌}
use Rattle.csv.specs.Records.{fields_of}
use Rattle.records.specs.Cells.{trimmed}
use Rattle.plan_parts.proofs.BlockFacts.{block_again}
use Rattle.zone_csv.proofs.RowFacts.{row_returns}
use Rattle.zone_csv.specs.Row.{index_in_cell, size_in_cell}
use Rattle.zone_csv.specs.declared.row_fault.Column.TheVariants.{X, Y, Z, Tonnes, Grade}
use Rattle.zone_csv.proofs.row.row_of.Goals as goal

pub returns-clause-value : goal.returns-clause-value
returns-clause-value c =
    ap Ok (sym (block_again _))
    ∙ row_returns c.args.grid c.args.zone c.args.columns c.args.number (fields_of c.args.row.now) _ _ _ _ _ (omega arith)
    (sym c.len.ensures ∙ c.if-len-columns.false)
    (c.in_ok-x.ensures.value c.args.number ∙ ap (λ cell. index_in_cell c.args.number X c.args.grid.x (trimmed cell)) c.field_at.ensures)
    (c.in_ok-y.ensures.value c.args.number ∙ ap (λ cell. index_in_cell c.args.number Y c.args.grid.y (trimmed cell)) c.field_at-2.ensures)
    (c.in_ok-z.ensures.value c.args.number ∙ ap (λ cell. index_in_cell c.args.number Z c.args.grid.z (trimmed cell)) c.field_at-3.ensures)
    (c.in_ok-millionths.ensures.value c.args.number ∙ ap (λ cell. size_in_cell c.args.number Tonnes 3 (10 ^ 9 * 1000) (trimmed cell)) c.field_at-4.ensures)
    (c.in_ok-grade.ensures.value c.args.number ∙ ap (λ cell. size_in_cell c.args.number Grade 6 (10 ^ 12) (trimmed cell)) c.field_at-5.ensures)

pub returns-in_err-x-clause-value : goal.returns-in_err-x-clause-value
returns-in_err-x-clause-value c =
    rw (sym (row_returns c.args.grid c.args.zone c.args.columns c.args.number (fields_of c.args.row.now) _ _ _ _ _ (omega arith)
    (sym c.len.ensures ∙ c.if-len-columns.false)
    (c.index_of.ensures.value c.args.number ∙ ap (λ cell. index_in_cell c.args.number X c.args.grid.x (trimmed cell)) c.field_at.ensures) refl refl refl refl)) (search rules)

pub returns-in_err-y-clause-value : goal.returns-in_err-y-clause-value
returns-in_err-y-clause-value c =
    rw (sym (row_returns c.args.grid c.args.zone c.args.columns c.args.number (fields_of c.args.row.now) _ _ _ _ _ (omega arith)
    (sym c.len.ensures ∙ c.if-len-columns.false)
    (c.in_ok-x.ensures.value c.args.number ∙ ap (λ cell. index_in_cell c.args.number X c.args.grid.x (trimmed cell)) c.field_at.ensures)
    (c.index_of-2.ensures.value c.args.number ∙ ap (λ cell. index_in_cell c.args.number Y c.args.grid.y (trimmed cell)) c.field_at-2.ensures) refl refl refl)) (search rules)

pub returns-in_err-z-clause-value : goal.returns-in_err-z-clause-value
returns-in_err-z-clause-value c =
    rw (sym (row_returns c.args.grid c.args.zone c.args.columns c.args.number (fields_of c.args.row.now) _ _ _ _ _ (omega arith)
    (sym c.len.ensures ∙ c.if-len-columns.false)
    (c.in_ok-x.ensures.value c.args.number ∙ ap (λ cell. index_in_cell c.args.number X c.args.grid.x (trimmed cell)) c.field_at.ensures)
    (c.in_ok-y.ensures.value c.args.number ∙ ap (λ cell. index_in_cell c.args.number Y c.args.grid.y (trimmed cell)) c.field_at-2.ensures)
    (c.index_of-3.ensures.value c.args.number ∙ ap (λ cell. index_in_cell c.args.number Z c.args.grid.z (trimmed cell)) c.field_at-3.ensures) refl refl)) (search rules)

pub returns-in_err-millionths-clause-value : goal.returns-in_err-millionths-clause-value
returns-in_err-millionths-clause-value c =
    rw (sym (row_returns c.args.grid c.args.zone c.args.columns c.args.number (fields_of c.args.row.now) _ _ _ _ _ (omega arith)
    (sym c.len.ensures ∙ c.if-len-columns.false)
    (c.in_ok-x.ensures.value c.args.number ∙ ap (λ cell. index_in_cell c.args.number X c.args.grid.x (trimmed cell)) c.field_at.ensures)
    (c.in_ok-y.ensures.value c.args.number ∙ ap (λ cell. index_in_cell c.args.number Y c.args.grid.y (trimmed cell)) c.field_at-2.ensures)
    (c.in_ok-z.ensures.value c.args.number ∙ ap (λ cell. index_in_cell c.args.number Z c.args.grid.z (trimmed cell)) c.field_at-3.ensures)
    (c.millionths_in.ensures.value c.args.number ∙ ap (λ cell. size_in_cell c.args.number Tonnes 3 (10 ^ 9 * 1000) (trimmed cell)) c.field_at-4.ensures) refl)) (search rules)

pub returns-in_err-grade-clause-value : goal.returns-in_err-grade-clause-value
returns-in_err-grade-clause-value c =
    rw (sym (row_returns c.args.grid c.args.zone c.args.columns c.args.number (fields_of c.args.row.now) _ _ _ _ _ (omega arith)
    (sym c.len.ensures ∙ c.if-len-columns.false)
    (c.in_ok-x.ensures.value c.args.number ∙ ap (λ cell. index_in_cell c.args.number X c.args.grid.x (trimmed cell)) c.field_at.ensures)
    (c.in_ok-y.ensures.value c.args.number ∙ ap (λ cell. index_in_cell c.args.number Y c.args.grid.y (trimmed cell)) c.field_at-2.ensures)
    (c.in_ok-z.ensures.value c.args.number ∙ ap (λ cell. index_in_cell c.args.number Z c.args.grid.z (trimmed cell)) c.field_at-3.ensures)
    (c.in_ok-millionths.ensures.value c.args.number ∙ ap (λ cell. size_in_cell c.args.number Tonnes 3 (10 ^ 9 * 1000) (trimmed cell)) c.field_at-4.ensures)
    (c.millionths_in-2.ensures.value c.args.number ∙ ap (λ cell. size_in_cell c.args.number Grade 6 (10 ^ 12) (trimmed cell)) c.field_at-5.ensures))) (search rules)
