use Rattle.std.proofs.Common.{◌≡◌, ◌<◌, ◌==◌, sym, ◌∙◌, ap, length, arith}
use Rattle.csv.specs.Records.{fields_of}
use Rattle.records.specs.RecordCells.{cell_at, cells_of}
use Rattle.records.proofs.CellFacts.{one_empty, one_full}
use Rattle.records.proofs.cells.cell_count.Goals as goal
use Rattle.records.proofs.cells.cell_count.Goals.{then-not-is_empty, else-not-is_empty}

pub loop-i-preserved : goal.loop-i-preserved
loop-i-preserved c =
    let fields = fields_of c.args.row.now in
    let there : c.loop-i.i < length fields = omega arith in
    let size : (length (cell_at (cells_of fields) c.loop-i.i) == 0) ≡ c.is_empty.result =
    sym (c.is_empty.ensures ∙ ap (λ x. length x == 0) c.cell_at.ensures.value) in
    elim c.if-not-is_empty.branch [
      | then-not-is_empty w ↦ w.count-is ∙ one_full fields c.loop-i.i there (size ∙ w.if-not-is_empty.true)
      | else-not-is_empty w ↦ w.count-is
          ∙ one_empty fields c.loop-i.i c.loop-i.count there (size ∙ w.if-not-is_empty.false) c.loop-i.invariant
    ]
