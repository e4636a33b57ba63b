use Rattle.zone_csv.proofs.RowFacts.{row_encoded}
use Rattle.zone_csv.proofs.laws.rows_encode_blocks.Goals as goal

pub returns : goal.returns
returns c grid zone columns number row block sx sy sz small =
    let all = row_encoded grid zone columns number row sx sy sz small in (all.reported block, all.back block)
