use Rattle.zone_csv.proofs.ColumnFacts.{header_named, header_refused}
use Rattle.zone_csv.proofs.RowFacts.{read, row_is_read}
use Rattle.zone_csv.proofs.RefusedRowFacts.{row_refused}
use Rattle.zone_csv.proofs.laws.invalid_rows_encode_no_block.Goals as goal

pub returns : goal.returns
returns c = record {
  rows = λ grid zone number columns row fault sizes.
      let all = row_refused grid zone columns number row sizes in (all.reported fault, all.back fault);
  cells = λ grid zone number columns row block fault sizes fails encodes.
      absurd (cc (fails, (row_is_read grid zone columns number row).back block (read grid zone columns number row sizes.0 sizes.1 sizes.2 block encodes)));
  headers = λ header fault. ((header_refused header).reported fault, (header_refused header).back fault);
  columns = λ header columns fault fails named. absurd (cc (fails, (header_named header).back columns named));
}
