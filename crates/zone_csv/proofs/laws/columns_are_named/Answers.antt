use Rattle.zone_csv.proofs.ColumnFacts.{header_named}
use Rattle.zone_csv.proofs.laws.columns_are_named.Goals as goal

pub returns : goal.returns
returns c = λ header columns. ((header_named header).reported columns, (header_named header).back columns)
