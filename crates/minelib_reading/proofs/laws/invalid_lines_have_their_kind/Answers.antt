use Rattle.text_lines.specs.TextLines.{fields_of}
use Rattle.minelib_reading.proofs.lines.FaultFacts.{count_fails, fields_fails, key_fails, missing_fails, order_fails, twice_fails}
use Rattle.minelib_reading.proofs.laws.invalid_lines_have_their_kind.Goals as goal

pub returns : goal.returns
returns c = record {
  order = λ n own line. let x = order_fails n own (fields_of line) in (x.reported, x.back);
  count = λ n own line. let x = count_fails n own (fields_of line) in (x.reported, x.back);
  twice = λ n own line. let x = twice_fails n own (fields_of line) in (x.reported, x.back);
  key = λ d section fields. let x = key_fails d section fields in (x.reported, x.back);
  fields = λ d section fields. let x = fields_fails d section fields in (x.reported, x.back);
  missing = λ d section fields. let x = missing_fails d section fields in (x.reported, x.back);
}
