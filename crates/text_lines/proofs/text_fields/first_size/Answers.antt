use Rattle.std.proofs.Common.{rules}
use Rattle.text_lines.proofs.LeadingFields.{size_taken}
use Rattle.text_lines.proofs.text_fields.first_size.Goals as goal

pub returns-then-size-most-clause-value : goal.returns-then-size-most-clause-value
returns-then-size-most-clause-value c =
    size_taken c.args.decimals c.args.most c.args.line.now c.in-Some.millionths c.in-Some.following.now c.unsigned_abs-size.result
    c.in-Some.ensures (search rules) (search rules) c.if-size-most.true
