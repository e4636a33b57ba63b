use Rattle.std.proofs.Common.{◌≡◌, pos, rules, append_assoc}
use Rattle.std.specs.Prelude.{int_lt, unsigned_abs}
use Rattle.pit_units.proofs.Text.{hundredths_text}
use Rattle.pit_units.proofs.scratch.write_hundredths.Goals as goal

pub returns-clause-text : goal.returns-clause-text
returns-clause-text c =
    let below : c.is_negative.result ≡ int_lt c.args.hundredths (pos 0) = search rules in
    let size : c.unsigned_abs-size.result ≡ unsigned_abs c.args.hundredths = search rules in
    rw (hundredths_text c.args.hundredths c.is_negative.result c.unsigned_abs-size.result below size) (search (rules, append_assoc))
