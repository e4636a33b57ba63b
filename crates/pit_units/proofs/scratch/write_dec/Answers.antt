use Rattle.std.proofs.Common.{◌≡◌, pos, rules, append_assoc}
use Rattle.std.specs.Prelude.{int_lt}
use Rattle.pit_units.proofs.Text.{shortest_is}
use Rattle.pit_units.proofs.scratch.write_dec.Goals as goal

pub returns-clause-text : goal.returns-clause-text
returns-clause-text c =
    let below : c.is_negative.result ≡ int_lt c.args.dec (pos 0) = search rules in
    rw (shortest_is c.args.dec c.is_negative.result c.unsigned_abs.result below (search rules)) (search (rules, append_assoc))
