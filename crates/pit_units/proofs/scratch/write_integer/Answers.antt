use Rattle.std.proofs.Common.{arith}
use Rattle.std.specs.Prelude.{decimal}
use Rattle.pit_units.proofs.Text.{few_digits, put_before}
use Rattle.pit_units.proofs.scratch.write_integer.Goals as goal

pub write_digits-requires : goal.write_digits-requires
write_digits-requires c = (omega (arith, c.requires, few_digits c.args.number (omega arith)), omega (arith, c.requires.1))

pub returns-clause-text : goal.returns-clause-text
returns-clause-text c =
    put_before (decimal c.args.number) c.args.scratch.now c.write_digits.new.buf c.write_digits.result c.args.at 256 c.write_digits.ensures.start
    c.requires.1 c.write_digits.ensures.written

pub returns-clause-long : goal.returns-clause-long
returns-clause-long c = (omega (arith, c.write_digits.ensures.start, few_digits c.args.number (omega arith)), omega (arith, c.write_digits.ensures.start))
