use Rattle.std.specs.Io.KnownBytes.{Keeps}
use Rattle.devices.proofs.feeds.single_read.read_some.Given as goal

-- An interrupted read took no byte of the input.
abbrev pub invariant-loop : goal.invariant-loop
invariant-loop g l = Keeps (g.R.Read.remaining l.initial.input) (g.R.Read.remaining l.input)
