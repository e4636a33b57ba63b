use Rattle.std.specs.Io.KnownBytes.{Keeps}
use Rattle.devices.proofs.sinks.single_write.write_some.Given as goal

-- Interrupted writes left the output unchanged.
abbrev pub invariant-loop : goal.invariant-loop
invariant-loop g l = Keeps (g.W.Write.contents l.initial.output) (g.W.Write.contents l.output)
