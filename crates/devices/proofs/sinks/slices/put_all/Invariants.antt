use Rattle.std.proofs.Common.{[], length}
use Rattle.devices.specs.sinks.SinkSteps.{IsAppended}
use Rattle.devices.proofs.sinks.slices.put_all.Given as goal

-- The bytes are written, if the remaining ones count as held in a buffer.
abbrev pub invariant-loop-rest : goal.invariant-loop-rest
invariant-loop-rest g l = IsAppended l.bytes [] l.rest (g.S.Sink.state l.initial.sink) (g.S.Sink.state l.sink)

abbrev pub decreases-loop-rest : goal.decreases-loop-rest
decreases-loop-rest g l = length l.rest
