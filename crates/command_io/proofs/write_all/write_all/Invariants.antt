use Rattle.std.proofs.Common.{◌≡◌, ◌-◌, ◌≤◌, length, take}
use Rattle.devices.specs.Device.{added}
use Rattle.command_io.proofs.write_all.write_all.Given as goal

-- The output took a prefix of the bytes, and refused no call.
abbrev pub invariant-loop-taken : goal.invariant-loop-taken
invariant-loop-taken g l = record {
  prefix : (g.S.Sink.state l.output).taken ≡ added (take l.taken l.bytes) (g.S.Sink.state l.fn.output).taken;
  works : (g.S.Sink.state l.output).failures ≡ (g.S.Sink.state l.fn.output).failures;
  within : l.taken ≤ length l.bytes;
}

abbrev pub decreases-loop-taken : goal.decreases-loop-taken
decreases-loop-taken g l = length l.bytes - l.taken
