use Rattle.std.proofs.Common.{◌-◌, ◌≤◌, length, take}
use Rattle.std.specs.List.{concat}
use Rattle.devices.specs.sinks.Writes.{IsWrittenOn}
use Rattle.minelib_writing.specs.inner.KeptParts.{HoldsFrom}
use Rattle.minelib_writing.proofs.parts.write_parts.Given as goal

-- The parts so far are written.
abbrev pub invariant-loop-index : goal.invariant-loop-index
invariant-loop-index g l = record {
  within : l.index ≤ length (g.L.Parted.parts l.parted);
  written : IsWrittenOn (concat (take l.index (g.L.Parted.parts l.parted))) l.initial.buffer.items l.buffer.items
      (g.S.Sink.state l.initial.sink) (g.S.Sink.state l.sink);
  kept : HoldsFrom (g.L.Parted.kept l.parted) 0 l.index;
}

abbrev pub decreases-loop-index : goal.decreases-loop-index
decreases-loop-index g l = length (g.L.Parted.parts l.parted) - l.index
