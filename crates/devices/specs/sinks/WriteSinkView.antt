-- What contracts see of a sink over an output.
use Rattle.std.specs.Prelude.{◌≡◌, ℕ, List, [], true, Option, Some, None, is_some}
use Rattle.devices.specs.sinks.SinkState.{SinkState}

pub record WriteSinkView : Type 0 where
  -- the bytes that the output holds, if it reported them at first
  pub held : Option (List ℕ)
  -- the number of calls that it refused so far
  pub failures : ℕ

-- the report of an output, dropped if it reported nothing at first
abbrev pub report_as_before : Option (List ℕ) → Option (List ℕ) → Option (List ℕ)
report_as_before None now = None
report_as_before (Some first) now = now

-- it still reports its bytes if it did at first
abbrev pub StillReports : Option (List ℕ) → Option (List ℕ) → Type 0
StillReports None now = Unit {0}
StillReports (Some first) now = is_some now ≡ true

-- its state as a sink
abbrev pub write_sink_state : WriteSinkView → SinkState
write_sink_state s = record { begun = true; before = []; taken = s.held; failures = s.failures }
