-- The result of writing to one sink, as the result of the run.
use Rattle.std.specs.Prelude.{Result, Ok, Err}
use Rattle.minelib_lines.specs.declared.text_name.TextName.{TextName}
use Rattle.devices.specs.declared.sinks.sink.SinkFault.{SinkFault}
use Rattle.pit_units.specs.declared.or_memory.OrMemory.{OrMemory}
use Rattle.pit_units.specs.declared.or_memory.OrMemory.TheVariants as write
use Rattle.refusals.specs.declared.refusal.Refusal.{Refusal}
use Rattle.refusals.specs.declared.refusal.Refusal.TheVariants.{SinkFailed, OutOfMemory}

-- the result of writing to a sink, as the result of a run
abbrev pub in_sink : TextName → Result (Unit {0}) (OrMemory SinkFault) → Result (Unit {0}) Refusal
in_sink which (Ok done) = Ok done
in_sink which (Err (write.Fault fault)) = Err (SinkFailed which)
in_sink which (Err write.OutOfMemory) = Err OutOfMemory
