-- The result of writing to the sink, as the result of a run.
use Rattle.std.specs.Prelude.{ℕ, Result, Ok, Err}
use Rattle.minelib_lines.specs.declared.text_name.TextName.TheVariants.{Prec}
use Rattle.devices.specs.declared.sinks.sink.SinkFault.{SinkFault}
use Rattle.pit_units.specs.declared.or_memory.OrMemory.{OrMemory}
use Rattle.pit_units.specs.declared.or_memory.OrMemory.TheVariants as write
use Rattle.refusals.specs.declared.refusal.Refusal.{Refusal}
use Rattle.refusals.specs.declared.refusal.Refusal.TheVariants.{SinkFailed, OutOfMemory}

abbrev pub in_sink : Result ℕ (OrMemory SinkFault) → Result ℕ Refusal
in_sink (Ok arcs) = Ok arcs
in_sink (Err (write.Fault fault)) = Err (SinkFailed Prec)
in_sink (Err write.OutOfMemory) = Err OutOfMemory
