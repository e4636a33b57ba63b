use Rattle.std.proofs.Common.{◌≡◌, All, take, drop}
use Rattle.pit_compile.specs.Sinks.{sink_states}
use Rattle.pit_compile.proofs.OneMoreSink.{IsAsItWas, IsHeld}
use Rattle.minelib_lines.specs.TextNames.{all_texts}
use Rattle.pit_compile.proofs.sink_writing.write_texts.Given as goal

abbrev pub invariant-loop-name : goal.invariant-loop-name
invariant-loop-name g l = record {
  names : l.name-items ≡ all_texts;
  written : All (IsHeld l.instance (sink_states g.S.Sink.state l.fn.sinks) (sink_states g.S.Sink.state l.sinks)) (take l.name-index all_texts);
  still : All (IsAsItWas (sink_states g.S.Sink.state l.fn.sinks) (sink_states g.S.Sink.state l.sinks)) (drop l.name-index all_texts);
}
