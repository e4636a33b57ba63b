use Rattle.std.proofs.Common.{◌≡◌, ◌*◌, ◌≤◌, ◌^◌, length, take}
use Rattle.std.specs.Prelude.{sum_by}
use Rattle.minelib_lines.specs.Lines.{lines_from, text_of}
use Rattle.minelib_writing.specs.Written.{prec_line}
use Rattle.devices.specs.sinks.Writes.{IsWrittenOn}
use Rattle.minelib_writing.proofs.lines.preds.write_counted.Given as goal

-- The lists are unchanged, the lines so far are written, and their predecessors are counted.
abbrev pub invariant-loop-id : goal.invariant-loop-id
invariant-loop-id g l = record {
  kept : g.M.MadeLists.lists l.preds ≡ g.M.MadeLists.lists l.initial.preds;
  written : IsWrittenOn (text_of (take l.id (lines_from prec_line 0 (g.M.MadeLists.lists l.initial.preds))))
      l.initial.buffer.items l.buffer.items (g.S.Sink.state l.initial.sink) (g.S.Sink.state l.sink);
  counted : l.arcs ≡ sum_by length (take l.id (g.M.MadeLists.lists l.initial.preds));
  small : l.arcs ≤ l.id * 2 ^ 63;
}
