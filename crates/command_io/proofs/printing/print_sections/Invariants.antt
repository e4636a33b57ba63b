use Rattle.std.proofs.Common.{◌≡◌, ◌++◌, flat_map, length, take}
use Rattle.minelib_lines.specs.TextNames.{all_texts, ending_of}
use Rattle.minelib_writing.specs.Texts.{text_named}
use Rattle.command_io.specs.Sections.{section}
use Rattle.command_io.proofs.printing.print_sections.Given as goal

abbrev pub invariant-loop-name : goal.invariant-loop-name
invariant-loop-name g l = record {
  names : l.name-items ≡ all_texts;
  printed : l.sink.before ++ l.sink.taken
      ≡ (l.fn.sink.before ++ l.fn.sink.taken)
      ++ flat_map (λ name. section (ending_of name) (text_named name l.instance)) (take l.name-index all_texts);
  prefix : take (length l.fn.sink.before) l.sink.before ≡ l.fn.sink.before;
}
