use Rattle.std.proofs.Common.{rules, append_assoc}
use Rattle.std.proofs.lemmas.Result.{on_ok_weaker}
use Rattle.minelib_writing.proofs.lines.items.BlockLine.append.Goals as goal

pub returns-clause-text : goal.returns-clause-text
returns-clause-text c = search (rules, append_assoc)

pub returns-clause-kept : goal.returns-clause-kept
returns-clause-kept c = on_ok_weaker c.append_line.result (λ _. tt) c.append_line.ensures.ok
