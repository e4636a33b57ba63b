use Rattle.std.proofs.Common.{◌≡◌, drop}
use Rattle.pit_compile.specs.inner.ReadAnswers.{refusal_in}
use Rattle.pit_compile.proofs.read_answers.require_read.Given as goal

abbrev pub invariant-loop-file : goal.invariant-loop-file
invariant-loop-file l = refusal_in l.file (drop l.file l.answers) ≡ refusal_in 0 l.answers
