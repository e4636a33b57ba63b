use Rattle.std.proofs.Common.{◌≡◌, ◌+◌, ◌≤◌, ◌++◌, map, vec_len}
use Rattle.std.specs.Prelude.{vec_capacity}
use Rattle.std.specs.Vec.Iter.{into_iter_items, into_iter_len}
use Rattle.run_threads.proofs.in_scope.joining.split_reads.Given as goal

abbrev pub invariant-loop-read : goal.invariant-loop-read
invariant-loop-read l =
    record {
      ended : l.ended.items ++ map (λ r. r.ended) (into_iter_items l.read-iterator) ≡ map (λ r. r.ended) l.fn.reads.items;
      answers : l.answers.items ++ map (λ r. r.answer) (into_iter_items l.read-iterator) ≡ map (λ r. r.answer) l.fn.reads.items;
      count : vec_len l.ended + into_iter_len l.read-iterator ≡ vec_len l.fn.reads;
      answered : vec_len l.answers ≡ vec_len l.ended;
      room : vec_len l.fn.reads ≤ vec_capacity l.ended;
      room_for_answers : vec_len l.fn.reads ≤ vec_capacity l.answers;
    }
