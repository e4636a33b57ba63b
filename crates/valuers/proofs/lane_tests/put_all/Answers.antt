use Rattle.std.proofs.Common.{refl, arith}
use Rattle.lane.specs.Ends.{PutEndView, ArePutsFrom}
use Rattle.lane.proofs.Opens.{ends_are, ends_back, first_puts_unsent}
use Rattle.valuers.proofs.lane_tests.put_all.Goals as goal

pub put_each-requires-clause-unsent : goal.put_each-requires-clause-unsent
put_each-requires-clause-unsent g c =
    λ lives within. rw c.requires.first (first_puts_unsent c.args.closer.lane 0 c.args.closer.files)

pub stop-requires : goal.stop-requires
stop-requires g c =
    let all : ArePutsFrom c.args.closer.lane c.args.closer.files 0 c.args.puts.items =
    rw c.requires.first (ends_are (λ (p : PutEndView). p.lane) (λ p. p.file) _ _ 0 c.args.closer.files c.args.closer.files
    (λ _. refl) (λ _. refl) (omega arith)) in
    record {
      puts = ends_back (λ (p : PutEndView). p.lane) (λ p. p.file) _ _ _ c.args.puts.items _ c.in_ok-ended.ensures.len
          c.in_ok-ended.ensures.lanes c.in_ok-ended.ensures.files all;
    }
