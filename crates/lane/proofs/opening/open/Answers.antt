use Rattle.std.proofs.Common.{rules, ◌≡◌, ◌∙◌, length, refl, arith}
use Rattle.lane.specs.Ends.{PutEndView, TakeEndView, first_puts, first_takes}
use Rattle.lane.proofs.Rules.{starts, opens}
use Rattle.lane.proofs.Opens.{ends_are, ends_count}
use Rattle.lane.proofs.opening.open.Goals as goal

pub bounded_with-requires-clause-rule : goal.bounded_with-requires-clause-rule
bounded_with-requires-clause-rule c = starts

pub split-requires : goal.split-requires
split-requires c = record { rule = rw c.count_places.ensures.counted (λ pass. opens pass _ _ _) }

pub returns : goal.returns
returns c =
    let files = c.args.files in
    let valuers = c.args.valuers in
    let lane = c.new.result.lane in
    let puts = c.in_ok-puts.puts in
    let takes = c.in_ok-takes.takes in
    let are_puts : puts.items ≡ first_puts lane 0 files = rw (c.new.ensures.value, c.in_ok-takes.ensures.remaining, c.in_ok-puts.ensures.remaining) c.in_ok-puts.ensures.ends in
    let are_takes : takes.items ≡ first_takes lane 0 valuers = rw (c.new.ensures.value, c.in_ok-takes.ensures.remaining) c.in_ok-takes.ensures.ends in
    let put_count : length puts.items ≡ files = rw c.in_ok-puts.ensures.ends (ends_count _ 0 files) in
    let take_count : length takes.items ≡ valuers = rw c.in_ok-takes.ensures.ends (ends_count _ 0 valuers) in
    record {
      opened = record {
        files = search rules;
        takers = search rules;
        capacity = search rules;
        puts = rw are_puts (ends_are (λ (p : PutEndView). p.lane) (λ p. p.file) _ _ 0 files files (λ _. refl) (λ _. refl) (omega arith));
        first_puts = are_puts;
        put_count = put_count;
        put_len = puts.ok.0 ∙ put_count;
        takes = rw are_takes (ends_are (λ (t : TakeEndView). t.lane) (λ t. t.taker) _ _ 0 valuers valuers (λ _. refl) (λ _. refl) (omega arith));
        first_takes = are_takes;
        take_count = take_count;
        take_len = takes.ok.0 ∙ take_count;
      };
    }
