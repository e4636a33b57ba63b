use Rattle.std.proofs.Common.{◌+◌, ap, sym, ◌∙◌}
use Rattle.std.proofs.lemmas.List.{length_push}
use Rattle.minelib_reading.proofs.counts.CountedFacts.{last_added, next_place}
use Rattle.minelib_reading.proofs.counted.CountedItemsTakeItems.take_coef.Goals as goal

pub invariant_of-self : goal.invariant_of-self
invariant_of-self c =
    let s = c.args.self.now in
    record {
      blocks_are = s.blocks_are;
      few = s.few;
      coefs_are = rw c.with.ensures (ap (λ n. n + 1) s.coefs_are ∙ sym (length_push s.past_coefs c.args.coef));
      last_is = rw c.with.ensures (last_added s.past_coefs c.args.coef);
      destination = c.requires.destination;
      resource = c.requires.resource;
      low = next_place s.last s.coefs c.args.coef s.destination s.resource s.low (rw s.last_is c.requires.next);
    }
