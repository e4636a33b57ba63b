use Rattle.std.proofs.Common.{◌+◌, ◌≤◌, ℕ, get_or, subst, sym, ◌∙◌, arith}
use Rattle.precedence.specs.inner.Arcs.{count_in}
use Rattle.precedence.proofs.Arcs.{none_in, sum_to}
use Rattle.precedence.proofs.lists.arc_counts.arcs_in_row.Goals as goal

pub loop-k-preserved : goal.loop-k-preserved
loop-k-preserved c =
    let codes = c.args.places.now.codes.items in
    let own = c.args.own.now in
    let row = c.args.row in
    let k = c.loop-k.k in
    let to = c.next_own-k.result in
    let first = c.find_range-range.ensures.first in
    let past = c.find_range-range.ensures.past in
    let inv = c.loop-k.invariant in
    let later = c.next_own-k.ensures.later in
    record {
      within = c.next_own-k.ensures.within;
      count = inv.count ∙ sym (sum_to (count_in codes row) own 0 k to (omega (arith, later)) c.next_own-k.ensures.within (λ j low up.
          none_in codes own row k j c.args.places.now.rising c.requires.rising low (omega (arith, up, c.next_own-k.ensures.within))
          (omega (arith, c.if-range.false, first, past)) (λ more there.
          subst (λ (n : ℕ). get_or own j 0 + row.past ≤ get_or codes n 0) first
          (c.next_own-k.ensures.none j more up (omega (arith, first, there))))));
      low = omega (arith, inv.low, later);
    }

pub loop-k-preserved-then-range : goal.loop-k-preserved-then-range
loop-k-preserved-then-range c =
    let inv = c.loop-k.invariant in
    let stretch = c.stretch_from-stretch.ensures in
    record {
      within = stretch.within;
      count = omega (arith, inv.count, stretch.arcs);
      low = omega (arith, inv.low, stretch.few);
    }
