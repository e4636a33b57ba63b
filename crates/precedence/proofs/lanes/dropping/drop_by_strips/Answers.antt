use Rattle.std.proofs.Common.{◌≡◌, true, ℕ, ◌+◌, ◌-◌, ◌^◌, ◌<◌, ◌≤◌, length, get_or, ◌⊎◌, sym, ap, subst, ◌∙◌, arith}
use Rattle.precedence.specs.declared.cones.cone_rows.Row.{Row}
use Rattle.precedence.specs.declared.lanes.strip.Strip.{Strip}
use Rattle.precedence.specs.inner.lanes.Bits.{has_bit}
use Rattle.precedence.specs.inner.lanes.Windows.{Drops, Meets, MeetsAt}
use Rattle.precedence.specs.inner.Rows.{pasts, start_of}
use Rattle.precedence.proofs.bits.Dropping.{drops_all, drops_next, drops_past, drops_so, may_so}
use Rattle.precedence.proofs.bits.RowsMet.{past_rises}
use Rattle.precedence.proofs.bits.StripsMet.{as_many, start_at, starts_later, at_meets, meets_at, none_passed, none_there}
use Rattle.precedence.proofs.bits.Words.{no_bit}
use Rattle.precedence.proofs.ranges.RowOfCode.{row_is}
use Rattle.precedence.proofs.ranges.Starts.{start_within}
use Rattle.precedence.proofs.lanes.dropping.drop_by_strips.Goals.{else-row-rows-via-then-row-rows+else-rows-row, else-row-rows-via-else-row-rows}
use Rattle.precedence.proofs.lanes.dropping.drop_by_strips.Goals as goal

pub loop-k-preserved-then-rows-row : goal.loop-k-preserved-then-rows-row
loop-k-preserved-then-rows-row c =
    let strips = c.args.strips.now in
    let rows = c.args.table.now.rows.items in
    let distance = c.args.distance in
    let k = c.loop-k.k in
    let strip = c.index.result.now in
    let starts = c.as_slice-starts.result.now in
    let lt : k < length strips.strips.items = omega (arith, c.loop-k-test.true, as_many strips starts c.as_slice-starts.ensures.value) in
    let start : get_or starts k 0 ≡ strip.start =
    start_at strips starts c.as_slice-starts.ensures.value k strip lt ∙ ap (λ (s : Strip). s.start) (sym c.index.ensures) in
    let total : strip.start + (distance - get_or starts k 0) ≡ distance = omega (arith, start, c.if-starts-k.true) in
    let row_is = c.row_reached-row.ensures ∙ ap (λ n. start_of (n + 1) (pasts rows)) c.saturating_sub.ensures in
    let dropped = subst (λ d. Drops (λ i. (e : ℕ) × Meets strip rows d i e) c.loop-k.rest c.drop_by_rows-now.result) total (c.drop_by_rows-now.ensures.all (omega (arith, row_is))) in
    drops_next (MeetsAt strips.strips.items rows distance) 0 k (omega arith) c.loop-k.invariant (drops_so
    (λ i meets. meets_at strips.strips.items rows distance k i strip lt c.index.ensures meets)
    (λ i meets. at_meets strips.strips.items rows distance k i strip lt c.index.ensures meets)
    dropped)

pub next_strip-k-requires-clause-row : goal.next_strip-k-requires-clause-row
next_strip-k-requires-clause-row c =
    let past = c.as_slice.result.now in
    let reached : c.row_reached-row.result ≤ length (pasts c.args.table.now.rows.items) =
    omega (arith, c.row_reached-row.ensures, start_within (c.saturating_sub.result + 1) (pasts c.args.table.now.rows.items)) in
    omega (arith, reached, ap length c.as_slice.ensures.value, ap length c.args.table.now.all_past)

pub next_strip-k-requires-clause-rising : goal.next_strip-k-requires-clause-rising
next_strip-k-requires-clause-rising c = past_rises c.args.table.now c.as_slice.result.now c.as_slice.ensures.value

pub loop-k-preserved : goal.loop-k-preserved
loop-k-preserved c =
    let strips = c.args.strips.now in
    let table = c.args.table.now in
    let rows = table.rows.items in
    let distance = c.args.distance in
    let k = c.loop-k.k in
    let row = c.row_reached-row.result in
    let starts = c.as_slice-starts.result.now in
    let start = get_or starts k 0 in
    let lt : k < length strips.strips.items = omega (arith, c.loop-k-test.true, as_many strips starts c.as_slice-starts.ensures.value) in
    let at : (s : Strip) → (get_or strips.strips.items k s).start ≡ start = λ s. sym (start_at strips starts c.as_slice-starts.ensures.value k s lt) in
    let slice : c.as_slice-rows.result.now ≡ rows = c.as_slice-rows.ensures.value in
    let begins : row < length rows → (d : Row) → distance - start < (get_or rows row d).first = elim c.else-row-rows.branch [
      | else-row-rows-via-then-row-rows+else-rows-row w ↦ λ within d.
          let tested = w.index-rows-row.result in
          let is : tested ≡ get_or rows row tested = w.index-rows-row.is ∙ ap (λ rs. get_or rs row tested) slice in
          rw (row_is rows row tested within is d) (omega (arith, w.if-rows-row, ap (λ (r : Row). r.first) w.index-rows-row.is))
      | else-row-rows-via-else-row-rows w ↦ λ within d. absurd (omega (arith, within, w.if-row-rows, ap length slice))
    ] in
    let past_is : c.as_slice.result.now ≡ pasts rows = c.as_slice.ensures.value ∙ table.all_past in
    let passed : (j : ℕ) (s : Strip) → k < j → j < c.next_strip-k.result → j < length strips.strips.items
    → (row ≡ 0) ⊎ (get_or (pasts rows) (row - 1) 0 + 63 ≤ distance - (get_or strips.strips.items j s).start) = rw past_is at c.next_strip-k.ensures.passed in
    let row_reached : row ≡ start_of (distance - start - 63 + 1) (pasts rows) =
    c.row_reached-row.ensures ∙ ap (λ n. start_of (n + 1) (pasts rows)) c.saturating_sub.ensures in
    drops_past (MeetsAt strips.strips.items rows distance) 0 k c.next_strip-k.result (omega (arith, c.next_strip-k.ensures.later))
    (none_passed strips.strips.items rows (10 ^ 15) distance k c.next_strip-k.result start row table.in_order
    (λ n s le less. omega (arith, starts_later strips k n s le less, at s))
    at row_reached begins passed)
    c.loop-k.invariant

pub returns-else-rest-ne0 : goal.returns-else-rest-ne0
returns-else-rest-ne0 c = record {
  may = may_so (λ i why. (why.0, why.3)) c.loop-k.invariant.may;
  none = λ i kept _. no_bit i (subst (λ rest. has_bit rest i ≡ true) c.if-rest-ne0.false kept);
}

pub returns-else-starts-k : goal.returns-else-starts-k
returns-else-starts-k c =
    let strips = c.args.strips.now in
    let k = c.loop-k.k in
    let starts = c.as_slice-starts.result.now in
    let lt : k < length strips.strips.items = omega (arith, c.loop-k-test.true, as_many strips starts c.as_slice-starts.ensures.value) in
    drops_all (MeetsAt strips.strips.items c.args.table.now.rows.items c.args.distance) k
    (λ j i from. none_there strips.strips.items c.args.table.now.rows.items c.args.distance j i
    (λ inside s. omega (arith, starts_later strips k j s from inside, start_at strips starts c.as_slice-starts.ensures.value k s lt, c.if-starts-k.false)))
    c.loop-k.invariant

pub returns-after-loop-k : goal.returns-after-loop-k
returns-after-loop-k c =
    drops_all (MeetsAt c.args.strips.now.strips.items c.args.table.now.rows.items c.args.distance) c.loop-k.k
    (λ j i from meets. omega (
      arith,
      from,
      meets.0,
      c.loop-k-test.false,
      as_many c.args.strips.now c.as_slice-starts.result.now c.as_slice-starts.ensures.value,
    ))
    c.loop-k.invariant
