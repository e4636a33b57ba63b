use Rattle.std.proofs.Common.{◌≡◌, ◌+◌, List, All, min, subst, sym, ap, ◌∙◌, arith}
use Rattle.std.proofs.lemmas.Bool.{and_parts, both_ways}
use Rattle.precedence.specs.inner.lanes.Bits.{has_bit}
use Rattle.precedence.specs.inner.lanes.Windows.{AreCovers, AreFound, Drops, HasOffsets, IsCover, MayDrop, MeetsAny}
use Rattle.precedence.specs.declared.lanes.strips.Cover.{Cover}
use Rattle.precedence.specs.declared.lanes.strips.Found.{Found}
use Rattle.precedence.specs.declared.lanes.strips.Strips.{Strips}
use Rattle.precedence.proofs.bits.Serving.{drops_both, found_end, found_next, found_not, found_skipped, found_start, offsets_cleared}
use Rattle.precedence.proofs.bits.Words.{below_by_bits, lane_below}
use Rattle.precedence.proofs.lanes.serving.serve_strip.Goals.{then-rest-ne0+in_ok-kept+in_ok-add_found, else-rest-ne0}
use Rattle.precedence.proofs.lanes.serving.serve_strip.Goals as goal

pub loop-at-init : goal.loop-at-init
loop-at-init c =
    let s = c.index.result.now in
    let by_table = c.args.sight.now.by_table.items in
    let covers = subst (λ (cs : List Cover). All (IsCover c.args.lanes by_table) cs) (sym c.as_slice.ensures.value) c.requires.covers.all in
    let offsets = offsets_cleared c.args.tables.now by_table c.args.lanes s c.offsets_seen-seen.result c.uncovered-offsets.result
    (λ i k lt lane bit gone. absurd (both_ways _ gone (c.offsets_seen-seen.ensures.all i k lt lane bit)))
    (λ i k lane seen gone. c.uncovered-offsets.ensures.covered c.args.lanes i k by_table c.requires.each covers lane seen gone) in
    let before = found_start c.args.tables.now c.args.sight.now c.args.lanes c.args.number s c.requires.number c.index.ensures c.args.found.now.items c.requires.found in
    let none : s.start ≡ s.start + min 0 s.len = omega arith in
    record {
      covers = c.requires.covers;
      found = found_skipped c.args.tables.now c.args.sight.now c.args.lanes c.args.number s c.requires.number c.index.ensures
          c.uncovered-offsets.result 0 c.first_from-at.result c.args.found.now.items
          (subst (λ n. AreFound c.args.tables.now c.args.sight.now c.args.lanes n c.args.found.now.items) none before)
          c.first_from-at.ensures.later offsets c.first_from-at.ensures.none;
      offsets = offsets;
    }

pub add_found-requires : goal.add_found-requires
add_found-requires c =
    let few = below_by_bits c.in_ok-kept.kept 64 (omega arith) (λ i kept.
    lane_below c.args.lanes 64 i c.requires.few (and_parts (has_bit c.args.lanes i) _
    (sym (c.seen_at-there.ensures i) ∙ c.drop_by_covers-rest.ensures.among i (c.in_ok-kept.ensures.drops.may.among i kept))).0) in
    record { few = omega (arith, few) }

pub loop-at-preserved : goal.loop-at-preserved
loop-at-preserved c =
    let inv = c.loop-at.invariant in
    let s = c.index.result.now in
    let k = c.loop-at.at in
    let d = s.start + c.from.result in
    let by_table = c.args.sight.now.by_table.items in
    let there : d ≡ s.start + k = omega (arith, c.from.ensures) in
    let is = c.as_slice-by_table.ensures.value in
    let may = subst (λ (bs : List Strips). MayDrop (MeetsAny c.args.tables.now bs d) c.seen_at-there.result c.drop_by_covers-rest.result) is
    c.drop_by_covers-rest.ensures in
    let covers : AreCovers c.args.lanes by_table c.if-rest-ne0.covers.items = elim c.if-rest-ne0.branch [
      | then-rest-ne0+in_ok-kept+in_ok-add_found w ↦
          subst (λ (cs : List Cover). AreCovers c.args.lanes by_table cs) (sym (ap (λ v. v.items) w.covers-is))
          (subst (λ (bs : List Strips). AreCovers c.args.lanes bs w.drop_by_all.new.covers.items) is w.in_ok-kept.ensures.covers)
      | else-rest-ne0 w ↦ subst (λ (cs : List Cover). AreCovers c.args.lanes by_table cs) (sym (ap (λ v. v.items) w.covers-is)) inv.covers
    ] in
    let offsets : HasOffsets c.args.tables.now by_table c.args.lanes s c.if-rest-ne0.offsets = elim c.if-rest-ne0.branch [
      | then-rest-ne0+in_ok-kept+in_ok-add_found w ↦
          let all = subst (λ (cs : List Cover). All (IsCover c.args.lanes by_table) cs) (ap (λ v. v.items) w.covers-is ∙ sym w.as_slice-then-rest-ne0.ensures.value) covers.all in
          subst (λ n. HasOffsets c.args.tables.now by_table c.args.lanes s n) (sym w.offsets-is)
          (offsets_cleared c.args.tables.now by_table c.args.lanes s c.loop-at.offsets w.uncovered-offsets-then-rest-ne0.result inv.offsets
          (λ i n lane old gone. w.uncovered-offsets-then-rest-ne0.ensures.covered c.args.lanes i n by_table c.requires.each all lane old gone))
      | else-rest-ne0 w ↦ subst (λ n. HasOffsets c.args.tables.now by_table c.args.lanes s n) (sym w.offsets-is) inv.offsets
    ] in
    let next : AreFound c.args.tables.now c.args.sight.now c.args.lanes (s.start + min (k + 1) s.len) c.if-rest-ne0.found.items = elim c.if-rest-ne0.branch [
      | then-rest-ne0+in_ok-kept+in_ok-add_found w ↦
          let drops = drops_both (MeetsAny c.args.tables.now by_table d) c.seen_at-there.result c.drop_by_covers-rest.result w.in_ok-kept.kept
          may (subst (λ (bs : List Strips). Drops (MeetsAny c.args.tables.now bs d) c.drop_by_covers-rest.result w.in_ok-kept.kept) is w.in_ok-kept.ensures.drops) in
          subst (λ (fs : List Found). AreFound c.args.tables.now c.args.sight.now c.args.lanes (s.start + min (k + 1) s.len) fs)
          (sym (ap (λ v. v.items) w.found-is))
          (found_next c.args.tables.now c.args.sight.now c.args.lanes c.args.number s c.requires.number c.index.ensures
          d k c.seen_at-there.result w.in_ok-kept.kept c.loop-at.found.items inv.found there c.loop-at-test.true c.seen_at-there.ensures
          drops.may drops.none _ w.in_ok-add_found.ensures.some w.in_ok-add_found.ensures.none)
      | else-rest-ne0 w ↦
          subst (λ (fs : List Found). AreFound c.args.tables.now c.args.sight.now c.args.lanes (s.start + min (k + 1) s.len) fs)
          (sym (ap (λ v. v.items) w.found-is))
          (found_not c.args.tables.now c.args.sight.now c.args.lanes c.args.number s c.requires.number c.index.ensures
          d k c.seen_at-there.result c.drop_by_covers-rest.result c.loop-at.found.items inv.found there c.loop-at-test.true c.seen_at-there.ensures
          may w.if-rest-ne0.false)
    ] in
    record {
      covers = covers;
      found = found_skipped c.args.tables.now c.args.sight.now c.args.lanes c.args.number s c.requires.number c.index.ensures
          c.if-rest-ne0.offsets (k + 1) c.first_from-at-in-loop-at.result c.if-rest-ne0.found.items next
          c.first_from-at-in-loop-at.ensures.later offsets c.first_from-at-in-loop-at.ensures.none;
      offsets = offsets;
    }

pub returns-clause-found : goal.returns-clause-found
returns-clause-found c =
    let s = c.index.result.now in
    let end : s.start + min c.loop-at.at s.len ≡ s.start + s.len = omega (arith, c.loop-at-test.false) in
    found_end c.args.tables.now c.args.sight.now c.args.lanes c.args.number s c.requires.number c.index.ensures c.loop-at.found.items
    (subst (λ n. AreFound c.args.tables.now c.args.sight.now c.args.lanes n c.loop-at.found.items) end c.loop-at.invariant.found)
