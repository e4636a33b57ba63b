use Rattle.std.proofs.Common.{◌≡◌, ◌+◌, ◌≤◌, ◌++◌, ◌∙◌, All, length, map, take, drop, ap, sym, subst, arith, append_assoc}
use Rattle.std.specs.Prelude.{HoldsAt}
use Rattle.mine_instance.specs.coefs.Groups.{coefs_in, pairs_of}
use Rattle.pit_units.specs.DecimalRange.{IsInDecimalRange}
use Rattle.minelib_writing.specs.inner.CoefParts.{coef_part, FitsForm}
use Rattle.minelib_writing.specs.inner.KeptParts.{HoldsFrom}
use Rattle.std.specs.List.{concat, flat_map}
use Rattle.minelib_writing.proofs.CoefFacts.{group_parts, known_of, of_group}
use Rattle.minelib_writing.proofs.KeptFacts.{holds_then, kept_part}
use Rattle.minelib_writing.proofs.lines.coefs.CoefLinesParted.append.Goals as goal

pub append_group-requires-clause-fit : goal.append_group-requires-clause-fit
append_group-requires-clause-fit g c =
    let all = g.C.CoefList.list c.args.self.now.coefs.now in
    let group = c.group_within-group.result in
    of_group (FitsForm g.V.ValueList.list c.args.self.now.form) all (coefs_in group) (c.args.index + c.loop-count.count) (length (pairs_of group.pairs))
    c.group_within-group.ensures.within c.group_within-group.ensures.value c.args.self.now.fit

pub loop-count-preserved : goal.loop-count-preserved
loop-count-preserved g c =
    let all = g.C.CoefList.list c.args.self.now.coefs.now in
    let form = c.args.self.now.form in
    let index = c.args.index in
    let count = c.loop-count.count in
    let group = c.group_within-group.result in
    let n = length (pairs_of group.pairs) in
    let more : c.len-count.result ≡ n = c.len-count.ensures in
    let on : (index + count) + n ≡ index + (count + n) = omega arith in
    let value = c.group_within-group.ensures.value in
    let known = known_of (λ v. IsInDecimalRange v) group.b group.v (pairs_of group.pairs) c.next_tonnes-end.ensures.kept in
    let part = kept_part (λ c. IsInDecimalRange c.v) all (index + count) n c.group_within-group.ensures.within
    (subst (All (λ c. IsInDecimalRange c.v)) value known) in
    let so_far = concat (take count (drop index (map (coef_part g.V.ValueList.list form) all))) in
    let next = flat_map (coef_part g.V.ValueList.list form) (coefs_in group) in
    rw more (record {
      few = omega (arith, c.group_within-group.ensures.few, c.loop-count-test.true);
      within = subst (λ k. k ≤ length all) on c.group_within-group.ensures.within;
      tonnes = c.in_ok-append_group.ensures.end ∙ c.next_tonnes-end.ensures.text;
      end = c.next_tonnes-end.ensures.end;
      known = c.next_tonnes-end.ensures.kept;
      text =
          c.in_ok-append_group.ensures.text ∙ ap (λ text. text ++ next) c.loop-count.invariant.text
          ∙ append_assoc c.args.out.now.items so_far next
          ∙ ap (λ text. c.args.out.now.items ++ text) (sym (group_parts (coef_part g.V.ValueList.list form) all (coefs_in group) index count n value));
      kept = subst (HoldsFrom (HoldsAt (λ c. IsInDecimalRange c.v) all) index) on
          (holds_then index (index + count) ((index + count) + n) c.loop-count.invariant.kept part);
    })
