use Rattle.std.proofs.Common.{◌-◌, ◌<◌, length, ◌∙◌, arith, ⊎_elim}
use Rattle.std.proofs.lemmas.Bool.{cases_eq}
use Rattle.std.proofs.lemmas.List.{get_or-set_same, get_or-set_other, length-set}
use Rattle.precedence.proofs.lists.same_cone.same_cone_of.Goals as goal

pub loop-id-preserved : goal.loop-id-preserved
loop-id-preserved c =
    let codes = c.args.codes.now in
    let id = c.loop-id.id - 1 in
    let same_cone = c.loop-id.same_cone.items in
    let more = c.same_cone_from-after.result in
    let had = c.loop-id.invariant in
    let lt : id < length same_cone = omega (arith, had.inside, had.each, c.loop-id-test.true) in
    record {
      inside = omega (arith, had.inside);
      each = length-set same_cone id more ∙ had.each;
      after = c.same_cone_from-after.ensures;
      follow = λ k le in_k. ⊎_elim
          (λ same. rw same (rw (get_or-set_same same_cone id more 0 lt) c.same_cone_from-after.ensures))
          (λ other. rw (get_or-set_other same_cone id k more 0 other) (had.follow k (omega (arith, le, other)) in_k))
          (cases_eq k id);
    }

pub returns : goal.returns
returns c = record {
  each = c.loop-id.invariant.each;
  follow = λ id lt. c.loop-id.invariant.follow id (omega (arith, c.loop-id-test.false)) lt;
}
