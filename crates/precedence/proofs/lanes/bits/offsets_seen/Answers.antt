use Rattle.std.proofs.Common.{◌≡◌, ◌+◌, sym, ap, ◌∙◌, arith}
use Rattle.std.proofs.lemmas.Bool.{and_from, and_parts, lt-ltb, ltb-true}
use Rattle.precedence.specs.inner.lanes.Bits.{has_bit}
use Rattle.precedence.proofs.bits.Words.{below_by_bits, last_lane}
use Rattle.precedence.proofs.lanes.bits.offsets_seen.Goals as goal

pub gathered-seen-requires-clause-few : goal.gathered-seen-requires-clause-few
gathered-seen-requires-clause-few c =
    let last = last_lane c.args.lanes c.requires.few in
    omega (arith, c.max.ensures, last.1, last.2)

pub overflow_cast-result : goal.overflow_cast-result
overflow_cast-result c =
    let few = below_by_bits c.seen_at.result 64 (omega arith) (λ p yes.
    let both = and_parts _ _ (sym (c.seen_at.ensures p) ∙ yes) in
    let less = ltb-true p c.args.len (sym (c.mask_below.ensures p) ∙ ap (λ n. has_bit n p) (sym c.from.ensures) ∙ both.0) in
    omega (arith, less, c.requires.within)) in
    omega (arith, few)

pub returns-clause-all : goal.returns-clause-all
returns-clause-all c = λ i at before lane bit.
    let last = last_lane c.args.lanes c.requires.few in
    let there : at + 0 + i ≡ i + at = omega arith in
    c.seen_at.ensures at ∙ and_from _ _
    (ap (λ n. has_bit n at) c.from.ensures ∙ c.mask_below.ensures at ∙ lt-ltb at c.args.len before)
    (c.gathered-seen.ensures.all (at + 0) i (omega arith) (omega (arith, c.max.ensures, last.1, last.3 i lane)) (ap (has_bit c.args.word) there ∙ bit))
