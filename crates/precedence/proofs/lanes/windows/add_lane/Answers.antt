use Rattle.std.proofs.Common.{◌≡◌, ℕ, ◌+◌, ◌-◌, ◌<◌, ◌++◌, ◌∷◌, [], false, List, get_or, length, subst, sym, ap, ◌∙◌, arith, append_assoc}
use Rattle.precedence.specs.IdRanges.{ids_of}
use Rattle.precedence.specs.inner.lanes.Bits.{has_bit}
use Rattle.precedence.specs.inner.lanes.Windows.{scene}
use Rattle.precedence.specs.declared.lanes.strips.Found.{Found}
use Rattle.precedence.proofs.ranges.Starts.{start_within}
use Rattle.precedence.proofs.bits.Windows.{lane_of, listed_push, listed_skip, place_seen, retained, AreListed, IsOf}
use Rattle.precedence.proofs.lanes.windows.add_lane.Goals.{then-has_bit+in_ok-push_id, else-has_bit}
use Rattle.precedence.proofs.lanes.windows.add_lane.Goals as goal

pub overflow_add-code : goal.overflow_add-code
overflow_add-code c =
    let cones = c.args.cones.now in
    let at = ap (λ (cs : List ℕ). get_or cs c.args.id 0) c.as_slice-codes.ensures.value in
    let place = place_seen (scene cones) cones.places.now.rising c.args.id c.args.window.now c.requires.window c.requires.lane
    c.as_slice-codes.result.now c.as_slice-codes.ensures.value c.deref-found-items.result.now c.deref-found-items.ensures.value
    c.loop-found.found-index c.found-item.result (omega (arith, c.loop-found-test.true)) c.found-item.is (sym (c.has_bit.ensures ∙ ap (λ n. has_bit n (get_or c.as_slice-codes.result.now c.args.id 0 - c.args.window.now.base)) c.from.ensures) ∙ c.if-has_bit.true) in
    omega (arith, at, place.0, cones.places.now.small c.args.id 0 c.requires.id)

pub overflow_cast-id : goal.overflow_cast-id
overflow_cast-id c =
    let few = c.args.cones.now.places.now.few in
    let within = start_within (get_or c.as_slice-codes.result.now c.args.id 0 + c.found-item.result.distance) c.as_slice-codes.result.now in
    omega (arith, c.start_of-id.ensures, within, few, ap length c.as_slice-codes.ensures.value)

pub loop-found-preserved : goal.loop-found-preserved
loop-found-preserved c =
    let cones = c.args.cones.now in
    let codes = cones.places.now.codes.items in
    let from = get_or codes c.args.id 0 in
    let base = c.args.window.now.base in
    let found = c.args.window.now.found.items in
    let k = c.loop-found.found-index in
    let f = c.found-item.result in
    let value = c.as_slice-codes.ensures.value in
    let is = lane_of (scene cones) c.args.window.now c.args.id c.requires.window c.requires.lane in
    let ids = c.loop-found.invariant.0 in
    let listed = c.loop-found.invariant.1 in
    let at : f ≡ get_or found k f = c.found-item.is ∙ ap (λ (fs : List Found). get_or fs k f) c.deref-found-items.ensures.value in
    let within : k < length found = omega (arith, c.loop-found-test.true, ap length c.deref-found-items.ensures.value) in
    elim c.if-has_bit.branch [
      | then-has_bit+in_ok-push_id w ↦
          let place = place_seen (scene cones) cones.places.now.rising c.args.id c.args.window.now c.requires.window c.requires.lane
          c.as_slice-codes.result.now value c.deref-found-items.result.now c.deref-found-items.ensures.value
          k f (omega (arith, c.loop-found-test.true)) c.found-item.is (sym (c.has_bit.ensures ∙ ap (λ n. has_bit n (get_or c.as_slice-codes.result.now c.args.id 0 - c.args.window.now.base)) c.from.ensures) ∙ w.if-has_bit.true) in
          let id = w.start_of-id.result in (
            ids ++ id ∷ [],
            listed_push codes cones.places.now.rising from (from - base) found is.rising k ids listed within id
                (subst (λ n. IsOf codes from (from - base) found k n) (sym w.start_of-id.ensures) place.1),
            ap (λ v. ids_of v.items) w.ranges-is ∙ w.in_ok-push_id.ensures ∙ ap (λ all. all ++ id ∷ []) c.loop-found.invariant.2
                ∙ append_assoc (ids_of c.args.ranges.now.items) ids (id ∷ []),
          )
      | else-has_bit w ↦
          let none = subst (λ (cs : List ℕ). has_bit f.lanes (get_or cs c.args.id 0 - base) ≡ false) value (sym (c.has_bit.ensures ∙ ap (λ n. has_bit n (get_or c.as_slice-codes.result.now c.args.id 0 - c.args.window.now.base)) c.from.ensures) ∙ w.if-has_bit.false) in (
            ids,
            listed_skip codes cones.places.now.rising from (from - base) found is.rising k ids listed within f
                (ap (λ (x : Found). has_bit x.lanes (from - base)) (sym at) ∙ none),
            ap (λ v. ids_of v.items) w.ranges-is ∙ c.loop-found.invariant.2,
          )
    ]

pub returns : goal.returns
returns c =
    let cones = c.args.cones.now in
    let lane = lane_of (scene cones) c.args.window.now c.args.id c.requires.window c.requires.lane in
    let found = c.args.window.now.found.items in
    let codes = cones.places.now.codes.items in
    let from = get_or codes c.args.id 0 in
    let all : c.loop-found.found-index ≡ length found = omega (arith, c.loop-found-test.false, c.loop-found.auto.found-index-end, ap length c.deref-found-items.ensures.value) in
    let ids = c.loop-found.invariant.0 in (
      ids,
      retained (scene cones) cones.places.now.rising c.args.id (from - c.args.window.now.base) found ids lane
          (subst (λ n. AreListed codes from (from - c.args.window.now.base) n found ids) all c.loop-found.invariant.1),
      c.loop-found.invariant.2,
    )
