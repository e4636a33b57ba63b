use Rattle.std.proofs.Common.{◌≡◌, ◌+◌, ◌*◌, ◌<◌, ◌≤◌, take, get_or, ap, ◌∙◌, arith}
use Rattle.std.specs.Prelude.{sum_by}
use Rattle.std.proofs.Math.Nat.{mul-le-mul, mul-le-mul_left}
use Rattle.plan_parts.specs.declared.ranges.TheConstants.{MAX_BLOCKS}
use Rattle.precedence.specs.inner.Arcs.{count_in}
use Rattle.precedence.proofs.ranges.Even.{AreEven, begins, ends, sum_even}
use Rattle.precedence.proofs.ranges.Starts.{start_within}
use Rattle.precedence.proofs.lists.arc_counts.even_stretch.stretch_from.Goals as goal

evenly : (c : goal.After-from-there) → AreEven c.args.places.now.codes.items c.args.own.now c.args.row c.args.k c.min-steps.result
    c.args.range.first c.args.range.past c.course_of-first.result.moves c.course_of-past.result.moves
evenly c =
    let own = c.args.own.now in
    let along = c.requires.follow.1 c.args.k c.requires.k in
    let few : c.min-steps.result < get_or c.args.follow.now c.args.k 0 =
    omega (arith, c.min-steps.ensures, c.min.ensures, c.saturating_sub-most.ensures, c.if-most-eq0.false, c.from.ensures) in
    record {
      rising = c.args.places.now.rising;
      within = (along c.min-steps.result few).0;
      follow = λ t le. (along t (omega (arith, le, few))).1;
      firsts = λ t le. c.course_of-first.ensures t (omega (arith, le, c.min-steps.ensures, c.min.ensures));
      pasts = λ t le. c.course_of-past.ensures t (omega (arith, le, c.min-steps.ensures, c.min.ensures));
    }

few_in : (c : goal.After-from-there) → c.from-here.result + c.from-there.result ≤ 2 * MAX_BLOCKS
few_in c =
    let codes = c.args.places.now.codes.items in
    let own = c.args.own.now in
    let n = c.min-steps.result in
    let past = ends codes own c.args.row c.args.k n c.args.range.first c.args.range.past _ _ (evenly c) n (omega arith) in
    omega (
      arith,
      c.from-here.ensures,
      c.from-there.ensures,
      c.saturating_sub.ensures,
      c.shifted-2.ensures,
      past,
      start_within (get_or own (c.args.k + n) 0 + c.args.row.past) codes,
      c.requires.range.in_codes,
      c.args.places.now.few,
    )

pub overflow_mul-result : goal.overflow_mul-result
overflow_mul-result c =
    let few : c.min-steps.result + 1 ≤ 65536 =
    omega (arith, c.min-steps.ensures, c.min.ensures, c.saturating_sub-most.ensures, c.if-most-eq0.false, c.from.ensures, c.type_inv.follow c.args.k) in
    omega (arith, mul-le-mul few (few_in c))

pub returns-clause-within : goal.returns-clause-within
returns-clause-within c = omega (arith, (evenly c).within)

pub returns-clause-arcs : goal.returns-clause-arcs
returns-clause-arcs c =
    let codes = c.args.places.now.codes.items in
    let own = c.args.own.now in
    let row = c.args.row in
    let k = c.args.k in
    let n = c.min-steps.result in
    let all = sum_even codes own row k n c.args.range.first c.args.range.past _ _ (evenly c) in
    let first = begins codes own row k n c.args.range.first c.args.range.past _ _ (evenly c) n (omega arith) in
    let past = ends codes own row k n c.args.range.first c.args.range.past _ _ (evenly c) n (omega arith) in
    let here : c.from-here.result ≡ count_in codes row (get_or own k 0) = omega (arith, c.from-here.ensures, c.requires.range.first, c.requires.range.past) in
    let there : c.from-there.result ≡ count_in codes row (get_or own (k + n) 0) =
    omega (arith, c.from-there.ensures, c.saturating_sub.ensures, c.shifted.ensures, c.shifted-2.ensures, first, past) in
    let product = ap (λ m. (n + 1) * (c.from-here.result + m)) there ∙ ap (λ m. (n + 1) * (m + count_in codes row (get_or own (k + n) 0))) here in
    let to : k + (n + 1) ≡ k + n + 1 = omega arith in
    omega (arith, all, product, ap (λ m. sum_by (count_in codes row) (take m own)) to)

pub returns-clause-few : goal.returns-clause-few
returns-clause-few c = omega (arith, mul-le-mul_left (c.min-steps.result + 1) (few_in c))
