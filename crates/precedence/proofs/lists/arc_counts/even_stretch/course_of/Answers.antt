use Rattle.std.proofs.Common.{◌+◌, ◌<◌, length, get_or, arith}
use Rattle.std.proofs.lemmas.List.{get_or_default}
use Rattle.precedence.proofs.ranges.SameCone.{start_is}
use Rattle.precedence.proofs.ranges.Starts.{from_start, start_before, start_grows, start_within}
use Rattle.precedence.proofs.lists.arc_counts.even_stretch.course_of.Goals as goal

pub returns-then-start-len : goal.returns-then-start-len
returns-then-start-len c = λ t le.
    let codes = c.args.places.now.codes.items in
    let target = c.args.target in
    omega (
      arith,
      c.requires.start,
      c.if-start-len.true,
      c.len.ensures,
      start_grows target (target + t) codes c.args.places.now.rising (omega arith),
      start_within (target + t) codes,
    )

pub returns-then-gap-gt0 : goal.returns-then-gap-gt0
returns-then-gap-gt0 c = λ t le.
    let codes = c.args.places.now.codes.items in
    let target = c.args.target in
    let start = c.args.start in
    let within : start < length codes = omega (arith, c.if-start-len.false, c.len.ensures) in
    let code = get_or_default codes start c.index.result.now 0 within in
    omega (
      arith,
      c.requires.start,
      start_grows target (target + t) codes c.args.places.now.rising (omega arith),
      start_before (target + t) start codes within (omega (arith, le, c.saturating_sub-gap.ensures, c.if-gap-gt0.true, c.index.ensures, code)),
    )

pub returns-else-gap-gt0 : goal.returns-else-gap-gt0
returns-else-gap-gt0 c = λ t le.
    let codes = c.args.places.now.codes.items in
    let same_cone = c.args.same_cone.now in
    let target = c.args.target in
    let start = c.args.start in
    let within : start < length codes = omega (arith, c.if-start-len.false, c.len.ensures) in
    let code = get_or_default codes start c.index.result.now 0 within in
    let no_less = from_start target start codes c.args.places.now.rising (omega (arith, c.requires.start)) within in
    start_is codes c.args.places.now.rising start (get_or same_cone start 0) within (c.requires.same_cone.1 start within) (target + t) t
    (omega (arith, no_less, c.saturating_sub-gap.ensures, c.if-gap-gt0.false, c.index.ensures, code))
    (omega (arith, le))
