use Rattle.std.proofs.Common.{◌+◌, arith}
use Rattle.std.proofs.lemmas.List.{get_or_default}
use Rattle.std.proofs.lemmas.List.Kept.{AllPairs-from_increasing}
use Rattle.precedence.proofs.ranges.Starts.{start_before_in, start_within}
use Rattle.precedence.proofs.lists.arc_counts.next_own.Goals as goal

pub returns-clause-within : goal.returns-clause-within
returns-clause-within c =
    omega (arith, c.max.ensures, c.start_of.ensures, start_within (c.saturating_sub-far.result + 1) c.args.own.now, c.requires.k)

pub returns-clause-none : goal.returns-clause-none
returns-clause-none c = λ j more less there.
    let own = c.args.own.now in
    let codes = c.args.places.now.codes.items in
    let far = c.saturating_sub-far.result in
    let inside = start_within (far + 1) own in
    let before = start_before_in (far + 1) j own (omega (arith, c.max.ensures, c.start_of.ensures, more, less)) in
    let up = AllPairs-from_increasing own c.requires.rising c.args.k j 0 more (omega (arith, c.max.ensures, c.start_of.ensures, more, less, inside)) in
    let code = get_or_default codes c.args.id c.index.result.now 0 there in
    omega (arith, before, up, c.saturating_sub-far.ensures, c.index.ensures, code)
