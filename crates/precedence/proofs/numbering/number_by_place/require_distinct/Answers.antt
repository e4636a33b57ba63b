use Rattle.std.proofs.Common.{◌≡◌, ◌<◌, ◌≤◌, take, length, get_or, nat_eq, sym, ap, subst, ◌∙◌, arith}
use Rattle.std.specs.List.{IsDistinct}
use Rattle.std.specs.Map.{keys_of}
use Rattle.std.proofs.lemmas.List.{take_all}
use Rattle.std.proofs.lemmas.Option.{get_or_from_slice_get}
use Rattle.plan_parts.specs.declared.block.Block.{Block}
use Rattle.precedence.specs.Codes.{place_code, place_codes}
use Rattle.precedence.proofs.SeenPlaces.{first_again, keys-placed, placed_on}
use Rattle.precedence.proofs.numbering.number_by_place.require_distinct.Goals as goal

pub returns-in-Some-clause-same : goal.returns-in-Some-clause-same
returns-in-Some-clause-same g c =
    let listed = g.L.ListedBlocks.listed c.args.listed.now in
    let position = c.loop-position.position in
    let block = c.block_at-block.result in
    let within : position < length listed = omega (arith, c.loop-position-test.true, c.count-count.ensures) in
    let place : (d : Block) → place_code (get_or listed position d) ≡ c.code.result =
    λ d. ap place_code (get_or_from_slice_get listed position block d c.block_at-block.ensures) ∙ sym c.code.ensures.value in
    first_again listed _ _ c.code.result within place
    (rw (← c.loop-position.invariant.entries) (sym c.in_ok-first.ensures.before ∙ c.in-Some.is))
    (rw (← c.loop-position.invariant.entries) c.loop-position.invariant.unique)

pub loop-position-preserved : goal.loop-position-preserved
loop-position-preserved g c =
    let listed = g.L.ListedBlocks.listed c.args.listed.now in
    let position = c.loop-position.position in
    let block = c.block_at-block.result in
    let within : position < length listed = omega (arith, c.loop-position-test.true, c.count-count.ensures) in
    let pushed = c.in_ok-first.ensures.noted (sym c.in_ok-first.ensures.before ∙ c.in_default.is) in
    record {
      entries =
          placed_on listed position c.code.result block c.loop-position.seen.entries _ within
          (sym (get_or_from_slice_get listed position block block c.block_at-block.ensures))
          c.code.ensures.value c.loop-position.invariant.entries pushed;
      unique = c.in_ok-first.ensures.unique;
    }

pub returns-clause-differ : goal.returns-clause-differ
returns-clause-differ g c =
    let listed = g.L.ListedBlocks.listed c.args.listed.now in
    let past : length listed ≤ c.loop-position.position = omega (arith, c.loop-position-test.false, c.count-count.ensures) in
    let all : take c.loop-position.position listed ≡ listed = take_all c.loop-position.position listed past in
    let same : keys_of c.loop-position.seen.entries ≡ place_codes listed =
    ap keys_of c.loop-position.invariant.entries ∙ keys-placed 0 (take c.loop-position.position listed) ∙ ap place_codes all in
    subst (IsDistinct nat_eq) same c.loop-position.invariant.unique
