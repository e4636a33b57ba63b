use Rattle.std.proofs.Common.{◌≡◌, ◌∙◌, ap, subst, sym, map, get_or, length, All, ◌<◌, arith}
use Rattle.precedence.proofs.Identifiers.{all_inside, as_many_positions, blocks_rise, numbering_is}
use Rattle.precedence.proofs.numbering.number_by_place.number_blocks.Goals as goal

pub blocks_at-requires : goal.blocks_at-requires
blocks_at-requires g c =
    all_inside (g.L.ListedBlocks.listed c.args.listed.now) c.in_ok-places.places.items c.in_ok-places.ensures.sorted c.as_slice.result.now
    (c.as_slice.ensures.value ∙ c.in_ok-positions.ensures)

pub new-requires : goal.new-requires
new-requires g c =
    let listed = g.L.ListedBlocks.listed c.args.listed.now in
    let entries = c.in_ok-places.places.items in
    let sorted = c.in_ok-places.ensures.sorted in
    let positions = c.in_ok-positions.positions.items in
    let are = c.in_ok-positions.ensures in
    let long = c.in_ok-ordered.ensures.len ∙ ap length c.as_slice.ensures.value in
    let as_many = as_many_positions listed entries sorted positions are in
    let same : length listed ≡ length c.in_ok-ordered.ordered.items = omega (arith, as_many, long) in
    record {
      rising = blocks_rise listed entries sorted positions are c.in_ok-ordered.ordered.items
          (λ d. c.in_ok-ordered.ensures.blocks d ∙ ap (map (λ p. get_or listed p d)) c.as_slice.ensures.value) long;
      placed = sym long;
      within = subst (λ n. All (λ p. p < n) positions) same (all_inside listed entries sorted positions are);
      few = omega (arith, c.requires, same);
    }

pub returns-clause-numbering : goal.returns-clause-numbering
returns-clause-numbering g c =
    let listed = g.L.ListedBlocks.listed c.args.listed.now in
    rw c.new.ensures
    (numbering_is listed c.in_ok-places.places.items c.in_ok-places.ensures.sorted c.in_ok-positions.positions.items
    c.in_ok-positions.ensures c.in_ok-ordered.ordered.items
    (λ d. c.in_ok-ordered.ensures.blocks d ∙ ap (map (λ p. get_or listed p d)) c.as_slice.ensures.value)
    (c.in_ok-ordered.ensures.len ∙ ap length c.as_slice.ensures.value))
