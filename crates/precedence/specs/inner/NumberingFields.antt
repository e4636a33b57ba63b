-- The numbering that columns represent.
use Rattle.std.specs.Prelude.{◌≡◌, ◌<◌, ◌≤◌, length, All}
use Rattle.std.specs.List.Sorted.{IsStrictlyIncreasing}
use Rattle.precedence.specs.Codes.{place_codes}
use Rattle.precedence.specs.Numbering.{NumberingView}
use Rattle.precedence.specs.declared.numbering.Numbering.TheInside.{Inside}
use Rattle.plan_parts.specs.declared.ranges.TheConstants.{MAX_BLOCKS}

abbrev pub numbered_of : Inside → NumberingView
numbered_of n = record { blocks = n.blocks.items; positions = n.positions.items }

-- the blocks ascend by code, each has a position among them, and they are at most MAX_BLOCKS
pub record KeepsNumbering (n : Inside) : Type 0 where
  pub rising : IsStrictlyIncreasing (place_codes n.blocks.items)
  pub placed : length n.positions.items ≡ length n.blocks.items
  pub within : All (λ p. p < length n.blocks.items) n.positions.items
  pub few : length n.blocks.items ≤ MAX_BLOCKS
