-- A linear index for each cell, in the order of identifiers.
use Rattle.std.specs.Prelude.{ℕ, ◌+◌, ◌*◌, List, map}
use Rattle.plan_parts.specs.declared.block.Block.{Block}
use Rattle.precedence.specs.declared.places.code.TheConstants.{BENCH, ROW}

-- rows are so far apart that a code some thousands from a block's code belongs to no other row
abbrev pub place_code : Block → ℕ
place_code b = b.z * BENCH + b.y * ROW + b.x

abbrev pub place_codes : List Block → List ℕ
place_codes blocks = map place_code blocks
