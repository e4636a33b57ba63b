-- What contracts see of the fields of an entry.
use Rattle.std.specs.Prelude.{nat_lt, if◌then◌else◌, Option, Some, None}
use Rattle.plan_parts.specs.Block.{block_with}
use Rattle.plan_parts.specs.declared.block.Block.{Block}
use Rattle.plan_parts.specs.declared.ranges.TheConstants.{MAX_ZONES}
use Rattle.rows.specs.declared.packed.entry.Entry.TheInside.{Inside}

-- the block of a row: its zone is that of a block
abbrev pub block_in : Inside → Option Block
block_in e = if nat_lt e.zone MAX_ZONES then Some (block_with e.x e.y e.z e.kg e.grade e.zone) else None
