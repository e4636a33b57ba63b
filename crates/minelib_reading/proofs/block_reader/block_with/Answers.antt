use Rattle.std.proofs.Common.{sym}
use Rattle.plan_parts.proofs.BlockFacts.{block_again}
use Rattle.minelib_reading.proofs.block_reader.block_with.Goals as goal

pub returns : goal.returns
returns c = sym (block_again _)
