-- The reason why blocks cannot be numbered.
use Rattle.std.specs.Prelude.{List}
use Rattle.plan_parts.specs.declared.block.Block.{Block}
use Rattle.precedence.specs.Identifier.{IsFirstAgain}
use Rattle.precedence.specs.declared.numbering.same.Same.{Same}
use Rattle.pit_units.specs.declared.or_memory.OrMemory.{OrMemory}
use Rattle.pit_units.specs.declared.or_memory.OrMemory.TheVariants.{Fault, OutOfMemory}

-- the two positions of the first repetition; out of memory has no reason
abbrev pub IsReason : List Block → OrMemory Same → Type 0
IsReason listed (Fault same) = IsFirstAgain listed same.first same.again
IsReason listed OutOfMemory = Unit {0}
