-- Why a text states no plan.
use Rattle.std.specs.Prelude.{◌≡◌, ℕ, ◌<◌, ◌≤◌, List, length, Err}
use Rattle.pit_model.specs.Planned.{planned}
use Rattle.refusals.specs.declared.refusal.Refusal.TheVariants.{OutOfMemory}
use Rattle.command_io.specs.declared.refused.Refused.{Refused}
use Rattle.command_io.specs.declared.refused.Refused.TheVariants.{NotUtf8, FeedFailed, TooLong, Plan, Text, Run}
use Rattle.command_io.specs.declared.refused.source.Source.TheVariants as source
use Rattle.plan_parts.specs.declared.ranges.TheConstants.{MAX_PLAN_BYTES}

-- the text has more than 1,048,576 bytes; or at most that many, and it states no plan; or memory was refused
abbrev pub IsNoPlan : List ℕ → Refused → Type 0
IsNoPlan text NotUtf8 = ⊥
IsNoPlan text (FeedFailed which) = ⊥
IsNoPlan text (TooLong which) = (which ≡ source.Plan) × (MAX_PLAN_BYTES < length text)
IsNoPlan text (Plan fault) = (length text ≤ MAX_PLAN_BYTES) × (planned text ≡ Err fault)
IsNoPlan text (Text fault) = ⊥
IsNoPlan text (Run why) = why ≡ OutOfMemory
