-- The recovery of a heap leach at a grade.
use Rattle.std.specs.Prelude.{ℕ, nat_le, List, filter, None}
use Rattle.std.specs.List.{last_or}
use Rattle.std.specs.Option.{option_map_or}
use Rattle.plan_parts.specs.declared.formulas.band.Band.{Band}

-- the recovery of the last band that begins at or below a grade, 0 if there is none
abbrev pub recovery_at : List Band → ℕ → ℕ
recovery_at bands grade = option_map_or (λ b. b.recovery) (last_or None (filter (λ b. nat_le b.start grade) bands)) 0
