-- The number that a count represents.
use Rattle.std.specs.Prelude.{ℕ, ◌+◌}
use Rattle.devices.specs.declared.count.Count.{Count, Zero, More'}

abbrev pub count_of : Count → ℕ
count_of Zero = 0
count_of (More' more marker before) = count_of before + more
