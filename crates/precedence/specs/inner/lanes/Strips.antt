-- Strips without overlaps.
use Rattle.std.specs.Prelude.{ℕ, ◌+◌, ◌<◌, ◌≤◌, List, length, slice_index_or}
use Rattle.precedence.specs.declared.lanes.strip.Strip.{Strip}

-- strips in order, without overlaps
abbrev pub AreApart : List Strip → Type 0
AreApart strips = (j k : ℕ) (s : Strip) → j < k → k < length strips → (slice_index_or strips j s).start + (slice_index_or strips j s).len ≤ (slice_index_or strips k s).start
