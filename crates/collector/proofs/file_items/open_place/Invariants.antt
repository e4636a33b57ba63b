use Rattle.std.proofs.Common.{◌≡◌, ℕ, ◌<◌, is_some, true}
use Rattle.collector.specs.inner.ItemsByFile.{slot}
use Rattle.collector.proofs.file_items.open_place.Given as goal

abbrev pub invariant-loop-place : goal.invariant-loop-place
invariant-loop-place l = (place : ℕ) → place < l.place → is_some (slot l.rows place) ≡ true
