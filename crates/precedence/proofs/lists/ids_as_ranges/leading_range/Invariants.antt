use Rattle.std.proofs.Common.{◌≡◌, ◌+◌, ◌-◌, ◌^◌, ◌<◌, ◌≤◌, get_or, length, take}
use Rattle.std.specs.List.{range_with_len}
use Rattle.precedence.proofs.lists.ids_as_ranges.leading_range.Given as goal

abbrev pub invariant-loop-len : goal.invariant-loop-len
invariant-loop-len l = record {
  some : 0 < l.len;
  within : l.len ≤ length l.ids;
  small : l.len < 2 ^ 32;
  last : get_or l.ids 0 0 + l.len ≤ 2 ^ 32;
  range : take l.len l.ids ≡ range_with_len (get_or l.ids 0 0) l.len;
}

abbrev pub decreases-loop-len : goal.decreases-loop-len
decreases-loop-len l = length l.ids - l.len
