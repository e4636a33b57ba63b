use Rattle.std.proofs.Common.{◌≡◌, ◌+◌, ◌≤◌, ◌++◌, length}
use Rattle.command_io.specs.Pieces.{zone_pieces}
use Rattle.command_io.proofs.Walk.{pieces_after, steps_after}
use Rattle.command_io.proofs.pieces.cut_at_most.Given as goal

abbrev pub invariant-loop-following : goal.invariant-loop-following
invariant-loop-following l =
    record {
      pieces : zone_pieces l.input ≡ l.zones.items ++ pieces_after l.following;
      held : length l.zones.items ≤ l.most;
      short : length l.zones.items + steps_after l.following ≤ length l.input;
    }

abbrev pub decreases-loop-following : goal.decreases-loop-following
decreases-loop-following l = steps_after l.following
