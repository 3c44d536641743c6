-- Each file lies behind the others, within the room.
use Rattle.std.proofs.Common.{length, ◌≤◌}
use Rattle.desk.proofs.shows.gather.Given as goal

abbrev pub invariant-loop-i : goal.invariant-loop-i
invariant-loop-i l = l.at ≤ length l.room
