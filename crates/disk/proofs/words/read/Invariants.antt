-- The words so far, with those of the chunks that are left, are all words.
use Rattle.std.proofs.Common.{◌≡◌, ◌++◌, take, drop, map}
use Rattle.std.specs.Int.{w32, from_le_bytes}
use Rattle.disk.proofs.words.read.Given as goal

abbrev pub invariant-loop-i : goal.invariant-loop-i
invariant-loop-i l = take l.i l.words ++ map (from_le_bytes w32) (drop l.i l.fours) ≡ map (from_le_bytes w32) l.fours
