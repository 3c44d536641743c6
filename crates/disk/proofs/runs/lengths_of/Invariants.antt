-- The lengths so far, with those of the sizes that are left, are all lengths.
use Rattle.std.proofs.Common.{◌≡◌, ◌++◌, take, drop, map}
use Rattle.disk.specs.Report.{words_in}
use Rattle.disk.proofs.runs.lengths_of.Given as goal

abbrev pub invariant-loop-i : goal.invariant-loop-i
invariant-loop-i l = take l.i l.lengths ++ map words_in (drop l.i l.sizes) ≡ map words_in l.sizes
