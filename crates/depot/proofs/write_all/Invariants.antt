-- Each turn but the last writes at least a byte of what is left.
use Rattle.std.proofs.Common.{length}
use Rattle.depot.proofs.write_all.Given as goal

abbrev pub decreases-loop-rest : goal.decreases-loop-rest
decreases-loop-rest g l = length l.rest
