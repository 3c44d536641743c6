-- `job::tally::plus` meets its contract: the sum that is held at the top is the lesser of the sum and the top. Assumes nothing.
use Rattle.std.proofs.Common.{arith}
use Rattle.model.specs.Job.{plus, tally_top}
use Rattle.job.proofs.tally.plus.Goals as goal

pub returns : goal.returns
unfolding plus tally_top
returns c = omega (arith, c.saturating_add.ensures)
