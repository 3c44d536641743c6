-- `disk::runs::lengths_of` meets its contract: each length is a quarter of its size.
use Rattle.std.proofs.Common.{arith}
use Rattle.disk.specs.Report.{words_in}
use Rattle.disk.proofs.Filling.{filled_end}
use Rattle.disk.proofs.runs.lengths_of.Goals as goal

pub returns : goal.returns
returns c = filled_end words_in c.args.sizes.now c.loop-i.lengths c.loop-i.i (omega arith) (omega arith) c.loop-i.invariant
