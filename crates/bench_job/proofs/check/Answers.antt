-- `check` is safe: its scratch is as long as the checker asks.
use Rattle.std.proofs.Common.{arith}
use Rattle.model.specs.Layout.{shape_of}
use Rattle.model.proofs.Shapes.{need_ever}
use Rattle.bench_job.proofs.check.Goals as goal

pub check-requires : goal.check-requires
check-requires c = omega (arith, need_ever (shape_of c.args.words.now))
