-- `judge` is safe: its scratch has the bytes that the checker asks for at most.
use Rattle.std.proofs.Common.{arith}
use Rattle.model.specs.Layout.{shape_of}
use Rattle.model.proofs.Shapes.{need_ever}
use Rattle.store_soundness.proofs.judge.Goals as goal

pub check-requires : goal.check-requires
check-requires g c = omega (arith, need_ever (shape_of c.args.words.now))
