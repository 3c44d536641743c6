-- `marks::mark` meets its contract: one byte is written, with the one bit set.
use Prim.Native.Nat.{◌%◌}
use native.Mathlib.Omega.{arith}
use Rattle.checker.specs.Marks.{marked_at}
use Rattle.checker.proofs.MarkLaws.{mask}
use Rattle.checker.proofs.marks.mark.Goals as goal

pub returns : goal.returns
unfolding marked_at
returns c = rw (mask (c.args.k % 8) (omega arith))
