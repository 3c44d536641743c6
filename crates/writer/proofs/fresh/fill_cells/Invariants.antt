use Prim.Native.Nat.{◌*◌}
use lib.ListN.{length}
use Rattle.writer.specs.Fresh.{cells_to}
use Rattle.writer.proofs.FreshLaws.{Laid}
use Rattle.writer.proofs.fresh.fill_cells.Given as goal

abbrev pub invariant-loop-i : goal.invariant-loop-i
invariant-loop-i l = Laid l.part (length l.initial.part) (l.width * l.i) (cells_to l.width l.n l.i)
