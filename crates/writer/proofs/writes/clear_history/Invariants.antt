use lib.ListN.{length}
use Rattle.model.specs.Layout.{follow}
use Rattle.model.specs.Meaning.{next_fault}
use Rattle.reads.specs.Cells.{shape_in}
use Rattle.writer.proofs.ClearLaws.{Clearing}
use Rattle.writer.proofs.writes.clear_history.Given as goal

abbrev pub invariant-loop-i : goal.invariant-loop-i
invariant-loop-i l = Clearing l.h l.initial.w l.first l.w l.i

abbrev pub decreases-loop-i : goal.decreases-loop-i
decreases-loop-i l = length (follow l.h.faults (next_fault (shape_in l.h) l.w) l.i)
