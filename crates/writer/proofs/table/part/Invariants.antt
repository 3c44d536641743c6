use lib.ListN.{length}
use Rattle.model.specs.Layout.{follow}
use Rattle.model.specs.Meaning.{next_card}
use Rattle.reads.specs.Cells.{shape_in}
use Rattle.writer.proofs.PartingLaws.{Parting}
use Rattle.writer.proofs.table.part.Given as goal

abbrev pub invariant-loop-x : goal.invariant-loop-x
invariant-loop-x l = Parting l.h l.initial.w l.w l.x l.k l.g

abbrev pub decreases-loop-x : goal.decreases-loop-x
decreases-loop-x l = length (follow l.h.cards (next_card (shape_in l.h) l.w) l.x)
