-- `layout::length_for` meets its contract: the fault cells stand last.
use native.Mathlib.Omega.{arith}
use Rattle.reads.specs.Cells.{shape_by}
use Rattle.reads.proofs.FrontLaws.{behind_few}
use Rattle.reads.proofs.layout.length_for.Goals as goal

pub overflow_add-result : goal.overflow_add-result
overflow_add-result c = omega (arith, c.faults_at-behind.ensures, behind_few (shape_by c.args.s) (omega (arith, c.well_formed)), c.well_formed)
