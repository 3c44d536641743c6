-- `marks::is_marked` meets its contract: the mask is one bit, and the byte has it or not.
use Rattle.checker.proofs.MarkLaws.{test}
use Rattle.checker.proofs.marks.is_marked.Goals as goal

pub returns : goal.returns
returns c = test _ _
