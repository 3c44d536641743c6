-- `fresh::next_of` meets its contract: one test, as `behind` has it.
use borrow.Author.Tests.{lt-ltb, le-ltb}
use Rattle.writer.specs.Fresh.{behind}
use Rattle.writer.proofs.fresh.next_of.Goals as goal

pub returns-then-i-n : goal.returns-then-i-n
unfolding behind
returns-then-i-n c = rw (lt-ltb _ _ c.if-i-n.true)

pub returns-else-i-n : goal.returns-else-i-n
unfolding behind
returns-else-i-n c = rw (le-ltb _ _ c.if-i-n.false)
