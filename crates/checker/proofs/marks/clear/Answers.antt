-- `marks::clear` meets its contract: the part up to n is filled with zeros.
use lib.Seq.{length-take-le}
use Rattle.model.specs.Calls.{cleaned}
use Rattle.checker.proofs.marks.clear.Goals as goal

pub returns : goal.returns
unfolding cleaned
returns c = rw (c.fill.ensures.after (λ y e. e), length-take-le c.args.n c.args.scratch.now c.requires)
