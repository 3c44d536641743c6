-- `disk::opens::argument` meets its contract: what is no number counts as 0.
use mathlib.Core.Path.{sym, ◌∙◌}
use Rattle.disk.specs.Desk.{argument}
use Rattle.disk.proofs.opens.argument.Goals as goal

pub returns-then-not-is_number : goal.returns-then-not-is_number
unfolding argument
returns-then-not-is_number c = let k = c.is_number in rw (sym k.ensures ∙ c.if-not-is_number.true)

pub number-requires : goal.number-requires
number-requires c = let k = c.is_number in sym k.ensures ∙ c.if-not-is_number.false

pub returns : goal.returns
unfolding argument
returns c = let k = c.is_number in rw (sym k.ensures ∙ c.if-not-is_number.false) c.number.ensures
