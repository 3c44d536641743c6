-- `disk::looks::see_in` meets its contract: the words are read, and checked before they are looked at.
use mathlib.Core.Path.{sym, ◌∙◌}
use native.Mathlib.Omega.{arith}
use Rattle.model.specs.Shape.{most_cards, most_faults, need}
use Rattle.disk.specs.Check.{seen_by}
use Rattle.disk.proofs.looks.see_in.Goals as goal

pub check-requires : goal.check-requires
unfolding need most_cards most_faults
check-requires c = omega arith

pub see_sound-requires : goal.see_sound-requires
see_sound-requires c = let k = c.check in sym k.ensures.0 ∙ c.if-check.true

pub returns-then-check : goal.returns-then-check
unfolding seen_by
returns-then-check c = let k = c.check in rw (← c.read.ensures.are, sym k.ensures.0 ∙ c.if-check.true) c.see_sound.ensures

pub returns-else-check : goal.returns-else-check
unfolding seen_by
returns-else-check c = let k = c.check in rw (← c.read.ensures.are, sym k.ensures.0 ∙ c.if-check.false)
