-- `disk::opens::length_for` meets its contract: the sum is that of the definition.
use native.Mathlib.Omega.{arith}
use Rattle.model.specs.Shape.{entries, card_width}
use Rattle.model.specs.Layout.{length_for, faults_at, cards_at}
use Rattle.model.specs.Calls.{shape_for}
use Rattle.disk.proofs.opens.length_for.Goals as goal

pub returns : goal.returns
unfolding length_for faults_at cards_at card_width entries shape_for
returns c = omega arith
