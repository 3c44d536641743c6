-- `numbers::around` meets its contract: a remainder of a sum is that of the summands' remainders.
use native.Mathlib.Nat.{mod-add-mod, add-mod-mod}
use Rattle.script.proofs.numbers.around.Goals as goal

pub returns : goal.returns
returns g c = simp (mod-add-mod, add-mod-mod)
