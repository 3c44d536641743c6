use Rattle.std.proofs.Common.{◌≡◌, ◌^◌, ◌<◌, drop}
use Rattle.model.specs.Text.{value_from}
use Rattle.text.proofs.numbers.number.Given as goal

abbrev pub invariant-loop-digit : goal.invariant-loop-digit
invariant-loop-digit l = (l.value < 10 ^ l.digit-index) × (value_from l.value (drop l.digit-index l.field) ≡ value_from 0 l.field)
