-- `text::numbers::number` meets its contract. The loop's invariant: the value so far, with the digits that are left,
-- makes the value of the whole, and i digits make a value below 10 ^ i. Assumes nothing.
use Rattle.std.proofs.Common.{refl, sym, ◌∙◌, arith}
use Rattle.text.proofs.NumberLaws.{number_long, number_digit, value_more, value_end, value_below, value_grows}
use Rattle.text.proofs.numbers.number.Goals as goal

pub with_digit-value-requires : goal.with_digit-value-requires
with_digit-value-requires c =
    let f = c.args.field.now in
    let i = c.loop-digit.digit-index in
    let pre = c.requires in
    let d = number_digit f i pre (omega arith) in
    (omega (arith, number_long f pre, value_below i (omega (arith, number_long f pre))), d.0, d.1)

pub loop-digit-preserved : goal.loop-digit-preserved
loop-digit-preserved c =
    let j = c.loop-digit in
    let f = c.args.field.now in
    let i = j.digit-index in
    let e = c.with_digit-value.ensures in
    rw e (value_grows i j.value _ j.invariant.0 (number_digit f i c.requires (omega arith)).1, value_more f i j.value (omega arith) ∙ j.invariant.1)

pub returns : goal.returns
returns c =
    let j = c.loop-digit in
    sym (value_end c.args.field.now j.digit-index j.value (omega arith)) ∙ j.invariant.1

pub loop-digit-init : goal.loop-digit-init
loop-digit-init c = (omega arith, refl)
