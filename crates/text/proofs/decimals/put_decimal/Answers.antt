-- `text::decimals::put_decimal` meets its contract. The loop's invariant: the digits of the number left, written at `at` over what is written
-- so far, make the whole; the next digit stands before `i`. Assumes nothing.
use Rattle.std.proofs.Common.{ℕ, refl, sym, ap, ◌∙◌, ◌+◌, ◌-◌, ◌/◌, ◌%◌, arith}
use Rattle.std.proofs.lemmas.List.Edits.{sets}
use Rattle.model.specs.Text.{decimal}
use Rattle.text.proofs.DecimalLaws.{decimal_small, decimal_more, decimal_less, decimal_least, decimal_below, decimal_from}
use Rattle.text.proofs.Putting.{sets_last}
use Rattle.text.proofs.decimals.put_decimal.Goals as goal

pub put_byte-requires : goal.put_byte-requires
put_byte-requires c = omega (arith, decimal_least c.args.n)

pub returns-then-n-lt10 : goal.returns-then-n-lt10
returns-then-n-lt10 c = rw (decimal_small c.args.n c.if-n-lt10.true, ← c.digit.ensures) c.put_byte.ensures

pub loop-i-init : goal.loop-i-init
loop-i-init c = record { less = omega arith; next = omega arith; whole = refl }

pub digit-requires-2 : goal.digit-requires-2
digit-requires-2 c = decimal_below c.loop-i.m (omega arith) (omega arith)

pub loop-i-preserved : goal.loop-i-preserved
loop-i-preserved c =
    let j = c.loop-i in
    let at = c.args.at in
    let m = j.m in
    let many = decimal_from m (omega arith) in
    let more = decimal_more m (omega arith) (omega arith) in
    let less = decimal_less m (omega arith) (omega arith) in
    record {
      less = omega arith;
      next = omega arith;
      whole =
          rw c.digit-in-loop-i.ensures
          (sets_last (decimal (m / 10)) j.out at (j.i - 1) (48 + m % 10) (omega arith) ∙ ap (sets j.out at) (sym more) ∙ j.invariant.whole);
    }

pub bounds-out-at : goal.bounds-out-at
bounds-out-at c = omega (arith, decimal_least c.args.n)

pub returns : goal.returns
returns c =
    let j = c.loop-i in
    let at = c.args.at in
    let one = decimal_below j.m (omega arith) (omega arith) in
    record {
      out_is = rw c.digit-2.ensures (ap (sets j.out at) (sym (decimal_small j.m (omega arith))) ∙ j.invariant.whole);
      end_is = ap (λ (k : ℕ). at + k) c.decimal_len.ensures.is;
    }
