-- `text::pieces::find` meets its contract: no byte before the index is the separator, so the first that is stands there. Assumes nothing.
use Rattle.std.proofs.Common.{◌≡◌, ℕ, false, get_or, length, arith}
use Rattle.std.proofs.lemmas.List.Sums.{position_or_len_is}
use borrow.Author.Count.{below_more}
use borrow.Author.Tests.{eq-eqb, ne_eqb, lt-ltb, le-ltb}
use lib.Dec.{eqb}
use Rattle.text.proofs.pieces.find.Goals as goal

pub loop-i-preserved : goal.loop-i-preserved
loop-i-preserved c =
    let t = c.args.text.now in
    let sep = c.args.sep in
    let i = c.loop-i.i in
    below_more (λ (k : ℕ). eqb (get_or t k 0) sep ≡ false) i c.loop-i.invariant (ne_eqb (get_or t i 0) sep c.if-byte-sep.false)

pub returns-then-byte-sep : goal.returns-then-byte-sep
returns-then-byte-sep c =
    let t = c.args.text.now in
    let sep = c.args.sep in
    let i = c.loop-i.i in
    let at = position_or_len_is (λ (b : ℕ). eqb b sep) t i 0 (omega arith) c.loop-i.invariant (λ h. eq-eqb (get_or t i 0) sep c.if-byte-sep.true) in
    rw (at, lt-ltb i (length t) c.loop-i-test.true)

pub returns : goal.returns
returns c =
    let t = c.args.text.now in
    let sep = c.args.sep in
    let i = c.loop-i.i in
    let at = position_or_len_is (λ (b : ℕ). eqb b sep) t i 0 c.loop-i.auto.i-end c.loop-i.invariant (λ h. absurd (omega arith)) in
    rw (at, le-ltb i (length t) c.loop-i-test.false)
