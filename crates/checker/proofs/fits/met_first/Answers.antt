-- `fits::met_first` meets its contract: the loop's invariant is that what the search answers from here is what it answers from the start.
use mathlib.Core.Path.{sym, ◌∙◌}
use native.Mathlib.Omega.{arith}
use lib.Dec.{lit<}
use Rattle.model.specs.Layout.{to_next}
use Rattle.model.proofs.Lists.{between_is}
use Rattle.reads.specs.Cells.{shape_in}
use Rattle.reads.proofs.CellLaws.{word_in}
use Rattle.checker.proofs.FitLaws.{met_here, met_out, met_twin, met_on, met_end}
use Rattle.checker.proofs.fits.met_first.Goals.{then-not-within-via-then-not-within, then-not-within-via-else-not-within+then-same_key}
use Rattle.checker.proofs.fits.met_first.Goals as goal

pub returns-then-j-i : goal.returns-then-j-i
returns-then-j-i c =
    let a = c.args in
    let l = c.loop in
    sym (sym l.invariant ∙ met_here (shape_in a.view.now.header) a.view.now.words.now l.j a.i a.view.now.header.cards l.counter c.loop-test.true c.if-j-i.true)

pub same_key-requires : goal.same_key-requires
same_key-requires c =
    let e = (between_is 1 _ _).0 (sym c.within.ensures ∙ c.if-not-within.false) in
    (e.0, e.1, c.requires.0, c.requires.1)

pub returns-then-not-within : goal.returns-then-not-within
returns-then-not-within c =
    let a = c.args in
    let l = c.loop in
    elim c.then-not-within.branch [
      | then-not-within-via-then-not-within w ↦
          let e = sym c.within.ensures ∙ w.if-not-within.true in
          sym (sym l.invariant ∙ met_out (shape_in a.view.now.header) a.view.now.words.now l.j a.i a.view.now.header.cards l.counter c.loop-test.true c.if-j-i.false e)
      | then-not-within-via-else-not-within+then-same_key w ↦
          let e = sym c.within.ensures ∙ w.if-not-within.false in
          sym (sym l.invariant ∙ met_twin (shape_in a.view.now.header) a.view.now.words.now l.j a.i a.view.now.header.cards l.counter c.loop-test.true c.if-j-i.false e (sym w.same_key.ensures ∙ w.if-same_key.true))
    ]

pub card_word-j-requires : goal.card_word-j-requires
card_word-j-requires c =
    let e = (between_is 1 _ _).0 (sym c.within.ensures ∙ c.if-not-within.false) in
    let s = c.args.view.now.sized in
    (e.0, e.1, word_in s to_next (lit< tt))

pub loop-preserved : goal.loop-preserved
loop-preserved c =
    let a = c.args in
    let l = c.loop in
    let e = sym c.within.ensures ∙ c.if-not-within.false in
    rw c.card_word-j.ensures
    (met_on (shape_in a.view.now.header) a.view.now.words.now l.j a.i a.view.now.header.cards l.counter c.loop-test.true c.if-j-i.false e (sym c.same_key.ensures ∙ c.if-same_key.false) ∙ l.invariant)

pub returns : goal.returns
returns c =
    let a = c.args in
    let l = c.loop in
    sym (sym l.invariant ∙ met_end (shape_in a.view.now.header) a.view.now.words.now l.j a.i a.view.now.header.cards l.counter (omega arith))
