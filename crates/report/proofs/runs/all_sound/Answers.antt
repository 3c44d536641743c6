-- `report::runs::all_sound` meets its contract: the loop keeps `Testing`, and the scratch is clean before a store is tested, so what the test
-- cleans of it stays as it was.
use mathlib.Core.Path.{◌≡◌, sym, ap, ◌∙◌}
use lib.ListN.{take, get_or}
use Rattle.model.specs.Shape.{need}
use Rattle.model.specs.Layout.{shape_of, sound}
use Rattle.report.specs.Runs.{Clean}
use Rattle.report.proofs.RunLaws.{testing_start, testing_end, testing_clean, testing_short, testing_stop, testing_next}
use Rattle.report.proofs.runs.all_sound.Goals.{In-Some, After-check}
use Rattle.report.proofs.runs.all_sound.Goals as goal

pub loop-len-init : goal.loop-len-init
loop-len-init c = testing_start _ _ _ c.requires.0 c.requires.1

pub returns-in_default : goal.returns-in_default
returns-in_default c =
    (testing_short c.loop-len.invariant c.loop-len-test.true c.in_default.ensures.cases, c.loop-len.invariant.kept)

-- the store at hand
at_hand : (c : In-Some) → c.in-Some.piece.now ≡ take (get_or c.args.lengths.now c.loop-len.len-index 0) c.loop-len.rest.now
at_hand c = c.in-Some.ensures.cases.1

clean : (c : In-Some) → Clean (need (shape_of c.in-Some.piece.now)) c.loop-len.scratch
clean c = rw (at_hand c) (testing_clean c.loop-len.invariant c.loop-len-test.true)

pub check-requires : goal.check-requires
check-requires c = (clean (goal.at.check-requires c).In-Some).long

pub returns-then-not-check : goal.returns-then-not-check
returns-then-not-check c =
    let at = goal.at.returns-then-not-check c in
    let s = c.check.ensures in
    let l = c.loop-len.invariant in
    (testing_stop l c.loop-len-test.true (sym (ap sound (at_hand at.In-Some)) ∙ sym s.0 ∙ c.if-not-check.true), s.1 ∙ (clean at.In-Some).zero ∙ l.kept)

pub loop-len-preserved : goal.loop-len-preserved
loop-len-preserved c =
    let at = goal.at.loop-len-preserved c in
    let s = c.check.ensures in
    let given = c.in-Some.ensures.cases in
    rw given.2 (testing_next c.loop-len.invariant c.loop-len-test.true given.0 (sym (ap sound (at_hand at.In-Some)) ∙ sym s.0 ∙ c.if-not-check.false) (s.1 ∙ (clean at.In-Some).zero))

pub returns : goal.returns
returns c = (c.is_empty.ensures ∙ testing_end c.loop-len.invariant c.loop-len-test.false, c.loop-len.invariant.kept)
