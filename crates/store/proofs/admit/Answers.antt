-- `admit` meets its contract: the scratch is measured, then the words are checked, and each answer is that of `admission`.
use mathlib.Core.Path.{sym, ◌∙◌}
use Prim.Native.Nat.{◌≤◌, ◌<◌}
use native.Mathlib.Omega.{arith}
use lib.ListN.{length}
use Rattle.model.specs.Shape.{need}
use Rattle.model.specs.Layout.{shape_of}
use Rattle.store.proofs.CallLaws.{admit_short, admit_unsound, admit_sound}
use Rattle.store.proofs.admit.Goals.{Else-scratch-need, Then-scratch-need}
use Rattle.store.proofs.admit.Goals as goal

short : (c : Then-scratch-need) → length c.args.scratch.now < need (shape_of c.args.words.now)
short c = omega (arith, c.if-scratch-need.true, c.need.ensures)

enough : (c : Else-scratch-need) → need (shape_of c.args.words.now) ≤ length c.args.scratch.now
enough c = omega (arith, c.if-scratch-need.false, c.need.ensures)

pub returns-then-scratch-need : goal.returns-then-scratch-need
returns-then-scratch-need c = admit_short _ _ (short c)

pub returns-then-not-check : goal.returns-then-not-check
returns-then-not-check c =
    admit_unsound _ _ (enough (goal.at.returns-then-not-check c).Else-scratch-need) c.check.ensures.1 (sym c.check.ensures.0 ∙ c.if-not-check.true)

pub returns : goal.returns
returns c =
    admit_sound _ _ (enough (goal.at.returns c).Else-scratch-need) c.check.ensures.1 (sym c.check.ensures.0 ∙ c.if-not-check.false)
