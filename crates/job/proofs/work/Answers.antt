-- `job::work` meets its contract: its three tests are the model's, in the model's order, and past them the lines end as the model's lines end.
use mathlib.Core.Path.{sym, ap, ◌∙◌}
use Prim.Native.Nat.{ℕ, ◌≤◌, ◌<◌}
use native.Mathlib.Omega.{arith}
use lib.ListN.{length}
use Rattle.model.specs.Shape.{need}
use Rattle.model.specs.Layout.{shape_of}
use Rattle.model.specs.Calls.{cleaned}
use Rattle.model.specs.Job.{most_text}
use Rattle.job.proofs.JobCases.{job_short, job_long, job_unsound, job_lines}
use Rattle.job.proofs.work.Goals.{Else-scratch-n, Else-text-gt-MOST_TEXT, Then-scratch-n}
use Rattle.job.proofs.work.Goals as goal

scant : (c : Then-scratch-n) → length c.args.scratch.now < need (shape_of c.args.words.now)
scant c = omega (arith, c.if-scratch-n.true, c.need-n.ensures)

-- enough scratch, and past the second test a text that is not too long
enough : (c : Else-scratch-n) → need (shape_of c.args.words.now) ≤ length c.args.scratch.now
enough c = omega (arith, c.if-scratch-n.false, c.need-n.ensures)

short : (c : Else-text-gt-MOST_TEXT) → length c.args.text.now ≤ most_text
unfolding most_text
short c = c.if-text-gt-MOST_TEXT.false

pub returns-then-scratch-n : goal.returns-then-scratch-n
returns-then-scratch-n c = job_short _ _ _ _ _ (scant (goal.at.returns-then-scratch-n c).Then-scratch-n) c.refuse.ensures

pub returns-then-text-gt-MOST_TEXT : goal.returns-then-text-gt-MOST_TEXT
unfolding most_text
returns-then-text-gt-MOST_TEXT c =
    job_long _ _ _ _ _ (enough (goal.at.returns-then-text-gt-MOST_TEXT c).Else-scratch-n) (c.clear.ensures ∙ ap (λ (n : ℕ). cleaned n c.args.scratch.now) c.need-n.ensures) c.if-text-gt-MOST_TEXT.true c.refuse-then-text-gt-MOST_TEXT.ensures

pub returns-then-not-check : goal.returns-then-not-check
returns-then-not-check c =
    job_unsound _ _ _ _ _ (enough (goal.at.returns-then-not-check c).Else-scratch-n) c.check.ensures.1 (short (goal.at.returns-then-not-check c).Else-text-gt-MOST_TEXT) (sym c.check.ensures.0 ∙ c.if-not-check.true)
    c.refuse-then-not-check.ensures

pub run_with_room-requires : goal.run_with_room-requires
run_with_room-requires c =
    (sym c.check.ensures.0 ∙ c.if-not-check.false, short (goal.at.run_with_room-requires c).Else-text-gt-MOST_TEXT)

pub returns : goal.returns
returns c =
    job_lines _ _ _ _ _ (enough (goal.at.returns c).Else-scratch-n) c.check.ensures.1 (short (goal.at.returns c).Else-text-gt-MOST_TEXT) (sym c.check.ensures.0 ∙ c.if-not-check.false) c.run_with_room.ensures

pub clear-requires : goal.clear-requires
clear-requires c = c.if-scratch-n.false

pub check-requires : goal.check-requires
check-requires c = enough (goal.at.check-requires c).Else-scratch-n
