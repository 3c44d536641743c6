-- What the code adds to the tally is what the model counts: for a line that is done by what it told, and nothing for one that is refused.
-- Assumes nothing.
use Rattle.std.proofs.Common.{arith, ◌≡◌, Some, None}
use borrow.Author.Tests.{ne_eqb, le-ltb}
use Rattle.model.specs.Model.{Store, size}
use Rattle.model.specs.Calls.{Step}
use Rattle.model.specs.Job.{Line, bad, enter, show, withdraw, file, Tally, counted}
use Rattle.model.specs.Job as Job
use Rattle.job.specs.declared.fields.Request.{Request}
use Rattle.job.specs.Told.{Told, request_in}
use Rattle.job.specs.Counts.{entering, withdrawing, filing, counted_by}

module _ (t : Tally) (s : Store) (r : Step) where
  counted_line : (l : Line) → r.answer.number ≡ 0 → counted t s l r ≡ counted_by t (request_in l) (size s) (size r.store) r.answer.comparisons
  unfolding counted counted_by request_in Job.entering Job.withdrawing Job.filing entering withdrawing filing
  counted_line bad z = rw z
  counted_line (enter f) z = rw z
  counted_line (show f) z = rw z
  counted_line (withdraw f) z = rw z
  counted_line (file f day code) z = rw z

  pub counted_done : (l : Line) (q : Request) → Told l (Some q) → r.answer.number ≡ 0 → counted t s l r ≡ counted_by t (Some q) (size s) (size r.store) r.answer.comparisons
  counted_done l q e z = rw e (counted_line l z)

  pub counted_refused : (l : Line) → (r.answer.number ≡ 0 → ⊥) → size r.store ≡ size s → counted t s l r ≡ counted_by t None 0 0 r.answer.comparisons
  unfolding counted counted_by entering withdrawing filing
  counted_refused l n e = rw (ne_eqb r.answer.number 0 n, e, le-ltb (size s) (size s) (omega arith))
