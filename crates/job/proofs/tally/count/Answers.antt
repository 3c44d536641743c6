-- `job::tally::count` meets its contract: each field is the sum that `plus` ensures, and a test counts as the number that it converts to. Assumes
-- nothing.
use Rattle.std.proofs.Common.{◌≡◌, Bool, true, false, ltb, refl}
use mir.Val.{bool_byte}
use Rattle.model.specs.Job.{one}
use Rattle.job.specs.Counts.{counted_by}
use Rattle.job.proofs.tally.count.Goals as goal

one_is : (b : Bool) → bool_byte b ≡ one b
unfolding one
one_is true = refl
one_is false = refl

pub returns : goal.returns
unfolding counted_by
returns c =
    let k = c.kinds-entries.ensures in
    let t = c.args in
    rw (
      c.plus.ensures,
      c.plus-2.ensures,
      c.plus-3.ensures,
      c.plus-4.ensures,
      c.plus-5.ensures,
      c.plus-6.ensures,
      c.from.ensures,
      c.from-2.ensures,
      c.from-3.ensures,
      k.entries,
      k.withdrawals,
      k.filings,
      one_is (ltb t.before t.after),
      one_is (ltb t.after t.before),
    )
