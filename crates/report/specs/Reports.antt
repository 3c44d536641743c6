-- What the report gives and leaves, held to the model: its contract.
use Rattle.std.specs.Prelude.{◌≡◌, List, ℕ}
use Rattle.model.specs.Report.{Reported}
use Rattle.store.specs.Leaves.{Tells}
use Rattle.store.specs.declared.answer.Wrote.{Wrote}

-- number and bytes written, and all that output and scratch hold afterwards
pub record Reports (o : Reported) (r : Wrote) (out scratch : List ℕ) : Type 0 where
  pub answer : Tells o.number o.count r
  pub out_is : out ≡ o.out
  pub scratch_is : scratch ≡ o.scratch
