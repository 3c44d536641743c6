-- The tally as the code holds it is the model's, field by field; and what an answered line adds, from what was done and its numbers alone.
use Rattle.std.specs.Prelude.{Bool, true, false, ℕ, ltb, Option, Some, None}
use Rattle.model.specs.Job.{plus, one}
use Rattle.model.specs.Job as Job
use Rattle.job.specs.declared.tally.Tally as Held
use Rattle.job.specs.declared.fields.Request.{Request}
use Rattle.job.specs.declared.fields.Request.TheVariants.{Enter, Withdraw, File, Show}

abbrev pub tally_of : Held.Tally → Job.Tally
tally_of t =
    record {
      entries = t.entries;
      withdrawals = t.withdrawals;
      filings = t.filings;
      splits = t.splits;
      contractions = t.contractions;
      comparisons = t.comparisons;
    }

-- what counts, once it is done
unfoldable pub entering : Option Request → Bool
entering None = false
entering (Some (Enter x)) = true
entering (Some (Withdraw x)) = false
entering (Some (File x f)) = false
entering (Some (Show x)) = false

unfoldable pub withdrawing : Option Request → Bool
withdrawing None = false
withdrawing (Some (Enter x)) = false
withdrawing (Some (Withdraw x)) = true
withdrawing (Some (File x f)) = false
withdrawing (Some (Show x)) = false

unfoldable pub filing : Option Request → Bool
filing None = false
filing (Some (Enter x)) = false
filing (Some (Withdraw x)) = false
filing (Some (File x f)) = true
filing (Some (Show x)) = false

-- what was done, if the line was not refused, the buckets before and after it, and its comparisons
unfoldable pub counted_by : Job.Tally → Option Request → ℕ → ℕ → ℕ → Job.Tally
counted_by t done before after comparisons =
    record {
      entries = plus t.entries (one (entering done));
      withdrawals = plus t.withdrawals (one (withdrawing done));
      filings = plus t.filings (one (filing done));
      splits = plus t.splits (one (ltb before after));
      contractions = plus t.contractions (one (ltb after before));
      comparisons = plus t.comparisons comparisons;
    }
