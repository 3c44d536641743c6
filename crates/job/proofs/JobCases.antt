-- The job by its tests: 11, 13 and 3 turn it away (`job_short`, `job_long`, `job_unsound`), else it ends as its lines end (`job_lines`).
use Prim.Native.Nat.{ℕ, ◌≤◌, ◌<◌}
use mathlib.Core.Path.{◌≡◌, refl}
use mathlib.Core.Bool.{true, false}
use mathlib.Core.List.{List}
use lib.ListN.{length}
use borrow.Author.Tests.{lt-ltb, le-ltb}
use Rattle.model.specs.Shape.{need}
use Rattle.model.specs.Layout.{shape_of, sound}
use Rattle.model.specs.Calls.{cleaned}
use Rattle.model.specs.Job.{most_text, job}
use Rattle.job.specs.Counts.{tally_of}
use Rattle.job.specs.Runs.{lines_on, Ends, refused_ran, Did}
use Rattle.job.specs.declared.Ran.{Ran}
use Rattle.job.specs.declared.tally.Tally.{Tally}

module _ (w scratch text out : List ℕ) (t : Tally) where
  module _ {r : Ran} where
    pub job_short : length scratch < need (shape_of w) → r ≡ refused_ran 11 t → Did w scratch text out t r.done r.tally w scratch out
    unfolding job
    job_short h e =
        rw (e, lt-ltb (length scratch) (need (shape_of w)) h)
        (record { number_is = refl; lines_are = refl; bytes_are = refl; tally_is = refl; words_are = refl; scratch_is = refl; out_is = refl })

    module _ {left : List ℕ} (h : need (shape_of w) ≤ length scratch) (c : left ≡ cleaned (need (shape_of w)) scratch) where
      pub job_long : most_text < length text → r ≡ refused_ran 13 t → Did w scratch text out t r.done r.tally w left out
      unfolding job
      job_long l e =
          rw (e, c, le-ltb (length scratch) (need (shape_of w)) h, lt-ltb most_text (length text) l)
          (record { number_is = refl; lines_are = refl; bytes_are = refl; tally_is = refl; words_are = refl; scratch_is = refl; out_is = refl })

      pub job_unsound : length text ≤ most_text → sound w ≡ false → r ≡ refused_ran 3 t → Did w scratch text out t r.done r.tally w left out
      unfolding job
      job_unsound l s e =
          rw (e, c, le-ltb (length scratch) (need (shape_of w)) h, le-ltb most_text (length text) l, s)
          (record { number_is = refl; lines_are = refl; bytes_are = refl; tally_is = refl; words_are = refl; scratch_is = refl; out_is = refl })

      pub job_lines : length text ≤ most_text → sound w ≡ true → {words out' : List ℕ} → Ends (lines_on w text out (tally_of t)) out r.done r.tally words out'
          → Did w scratch text out t r.done r.tally words left out'
      unfolding job lines_on
      job_lines l s d =
          rw (le-ltb (length scratch) (need (shape_of w)) h, le-ltb most_text (length text) l, s)
          (record {
            number_is = d.number_is;
            lines_are = d.lines_are;
            bytes_are = d.bytes_are;
            tally_is = d.tally_is;
            words_are = d.words_are;
            scratch_is = c;
            out_is = d.out_is;
          })
