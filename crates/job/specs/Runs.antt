-- What the job answers and leaves, held to the model: the contract of `work` and of `run`.
use Rattle.std.specs.Prelude.{◌≡◌, List, ◌++◌, ℕ, length, drop}
use Rattle.model.specs.Layout.{encode, decode}
use Rattle.model.specs.Text.{lines_of}
use Rattle.model.specs.Job.{Run, run_lines, started, Finished, job}
use Rattle.model.specs.Job as Job
use Rattle.job.specs.Counts.{tally_of}
use Rattle.job.specs.declared.Done.{Done}
use Rattle.job.specs.declared.Ran.{Ran}
use Rattle.job.specs.declared.tally.Tally as Held

-- number, lines and bytes, and all that tally, store, scratch and output hold afterwards
pub record Leaves (f : Finished) (done : Done) (t : Held.Tally) (words scratch out : List ℕ) : Type 0 where
  pub number_is : done.number ≡ f.number
  pub lines_are : done.lines ≡ f.lines
  pub bytes_are : done.bytes ≡ f.bytes
  pub tally_is : tally_of t ≡ f.tally
  pub words_are : words ≡ f.words
  pub scratch_is : scratch ≡ f.scratch
  pub out_is : out ≡ f.out

-- the lines of a text on the words of a sound store
unfoldable pub lines_on : List ℕ → List ℕ → List ℕ → Job.Tally → Run
lines_on words text out t = run_lines (lines_of text) (length out) (started (decode words) t)

-- how they end, and what they leave in tally, store and output
pub record Ends (r : Run) (out : List ℕ) (done : Done) (t : Held.Tally) (words out' : List ℕ) : Type 0 where
  pub number_is : done.number ≡ r.number
  pub lines_are : done.lines ≡ r.lines
  pub bytes_are : done.bytes ≡ length r.text
  pub tally_is : tally_of t ≡ r.tally
  pub words_are : words ≡ encode r.store
  pub out_is : out' ≡ r.text ++ drop (length r.text) out

-- refused before the first line
abbrev pub refused_ran : ℕ → Held.Tally → Ran
refused_ran n t = record { done = record { number = n; lines = 0; bytes = 0 }; tally = t }

-- the job of this text on what is lent, and what it gives and leaves
abbrev pub Did : List ℕ → List ℕ → List ℕ → List ℕ → Held.Tally → Done → Held.Tally → List ℕ → List ℕ → List ℕ → Type 0
Did words scratch text out t done t' words' scratch' out' = Leaves (job words scratch text out (tally_of t)) done t' words' scratch' out'
