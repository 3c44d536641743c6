-- A job on the words of a store, all that is written for it: its answers, and a closing line where the job says so. And what the program `depot` writes for
-- what it reads: that of one job on a fresh store.
use Rattle.std.specs.Prelude.{◌≡◌, cond, List, [], ◌∷◌, ◌++◌, ℕ, ◌+◌, eqb, length, take, drop, replicate}
use Rattle.model.specs.Shape.{Shape, need}
use Rattle.model.specs.Model.{fresh}
use Rattle.model.specs.Layout.{shape_of, encode}
use Rattle.model.specs.Calls.{Terms, shape_for}
use Rattle.model.specs.Text.{lf, space, digit_zero, decimal}
use Rattle.model.specs.Job.{Tally, Finished, job}
use Rattle.job.specs.declared.Done.{Done}

-- C and F of its store
abbrev pub depot_cards : ℕ
depot_cards = 256

abbrev pub depot_faults : ℕ
depot_faults = 512

-- its load bounds
abbrev pub depot_upper : ℕ
depot_upper = 4

abbrev pub depot_lower : ℕ
depot_lower = 2

-- what it opens its store with, and the words of that store, fresh
abbrev pub depot_terms : Terms
depot_terms = record { cards = depot_cards; faults = depot_faults; upper = depot_upper; lower = depot_lower }

abbrev pub depot_shape : Shape
depot_shape = shape_for depot_terms

unfoldable pub opened : List ℕ
opened = encode (fresh depot_shape)

-- the bytes of output
unfoldable pub output_size : ℕ
output_size = 16384

-- the longest closing line, and the output with room for it behind
abbrev pub closing_size : ℕ
closing_size = 9

abbrev pub whole_size : ℕ
whole_size = output_size + closing_size

unfoldable pub blank : ℕ → List ℕ
blank n = replicate n 0

unfoldable pub nothing : Tally
nothing = record { entries = 0; withdrawals = 0; filings = 0; splits = 0; contractions = 0; comparisons = 0 }

-- the number, then ` 0 0 0` and LF; nothing where all lines were answered
abbrev pub closing_line : ℕ → List ℕ
closing_line n = decimal n ++ (space ∷ digit_zero ∷ space ∷ digit_zero ∷ space ∷ digit_zero ∷ lf ∷ [])

unfoldable pub closing : ℕ → List ℕ
closing n = cond (eqb n 0) [] (closing_line n)

-- the bytes written by a job, and the closing line behind them
unfoldable pub whole_text : Finished → List ℕ
whole_text f = take f.bytes f.out ++ closing f.number

-- a job on these words, with as much scratch as their shape needs, an output of zeros, and a tally of nothing
abbrev pub job_on : List ℕ → List ℕ → Finished
job_on w input = job w (blank (need (shape_of w))) input (blank output_size) nothing

unfoldable pub depot_text : List ℕ → List ℕ
depot_text input = whole_text (job_on opened input)

-- how a job ended, and the words and the output that it left
pub record Ended (f : Finished) (done : Done) (words out : List ℕ) : Type 0 where
  pub number_is : done.number ≡ f.number
  pub bytes_are : done.bytes ≡ f.bytes
  pub words_are : words ≡ f.words
  pub out_is : out ≡ f.out

-- a text stands at the front of what was there before, the rest as it was; r is its length
pub record Writes (text before : List ℕ) (r : ℕ) (out : List ℕ) : Type 0 where
  pub out_is : out ≡ text ++ drop (length text) before
  pub len_is : r ≡ length text

-- a job's number, the words that it left, and all that is written for it
pub record Answers (f : Finished) (before : List ℕ) (number len : ℕ) (words out : List ℕ) : Type 0 where
  pub number_is : number ≡ f.number
  pub words_are : words ≡ f.words
  pub text_is : Writes (whole_text f) before len out
