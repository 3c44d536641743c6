-- Sequences of calls and jobs mixed. A job is the calls that its answered lines make, one behind the other, and what it writes is their
-- answers as text: so what holds of every sequence of calls holds of every sequence of calls and jobs.
use Rattle.std.specs.Prelude.{ℕ, List, [], ◌∷◌, ◌++◌, map, length, take, replicate}
use Rattle.model.specs.Shape.{Shape, need}
use Rattle.model.specs.Layout.{shape_of, decode}
use Rattle.model.specs.Numbers.{bad_line}
use Rattle.model.specs.Calls.{Step, refused, stays}
use Rattle.model.specs.Runs.{Act, Call, Call.acting, outcome, words_after, run}
use Rattle.model.specs.Text.{lines_of}
use Rattle.model.specs.Job.{Line, padded, line_of, enough, answer_text, Tally, job}

-- what a line asks of the store; a line of a bad form asks nothing
abbrev pub acts_of : Line → List Act
acts_of Line.bad = []
acts_of (Line.enter f) = Act.enter (padded f) (length f) ∷ []
acts_of (Line.show f) = Act.show (padded f) (length f) enough ∷ []
acts_of (Line.withdraw f) = Act.withdraw (padded f) (length f) enough ∷ []
acts_of (Line.file f day code) = Act.file (padded f) (length f) day code ∷ []

-- scratch as long as a call on a store of this shape asks for
unfoldable pub tidy : Shape → List ℕ
tidy sh = replicate (need sh) 0

-- the calls of a line, given as its bytes, and of several lines, on a store of this shape
abbrev pub calls_by : Shape → List ℕ → List Call
calls_by sh x = map (acting (tidy sh)) (acts_of (line_of x))

abbrev pub calls_of : Shape → List (List ℕ) → List Call
calls_of sh [] = []
calls_of sh (x ∷ xs) = calls_by sh x ++ calls_of sh xs

-- what a line gives on the words w: 12 if its form is bad, else what its call gives
abbrev pub step_by : List ℕ → List Act → Step
step_by w [] = stays (refused bad_line) (decode w) []
step_by w (a ∷ more) = let o = outcome w (tidy (shape_of w)) a in record { answer = o.answer; store = decode o.words; room = o.room }

-- and as text
abbrev pub said_by : List ℕ → List ℕ → List ℕ
said_by w x = answer_text (line_of x) (step_by w (acts_of (line_of x)))

abbrev pub said : List ℕ → List (List ℕ) → List ℕ
said w [] = []
said w (x ∷ xs) = said_by w x ++ said (run w (calls_by (shape_of w) x)) xs

-- what is done to a store from outside: a call, or a job with its scratch, text, output and tally
pub data Deed : Type 0 where
  calling : Call → Deed
  working : List ℕ → List ℕ → List ℕ → Tally → Deed

-- the words after it, and after each of a list
abbrev pub words_by : List ℕ → Deed → List ℕ
words_by w (calling c) = words_after w c
words_by w (working scratch text out t) = (job w scratch text out t).words

abbrev pub words_by_all : List ℕ → List Deed → List ℕ
words_by_all w [] = w
words_by_all w (d ∷ ds) = words_by_all (words_by w d) ds

-- the lines that a job answered
abbrev pub answered_lines : List ℕ → List ℕ → List ℕ → List ℕ → Tally → List (List ℕ)
answered_lines w scratch text out t = take (job w scratch text out t).lines (lines_of text)

-- the calls that it comes to
abbrev pub calls_in : List ℕ → Deed → List Call
calls_in w (calling c) = c ∷ []
calls_in w (working scratch text out t) = calls_of (shape_of w) (answered_lines w scratch text out t)

abbrev pub calls_in_all : List ℕ → List Deed → List Call
calls_in_all w [] = []
calls_in_all w (d ∷ ds) = calls_in w d ++ calls_in_all (words_by w d) ds
