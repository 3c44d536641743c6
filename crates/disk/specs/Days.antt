-- A file from day to day, as it is seen from outside: each job with the text that came in, what was given and written for it, and the bytes that it left.
-- What is known of each serial is read off the lines of the text and the answer lines that were written; nothing inside the store is looked at.
use Rattle.std.specs.Prelude.{ℕ, ◌-◌, ◌≡◌, Bool, List, [], ◌∷◌, ◌++◌, length, take}
use Rattle.model.specs.Plain.{Book}
use Rattle.model.specs.Runs.{Call, Event, Tell, book_after}
use Rattle.model.specs.Text.{lines_of}
use Rattle.model.specs.Deeds.{calls_of}
use Rattle.model.specs.Heard.{seen_in, told_in}
use Rattle.reader.specs.Depot.{closing}
use Rattle.disk.specs.Desk.{desk_job, Serves}

-- a job: its text, its number, all that was written for it, and the bytes of the file that it left
pub record Day : Type 0 where
  pub text : List ℕ
  pub number : ℕ
  pub written : List ℕ
  pub file : List ℕ

-- `serve` met its contract on the bytes that were there, and what was written is what it put at the front of the output
pub record Served (file : List ℕ) (d : Day) : Type 0 where
  pub before : List ℕ
  pub len : ℕ
  pub save : Bool
  pub out : List ℕ
  pub serves : Serves (desk_job file d.text) before d.number len save d.file out
  pub written_is : d.written ≡ take len out

-- jobs one after another, each on the bytes that the one before left
abbrev pub AllServed : List ℕ → List Day → Type 0
AllServed file [] = Unit {0}
AllServed file (d ∷ ds) = Served file d × AllServed d.file ds

-- the bytes at the end
abbrev pub last_file : List ℕ → List Day → List ℕ
last_file file [] = file
last_file file (d ∷ ds) = last_file d.file ds

-- the answer lines: what is written before the closing line
abbrev pub answer_lines : Day → List (List ℕ)
answer_lines d = lines_of (take (length d.written - length (closing d.number)) d.written)

-- what is known outside: each line with its answer line; lines behind the last answer were not answered
abbrev pub seen_on : Day → List Event
seen_on d = seen_in (lines_of d.text) (answer_lines d)

abbrev pub seen_all : List Day → List Event
seen_all [] = []
seen_all (d ∷ ds) = seen_on d ++ seen_all ds

-- what demand 2 compares
abbrev pub told_on : Day → List Tell
told_on d = told_in (lines_of d.text) (answer_lines d)

abbrev pub told_all : List Day → List Tell
told_all [] = []
told_all (d ∷ ds) = told_on d ++ told_all ds

-- the same asked of a plain list: the calls of the lines that were answered
abbrev pub calls_on : Book → Day → List Call
calls_on b d = calls_of b.shape (take (length (answer_lines d)) (lines_of d.text))

abbrev pub calls_all : Book → List Day → List Call
calls_all b [] = []
calls_all b (d ∷ ds) = calls_on b d ++ calls_all (book_after b (calls_on b d)) ds
