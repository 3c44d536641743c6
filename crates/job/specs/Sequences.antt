-- Sequences of calls and jobs of the program: each with what it was given, what it gave and what it left. A sequence meets the contracts
-- where each of them does, on the words that the one before it left. What is told of each serial is read off the calls and the numbers given, and off
-- the lines of each job and the answer lines that stand in its output; nothing inside the store is looked at.
use Rattle.std.specs.Prelude.{List, [], ◌∷◌, ◌++◌, ℕ, take}
use Rattle.model.specs.Calls.{Terms}
use Rattle.model.specs.Plain.{Book}
use Rattle.model.specs.Runs.{Call, Event, Tell, book_after}
use Rattle.model.specs.Text.{lines_of}
use Rattle.model.specs.Deeds.{calls_of, Deed, Deed.calling, Deed.working}
use Rattle.model.specs.Heard.{seen_in, told_in}
use Rattle.store.specs.Sequences as Calls
use Rattle.job.specs.Counts.{tally_of}
use Rattle.job.specs.Runs.{Did}
use Rattle.job.specs.declared.Done.{Done}
use Rattle.job.specs.declared.tally.Tally.{Tally}

-- all that a job gives and leaves
pub record Left : Type 0 where
  pub done : Done
  pub tally : Tally
  pub words : List ℕ
  pub scratch : List ℕ
  pub out : List ℕ

-- the contract of `work` and of `run` on the words w
abbrev pub Works : List ℕ → List ℕ → List ℕ → List ℕ → Tally → Left → Type 0
Works w scratch text out t l = Did w scratch text out t l.done l.tally l.words l.scratch l.out

-- a call that was made, or a job that was run with its scratch, text, output and tally
pub data Made : Type 0 where
  called : Calls.Made → Made
  worked : List ℕ → List ℕ → List ℕ → Tally → Left → Made

-- what was asked, and the words left
abbrev pub asked_in : Made → Deed
asked_in (called m) = calling m.call
asked_in (worked scratch text out t l) = working scratch text out (tally_of t)

abbrev pub left_by : Made → List ℕ
left_by (called m) = m.gives.words
left_by (worked scratch text out t l) = l.words

-- each met its contract
abbrev pub Meets : List ℕ → Made → Type 0
Meets w (called m) = Calls.Meets w m.call m.gives
Meets w (worked scratch text out t l) = Works w scratch text out t l

abbrev pub AllMeet : List ℕ → List Made → Type 0
AllMeet w [] = Unit {0}
AllMeet w (m ∷ ms) = Meets w m × AllMeet (left_by m) ms

-- the words at the end
abbrev pub end_words : List ℕ → List Made → List ℕ
end_words w [] = w
end_words w (m ∷ ms) = end_words (left_by m) ms

-- the lines that a job answered, and the answer lines in the output that it left
abbrev pub lines_done : List ℕ → Left → List (List ℕ)
lines_done text l = take l.done.lines (lines_of text)

abbrev pub lines_written : Left → List (List ℕ)
lines_written l = lines_of (take l.done.bytes l.out)

-- what is known outside: the store opened anew, and each act with the number and the faults that the program gave or wrote
abbrev pub seen : Made → List Event
seen (called m) = Calls.seen m.call m.gives
seen (worked scratch text out t l) = seen_in (lines_done text l) (lines_written l)

abbrev pub seen_of : List Made → List Event
seen_of [] = []
seen_of (m ∷ ms) = seen m ++ seen_of ms

-- the terms of the last Open that was accepted, where the store was opened with the terms t before; no job opens a store
abbrev pub terms_by : Terms → Made → Terms
terms_by t (called m) = Calls.terms_by t m.call m.gives
terms_by t (worked scratch text out tally l) = t

abbrev pub last_asked : Terms → List Made → Terms
last_asked t [] = t
last_asked t (m ∷ ms) = last_asked (terms_by t m) ms

-- what demand 2 compares
abbrev pub told : Made → List Tell
told (called m) = Calls.told_of (m ∷ [])
told (worked scratch text out t l) = told_in (lines_done text l) (lines_written l)

abbrev pub told_of : List Made → List Tell
told_of [] = []
told_of (m ∷ ms) = told m ++ told_of ms

-- the same asked of a plain list: the calls, and for a job those of its answered lines, with scratch as long as the list's own shape needs
abbrev pub calls_to : Book → Made → List Call
calls_to b (called m) = m.call ∷ []
calls_to b (worked scratch text out t l) = calls_of b.shape (lines_done text l)

abbrev pub calls_to_all : Book → List Made → List Call
calls_to_all b [] = []
calls_to_all b (m ∷ ms) = calls_to b m ++ calls_to_all (book_after b (calls_to b m)) ms
