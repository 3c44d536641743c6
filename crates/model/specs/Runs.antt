-- Sequences of calls on words, and what the calls and their answers alone tell of each serial: demands 2 and 3 speak of these.
use Rattle.std.specs.Prelude.{ℕ, ◌+◌, List, [], ◌∷◌, ◌++◌, cond, ltb, eqb, length, take}
use Rattle.model.specs.Lists.{same}
use Rattle.model.specs.Shape.{need}
use Rattle.model.specs.Model.{Store}
use Rattle.model.specs.Calls.{Outcome, Step, Terms, enter_step, file_step, show_step, withdraw_step, call, open_call}
use Rattle.model.specs.Plain.{Slip, Book, Reply, says, book_open, book_enter, book_file, book_show, book_withdraw}

-- what is asked of a store: sixteen bytes and a length, then day and code, or the room for pairs
pub data Act : Type 0 where
  enter : List ℕ → ℕ → Act
  file : List ℕ → ℕ → ℕ → ℕ → Act
  show : List ℕ → ℕ → List ℕ → Act
  withdraw : List ℕ → ℕ → List ℕ → Act

abbrev pub room_of : Act → List ℕ
room_of (enter bytes n) = []
room_of (file bytes n day code) = []
room_of (show bytes n room) = room
room_of (withdraw bytes n room) = room

-- on the store as lists, and on the plain list
abbrev pub perform : Store → Act → Step
perform s (enter bytes n) = enter_step s bytes n
perform s (file bytes n day code) = file_step s bytes n day code
perform s (show bytes n room) = show_step s bytes n room
perform s (withdraw bytes n room) = withdraw_step s bytes n room

abbrev pub consult : Book → Act → Reply
consult b (enter bytes n) = book_enter b bytes n
consult b (file bytes n day code) = book_file b bytes n day code
consult b (show bytes n room) = book_show b bytes n room
consult b (withdraw bytes n room) = book_withdraw b bytes n room

-- a call on a store: Open with its terms, or an act with the scratch it is lent
pub data Call : Type 0 where
  opening : Terms → Call
  acting : List ℕ → Act → Call

abbrev pub outcome : List ℕ → List ℕ → Act → Outcome
outcome w scratch act = call (λ s. perform s act) w scratch (room_of act)

-- the words after a call, and after each call of a list
abbrev pub words_after : List ℕ → Call → List ℕ
words_after w (opening t) = (open_call w t).words
words_after w (acting scratch act) = (outcome w scratch act).words

abbrev pub run : List ℕ → List Call → List ℕ
run w [] = w
run w (c ∷ cs) = run (words_after w c) cs

-- what is known outside the store: that it was opened anew, and each act with its number and its faults
pub data Event : Type 0 where
  opened : Event
  answered : Act → ℕ → ℕ → Event

abbrev pub events_of : List ℕ → Call → List Event
events_of w (opening t) = cond (eqb (open_call w t).number 0) (opened ∷ []) []
events_of w (acting scratch act) = answered act (outcome w scratch act).answer.number (outcome w scratch act).answer.faults ∷ []

abbrev pub events : List ℕ → List Call → List Event
events w [] = []
events w (c ∷ cs) = events_of w c ++ events (words_after w c) cs

-- the history of a serial after one more act that was done
abbrev pub told : List ℕ → Act → List Slip → List Slip
told x (enter bytes n) h = cond (same x (take n bytes)) [] h
told x (file bytes n day code) h = cond (same x (take n bytes)) (h ++ (record { day = day; code = code } ∷ [])) h
told x (show bytes n room) h = h
told x (withdraw bytes n room) h = cond (same x (take n bytes)) [] h

-- the faults accepted for a serial since its card was last entered, in order
abbrev pub history : List ℕ → List Event → List Slip → List Slip
history x [] h = h
history x (opened ∷ es) h = history x es []
history x (answered act k f ∷ es) h = history x es (cond (eqb k 0) (told x act h) h)

-- the faults that a done act took in, and those that went with its card
abbrev pub taken : Act → ℕ → ℕ
taken (enter bytes n) f = 0
taken (file bytes n day code) f = 1
taken (show bytes n room) f = 0
taken (withdraw bytes n room) f = 0

abbrev pub gone : Act → ℕ → ℕ
gone (enter bytes n) f = 0
gone (file bytes n day code) f = 0
gone (show bytes n room) f = 0
gone (withdraw bytes n room) f = f

-- such a number added up since the store was last opened
abbrev pub since : (Act → ℕ → ℕ) → List Event → ℕ → ℕ
since count [] n = n
since count (opened ∷ es) n = since count es 0
since count (answered act k f ∷ es) n = since count es (n + cond (eqb k 0) (count act f) 0)

-- what demand 2 compares: number, faults, and the room for pairs
pub record Tell : Type 0 where
  pub number : ℕ
  pub faults : ℕ
  pub room : List ℕ

abbrev pub tell_of : List ℕ → Call → Tell
tell_of w (opening t) = record { number = (open_call w t).number; faults = 0; room = [] }
tell_of w (acting scratch act) =
    record { number = (outcome w scratch act).answer.number; faults = (outcome w scratch act).answer.faults; room = (outcome w scratch act).room }

abbrev pub tells : List ℕ → List Call → List Tell
tells w [] = []
tells w (c ∷ cs) = tell_of w c ∷ tells (words_after w c) cs

-- the same asked of the plain list, which knows no scratch but refuses by 11 as the rules say
abbrev pub book_call : Book → Call → Reply
book_call b (opening t) = book_open b t
book_call b (acting scratch act) = cond (ltb (length scratch) (need b.shape)) (says 11 0 b (room_of act)) (consult b act)

abbrev pub book_after : Book → List Call → Book
book_after b [] = b
book_after b (c ∷ cs) = book_after (book_call b c).book cs

abbrev pub book_tells : Book → List Call → List Tell
book_tells b [] = []
book_tells b (c ∷ cs) =
    let r = book_call b c in
    record { number = r.number; faults = r.faults; room = r.room } ∷ book_tells r.book cs
