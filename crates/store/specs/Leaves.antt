-- What a call of the program gives and leaves, held to what the model says: the contracts of the calls.
use Rattle.std.specs.Prelude.{◌≡◌, List, ℕ, Result, Ok, Err}
use Rattle.model.specs.Layout.{encode}
use Rattle.model.specs.Calls.{Answer, Outcome, Step, Opened, admission, swept}
use Rattle.store.specs.Numbers.{number_of}
use Rattle.store.specs.declared.numbers.Refusal.{Refusal}
use Rattle.store.specs.declared.answer.Answer as given
use Rattle.store.specs.declared.answer.Wrote as wrote

-- number, comparisons, cards scanned and faults are those of an answer
pub record Gives (a : Answer) (r : given.Answer) : Type 0 where
  pub number_is : r.number ≡ a.number
  pub comparisons_are : r.comparisons ≡ a.comparisons
  pub scanned_is : r.scanned ≡ a.scanned
  pub faults_are : r.faults ≡ a.faults

-- the number of an operation, and how many words or bytes it wrote
pub record Tells (number count : ℕ) (r : wrote.Wrote) : Type 0 where
  pub number_is : r.number ≡ number
  pub count_is : r.count ≡ count

-- the words or bytes that an operation wrote, or the number of its refusal
abbrev pub wrote_of : Result ℕ Refusal → wrote.Wrote
wrote_of (Ok count) = record { number = 0; count = count }
wrote_of (Err refusal) = record { number = number_of refusal; count = 0 }

-- the answer of a call that is refused before it looks at the serial
abbrev pub refused_answer : ℕ → given.Answer
refused_answer k = record { number = k; comparisons = 0; scanned = 0; faults = 0 }

-- what every call asks first: its number, and the scratch afterwards
pub record Admits (w scratch : List ℕ) (number : ℕ) (left : List ℕ) : Type 0 where
  pub number_is : number ≡ admission w scratch
  pub scratch_is : left ≡ swept w scratch

-- an entry point: the answer, and all that store, room and scratch hold afterwards
pub record Leaves (o : Outcome) (r : given.Answer) (words room scratch : List ℕ) : Type 0 where
  pub answer : Gives o.answer r
  pub words_are : words ≡ o.words
  pub room_is : room ≡ o.room
  pub scratch_is : scratch ≡ o.scratch

-- the same call on a store known to be sound
pub record Does (t : Step) (r : given.Answer) (words room : List ℕ) : Type 0 where
  pub answer : Gives t.answer r
  pub words_are : words ≡ encode t.store
  pub room_is : room ≡ t.room

-- Open: the number, and the words afterwards
pub record Opens (o : Opened) (number : ℕ) (words : List ℕ) : Type 0 where
  pub number_is : number ≡ o.number
  pub words_are : words ≡ o.words
