-- Sequences of calls of the program: each call with what it was given, what it gave and what it left. A sequence meets the contracts where
-- each call does. What is told of each serial is read off the calls and the numbers given, and off nothing inside the store.
use Rattle.std.specs.Prelude.{◌≡◌, cond, List, [], ◌∷◌, ◌++◌, map, ℕ, eqb}
use Rattle.model.specs.Calls.{Terms, open_call}
use Rattle.model.specs.Runs.{Call, Call.opening, Call.acting, outcome, Event, Event.opened, Event.answered, Tell}
use Rattle.store.specs.Leaves.{Opens, Leaves}
use Rattle.store.specs.declared.answer.Answer as given

-- all that a call gives and leaves; Open gives a number and leaves words, and has no more to say
pub record Given : Type 0 where
  pub answer : given.Answer
  pub words : List ℕ
  pub room : List ℕ
  pub scratch : List ℕ

-- a call, and what the program did
pub record Made : Type 0 where
  pub call : Call
  pub gives : Given

-- the contract of the entry point that was called on the words w
abbrev pub Meets : List ℕ → Call → Given → Type 0
Meets w (opening t) g = Opens (open_call w t) g.answer.number g.words × (g.answer.faults ≡ 0) × (g.room ≡ [])
Meets w (acting scratch act) g = Leaves (outcome w scratch act) g.answer g.words g.room g.scratch

-- each call was made on the words that the one before it left
abbrev pub AllMeet : List ℕ → List Made → Type 0
AllMeet w [] = Unit {0}
AllMeet w (m ∷ ms) = Meets w m.call m.gives × AllMeet m.gives.words ms

-- the words at the end
abbrev pub end_words : List ℕ → List Made → List ℕ
end_words w [] = w
end_words w (m ∷ ms) = end_words m.gives.words ms

-- what is known outside: the store opened anew, and each act with the number and the faults that the program gave
abbrev pub seen : Call → Given → List Event
seen (opening t) g = cond (eqb g.answer.number 0) (opened ∷ []) []
seen (acting scratch act) g = answered act g.answer.number g.answer.faults ∷ []

abbrev pub seen_of : List Made → List Event
seen_of [] = []
seen_of (m ∷ ms) = seen m.call m.gives ++ seen_of ms

-- the terms of the last Open that was accepted, where the store was opened with the terms t before
abbrev pub terms_by : Terms → Call → Given → Terms
terms_by t (opening u) g = cond (eqb g.answer.number 0) u t
terms_by t (acting scratch act) g = t

abbrev pub last_asked : Terms → List Made → Terms
last_asked t [] = t
last_asked t (m ∷ ms) = last_asked (terms_by t m.call m.gives) ms

-- what demand 2 compares
abbrev pub told_of : List Made → List Tell
told_of = map (λ m. record { number = m.gives.answer.number; faults = m.gives.answer.faults; room = m.gives.room })
