-- What the answer lines of a job tell whoever reads them: their bytes are looked at, and what was asked, and nothing inside a store.
use Rattle.std.specs.Prelude.{ℕ, List, [], ◌∷◌, ◌++◌, map, length, drop, get_or}
use Rattle.model.specs.Runs.{Act, room_of, Event, Event.answered, Tell}
use Rattle.model.specs.Text.{space, fields, value_from}
use Rattle.model.specs.Job.{colon, line_of}
use Rattle.model.specs.Deeds.{acts_of}

-- field k as a number
abbrev pub number_at : ℕ → List (List ℕ) → ℕ
number_at k fs = value_from 0 (get_or fs k [])

-- an answer line without its LF: its number, its faults, and behind them day and code of each pair
unfoldable pub number_in : List ℕ → ℕ
number_in y = number_at 0 (fields space y)

unfoldable pub faults_in : List ℕ → ℕ
faults_in y = number_at 3 (fields space y)

abbrev pub pairs_by : List (List ℕ) → List ℕ
pairs_by [] = []
pairs_by (f ∷ fs) = number_at 0 (fields colon f) ∷ number_at 1 (fields colon f) ∷ pairs_by fs

unfoldable pub pairs_in : List ℕ → List ℕ
pairs_in y = pairs_by (drop 4 (fields space y))

-- what it tells of an act: the pairs stand at the front of the room that was asked with
abbrev pub heard : Act → List ℕ → Tell
heard a y = record { number = number_in y; faults = faults_in y; room = pairs_in y ++ drop (length (pairs_in y)) (room_of a) }

-- lines, and behind them their answer lines: each act that was asked for, with what was told of it. A line of a bad form asks for none, and its
-- answer line is passed over
pub record Heard : Type 0 where
  pub act : Act
  pub tell : Tell

abbrev pub heard_in : List (List ℕ) → List (List ℕ) → List Heard
heard_in [] ys = []
heard_in (x ∷ xs) [] = []
heard_in (x ∷ xs) (y ∷ ys) = map (λ a. record { act = a; tell = heard a y }) (acts_of (line_of x)) ++ heard_in xs ys

-- the same as events, and as what demand 2 compares
abbrev pub seen_in : List (List ℕ) → List (List ℕ) → List Event
seen_in xs ys = map (λ h. answered h.act h.tell.number h.tell.faults) (heard_in xs ys)

abbrev pub told_in : List (List ℕ) → List (List ℕ) → List Tell
told_in xs ys = map (λ h. h.tell) (heard_in xs ys)
