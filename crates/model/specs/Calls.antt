-- What each call answers and leaves, for every input: a function of all that it is given. The order of refusals is read from top to bottom.
use Rattle.std.specs.Prelude.{ℕ, ◌+◌, ◌*◌, List, [], ◌∷◌, ◌++◌, not, cond, ltb, eqb, length, take, drop, replicate}
use Rattle.model.specs.Lists.{by_day}
use Rattle.model.specs.Shape.{Shape, need}
use Rattle.model.specs.Serial.{valid_serial, valid_fault}
use Rattle.model.specs.Model.{Fault, Store, held, faults_held, chain_for, found, comparisons, placed, removed, split_scan, contract_scan, fresh, entered, filed, history_in, withdrawn}
use Rattle.model.specs.Numbers.{bad_limits, bad_bounds, bad_length, not_sound, bad_serial, bad_fault, already_held, not_held, cards_full, faults_full, short_room, short_scratch}
use Rattle.model.specs.Layout.{second_format, limits_ok, bounds_ok, length_for, encode, decode, sound, shape_of}

pub record Answer : Type 0 where
  pub number : ℕ
  pub comparisons : ℕ
  pub scanned : ℕ
  pub faults : ℕ

-- an answer, and what stands afterwards in the store, in the room for pairs and in the scratch
pub record Outcome : Type 0 where
  pub answer : Answer
  pub words : List ℕ
  pub room : List ℕ
  pub scratch : List ℕ

-- number, comparisons, cards scanned, faults
abbrev pub gives : ℕ → ℕ → ℕ → ℕ → Answer
gives n k scan f = record { number = n; comparisons = k; scanned = scan; faults = f }

-- refusals before the search
abbrev pub refused : ℕ → Answer
refused n = gives n 0 0 0

-- scratch with its first n bytes zero, the rest as they were
unfoldable pub cleaned : ℕ → List ℕ → List ℕ
cleaned n scratch = replicate n 0 ++ drop n scratch

-- day, code per fault
abbrev pub pairs : List Fault → List ℕ
pairs [] = []
pairs (f ∷ fs) = f.day ∷ f.code ∷ pairs fs

-- what Show and Withdraw list: the faults by rising day, equal days as filed
abbrev pub listing : List Fault → List Fault
listing h = by_day (λ f. f.day) h

-- the pairs of what is listed, and no later word touched
abbrev pub written : List Fault → List ℕ → List ℕ
written h room = pairs (listing h) ++ drop (2 * length h) room

-- what a call does once the store is known to be sound: an answer, the store left, the room left
pub record Step : Type 0 where
  pub answer : Answer
  pub store : Store
  pub room : List ℕ

abbrev pub stays : Answer → Store → List ℕ → Step
stays a s room = record { answer = a; store = s; room = room }

unfoldable pub enter_step : Store → List ℕ → ℕ → Step
enter_step s bytes n =
    let serial = take n bytes in
    let chain = chain_for s serial in
    let k = comparisons serial chain in
    cond (not (valid_serial bytes n)) (stays (refused bad_serial) s [])
    (cond (eqb (length (found serial chain)) 1) (stays (gives already_held k 0 0) s [])
    (cond (eqb (held s) s.shape.limit) (stays (gives cards_full k 0 0) s [])
    (stays (gives 0 k (split_scan (placed s serial)) 0) (entered s serial) [])))

unfoldable pub file_step : Store → List ℕ → ℕ → ℕ → ℕ → Step
file_step s bytes n day code =
    let serial = take n bytes in
    let chain = chain_for s serial in
    let k = comparisons serial chain in
    cond (not (valid_serial bytes n)) (stays (refused bad_serial) s [])
    (cond (not (valid_fault day code)) (stays (refused bad_fault) s [])
    (cond (eqb (length (found serial chain)) 0) (stays (gives not_held k 0 0) s [])
    (cond (eqb (faults_held s) s.shape.fault_limit) (stays (gives faults_full k 0 0) s [])
    (stays (gives 0 k 0 (length (history_in s serial) + 1)) (filed s serial day code) []))))

unfoldable pub show_step : Store → List ℕ → ℕ → List ℕ → Step
show_step s bytes n room =
    let serial = take n bytes in
    let chain = chain_for s serial in
    let k = comparisons serial chain in
    let h = history_in s serial in
    cond (not (valid_serial bytes n)) (stays (refused bad_serial) s room)
    (cond (eqb (length (found serial chain)) 0) (stays (gives not_held k 0 0) s room)
    (cond (ltb (length room) (2 * length h)) (stays (gives short_room k 0 (length h)) s room)
    (stays (gives 0 k 0 (length h)) s (written h room))))

unfoldable pub withdraw_step : Store → List ℕ → ℕ → List ℕ → Step
withdraw_step s bytes n room =
    let serial = take n bytes in
    let chain = chain_for s serial in
    let k = comparisons serial chain in
    let h = history_in s serial in
    cond (not (valid_serial bytes n)) (stays (refused bad_serial) s room)
    (cond (eqb (length (found serial chain)) 0) (stays (gives not_held k 0 0) s room)
    (cond (ltb (length room) (2 * length h)) (stays (gives short_room k 0 (length h)) s room)
    (stays (gives 0 k (contract_scan (removed s serial)) (length h)) (withdrawn s serial) (written h room))))

-- what every call asks before its step: 11 where the scratch is shorter than the store's shape needs, then 3 where the words are not sound, else 0
unfoldable pub admission : List ℕ → List ℕ → ℕ
admission w scratch = cond (ltb (length scratch) (need (shape_of w))) short_scratch (cond (sound w) 0 not_sound)

-- and what it leaves in the scratch: under 11 all as it was, else its first bytes zero
unfoldable pub swept : List ℕ → List ℕ → List ℕ
swept w scratch = cond (ltb (length scratch) (need (shape_of w))) scratch (cleaned (need (shape_of w)) scratch)

-- a call on words: once admitted, the step on the store that they stand for; else words and room as they were
unfoldable pub call : (Store → Step) → List ℕ → List ℕ → List ℕ → Outcome
call step w scratch room =
    let k = admission w scratch in
    let r = step (decode w) in
    let done : Outcome = record { answer = r.answer; words = encode r.store; room = r.room; scratch = swept w scratch } in
    cond (eqb k 0) done (record { answer = refused k; words = w; room = room; scratch = swept w scratch })

-- what Open is asked for, and the shape that it makes of it
pub record Terms : Type 0 where
  pub cards : ℕ
  pub faults : ℕ
  pub upper : ℕ
  pub lower : ℕ

-- in the order in which its numbers are given
abbrev pub asked : ℕ → ℕ → ℕ → ℕ → Terms
asked cards faults upper lower = record { cards = cards; faults = faults; upper = upper; lower = lower }

unfoldable pub shape_for : Terms → Shape
shape_for t = record { format = second_format; limit = t.cards; fault_limit = t.faults; upper = t.upper; lower = t.lower }

-- Open tests 1, then 15, then 2
pub record Opened : Type 0 where
  pub number : ℕ
  pub words : List ℕ

unfoldable pub open_call : List ℕ → Terms → Opened
open_call w t =
    cond (not (limits_ok (shape_for t))) (record { number = bad_limits; words = w })
    (cond (not (bounds_ok (shape_for t))) (record { number = bad_bounds; words = w })
    (cond (not (eqb (length w) (length_for (shape_for t)))) (record { number = bad_length; words = w })
    (record { number = 0; words = encode (fresh (shape_for t)) })))
