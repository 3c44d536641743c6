-- A call on a sound store before it changes anything: what Enter and Withdraw will scan, and a plan: the answer of a call that is refused, or the
-- answer with the header as it was read and the places in the store that the change will touch.
use Rattle.std.specs.Prelude.{◌≡◌, true, cond, List, ℕ, ◌+◌, ◌-◌, ◌*◌, ◌≤◌, eqb, length, take, Result, Ok, Err, slice_get}
use Rattle.rules.specs.Table.{splits, contracts}
use Rattle.model.specs.Serial.{valid_serial}
use Rattle.model.specs.Shape.{top_of}
use Rattle.model.specs.Model.{Store, held, size, bucket, address_in, chain_for, found, before, cells_of, history_in}
use Rattle.model.specs.Layout.{last, encode, decode}
use Rattle.model.specs.Calls.{Answer, Step, written, file_step}
use Rattle.reads.specs.Cells.{Read}
use Rattle.store.specs.Leaves.{Gives}
use Rattle.store.specs.declared.answer.Answer as given
use Rattle.reads.specs.declared.header.Header.{Header}
use Rattle.store.specs.declared.plans.Plan.{Plan}
use Rattle.store.specs.declared.search.Spot.{Spot}

-- with one card more in bucket b: the length of bucket p, if that load splits it
unfoldable pub grow_scan : Store → ℕ → ℕ
grow_scan s b = cond (splits (top_of s.shape) s.shape.upper (held s + 1) (size s)) (length (bucket s s.p) + cond (eqb b s.p) 1 0) 0

-- with one card less in bucket b: the length of the last bucket, if that load joins it
unfoldable pub shrink_scan : Store → ℕ → ℕ
shrink_scan s b = cond (contracts s.shape.lower (held s - 1) (size s)) (length (bucket s (size s - 1)) - cond (eqb b (size s - 1)) 1 0) 0

-- the answer of a call that is refused behind its search, and a plan that goes ahead at a spot
abbrev pub refused_after : ℕ → ℕ → ℕ → given.Answer
refused_after number place faults = record { number = number; comparisons = place; scanned = 0; faults = faults }

abbrev pub accepted_plan : Header → Spot → ℕ → ℕ → Plan
accepted_plan h o scanned faults = record { answer = record { number = 0; comparisons = o.found.place; scanned = scanned; faults = faults }; spot = o; header = h }

-- the places of a valid serial: its bucket, the cell of its card, if a card has it, and the cell before that, which is the chain's last where no
-- card has the serial
pub record Places (s : Store) (bytes : List ℕ) (n : ℕ) (o : Spot) : Type 0 where
  pub valid : valid_serial bytes n ≡ true
  pub bucket_is : o.bucket ≡ address_in s (take n bytes)
  pub cell_is : o.found.cell ≡ slice_get (cells_of (found (take n bytes) (chain_for s (take n bytes)))) 0
  pub prev_is : o.found.prev ≡ last (cells_of (before (take n bytes) (chain_for s (take n bytes))))

-- a call that is refused has the four numbers of an answer, and its number is none of what is done
pub record Refuses (a : Answer) (r : given.Answer) : Type 0 where
  pub answer : Gives a r
  pub refused : r.number ≡ 0 → ⊥

-- a call that goes ahead on the words w for the first n of some bytes: the four numbers of an answer, which are those of what is done, the
-- header of the words, and the places
pub record Planned (a : Answer) (w : List ℕ) (bytes : List ℕ) (n : ℕ) (r : Plan) : Type 0 where
  pub answer : Gives a r.answer
  pub done : r.answer.number ≡ 0
  pub header : Read w r.header
  pub places : Places (decode w) bytes n r.spot

-- a plan is one of the two
abbrev pub Plans : Answer → List ℕ → List ℕ → ℕ → Result Plan given.Answer → Type 0
Plans a w bytes n (Ok r) = Planned a w bytes n r
Plans a w bytes n (Err r) = Refuses a r

-- the same with any room of so many words: it enters the answer by its length alone
pub record PlansFor (step : List ℕ → Step) (room : ℕ) (w : List ℕ) (bytes : List ℕ) (n : ℕ) (r : Result Plan given.Answer) : Type 0 where
  pub with_room : (given : List ℕ) → length given ≡ room → Plans (step given).answer w bytes n r

-- File of a serial, as a step that takes a room and leaves it alone
abbrev pub file_with : Store → ℕ → ℕ → List ℕ → ℕ → List ℕ → Step
file_with s day code bytes n room = file_step s bytes n day code

-- a plan that goes ahead, of some serial and some room
pub record Ready (step : List ℕ → ℕ → List ℕ → Step) (w : List ℕ) (r : Plan) : Type 0 where
  pub bytes : List ℕ
  pub n : ℕ
  pub room : List ℕ
  pub plan : Planned (step bytes n room).answer w bytes n r

-- the words left follow a plan: they are those of the step's store, whichever serial and room the plan is of
pub record Follows (step : List ℕ → ℕ → List ℕ → Step) (w : List ℕ) (r : Plan) (words : List ℕ) : Type 0 where
  pub leaves : (bytes : List ℕ) (n : ℕ) (room : List ℕ) → Planned (step bytes n room).answer w bytes n r → words ≡ encode (step bytes n room).store

-- a plan's cell is that of a card, whose pairs a room holds
pub record Holds (w : List ℕ) (r : Plan) (room : List ℕ) : Type 0 where
  pub bytes : List ℕ
  pub n : ℕ
  pub header : Read w r.header
  pub places : Places (decode w) bytes n r.spot
  pub one : length (found (take n bytes) (chain_for (decode w) (take n bytes))) ≡ 1
  pub wide : 2 * length (history_in (decode w) (take n bytes)) ≤ length room

-- the pairs of that card stand in the room, whichever serial has these places
pub record Paired (s : Store) (r : Plan) (room left : List ℕ) : Type 0 where
  pub pairs_are : (bytes : List ℕ) (n : ℕ) → Places s bytes n r.spot → length (found (take n bytes) (chain_for s (take n bytes))) ≡ 1 → left ≡ written (history_in s (take n bytes)) room
