-- The plain list of cards, keyed by the exact bytes of the serial: what demand 2 holds each answer to.
use Rattle.std.specs.Prelude.{ℕ, ◌+◌, ◌*◌, List, [], ◌∷◌, ◌++◌, map, not, cond, ltb, eqb, length, take, drop}
use Rattle.model.specs.Lists.{same, keep, total, by_day}
use Rattle.model.specs.Serial.{valid_serial, valid_fault}
use Rattle.model.specs.Model.{Fault, Card, Store, cards}
use Rattle.model.specs.Shape.{Shape}
use Rattle.model.specs.Layout.{limits_ok, bounds_ok, length_for}
use Rattle.model.specs.Calls.{Terms, shape_for}

-- a fault without its cell
pub record Slip : Type 0 where
  pub day : ℕ
  pub code : ℕ

-- a card without its cell
pub record Entry : Type 0 where
  pub serial : List ℕ
  pub slips : List Slip

abbrev pub slip : Fault → Slip
slip f = record { day = f.day; code = f.code }

abbrev pub entry : Card → Entry
entry c = record { serial = c.serial; slips = map slip c.faults }

-- the store, with buckets, chains and cells forgotten
abbrev pub plain : Store → List Entry
plain s = map entry (cards s)

abbrev pub look_up : List ℕ → List Entry → List Entry
look_up serial es = keep (λ e. same serial e.serial) es

abbrev pub slips_in : List Entry → ℕ
slips_in es = total (λ e. length e.slips) es

abbrev pub slips_of : List Entry → List Slip
slips_of [] = []
slips_of (e ∷ es) = e.slips ++ slips_of es

abbrev pub slip_pairs : List Slip → List ℕ
slip_pairs [] = []
slip_pairs (f ∷ fs) = f.day ∷ f.code ∷ slip_pairs fs

-- what Show and Withdraw list: the slips by rising day, equal days as filed
abbrev pub slip_listing : List Slip → List Slip
slip_listing fs = by_day (λ f. f.day) fs

-- their pairs at the front of a room, and no later word touched
abbrev pub slips_written : List Slip → List ℕ → List ℕ
slips_written fs room = slip_pairs (slip_listing fs) ++ drop (2 * length fs) room

-- the plain model: a list of entries with a shape, and the four operations on it
pub record Book : Type 0 where
  pub shape : Shape
  pub entries : List Entry

pub record Reply : Type 0 where
  pub number : ℕ
  pub faults : ℕ
  pub room : List ℕ
  pub book : Book

abbrev pub with_entries : Book → List Entry → Book
with_entries b es = record { shape = b.shape; entries = es }

abbrev pub with_slip : Slip → Entry → Entry
with_slip f e = record { serial = e.serial; slips = e.slips ++ (f ∷ []) }

abbrev pub says : ℕ → ℕ → Book → List ℕ → Reply
says k m b room = record { number = k; faults = m; room = room; book = b }

-- the words of a store with the same shape are as many, so 2 is known from the shape alone
unfoldable pub book_open : Book → Terms → Reply
book_open b t =
    cond (not (limits_ok (shape_for t))) (says 1 0 b [])
    (cond (not (bounds_ok (shape_for t))) (says 15 0 b [])
    (cond (not (eqb (length_for b.shape) (length_for (shape_for t)))) (says 2 0 b [])
    (says 0 0 (record { shape = shape_for t; entries = [] }) [])))

unfoldable pub book_enter : Book → List ℕ → ℕ → Reply
book_enter b bytes n =
    let y = take n bytes in
    cond (not (valid_serial bytes n)) (says 4 0 b [])
    (cond (eqb (length (look_up y b.entries)) 1) (says 6 0 b [])
    (cond (eqb (length b.entries) b.shape.limit) (says 8 0 b [])
    (says 0 0 (with_entries b (b.entries ++ (record { serial = y; slips = [] } ∷ []))) [])))

unfoldable pub book_file : Book → List ℕ → ℕ → ℕ → ℕ → Reply
book_file b bytes n day code =
    let y = take n bytes in
    cond (not (valid_serial bytes n)) (says 4 0 b [])
    (cond (not (valid_fault day code)) (says 5 0 b [])
    (cond (eqb (length (look_up y b.entries)) 0) (says 7 0 b [])
    (cond (eqb (slips_in b.entries) b.shape.fault_limit) (says 9 0 b [])
    (says 0 (length (slips_of (look_up y b.entries)) + 1)
    (with_entries b (map (λ e. cond (same y e.serial) (with_slip (record { day = day; code = code }) e) e) b.entries)) []))))

unfoldable pub book_show : Book → List ℕ → ℕ → List ℕ → Reply
book_show b bytes n room =
    let y = take n bytes in
    let h = slips_of (look_up y b.entries) in
    cond (not (valid_serial bytes n)) (says 4 0 b room)
    (cond (eqb (length (look_up y b.entries)) 0) (says 7 0 b room)
    (cond (ltb (length room) (2 * length h)) (says 10 (length h) b room)
    (says 0 (length h) b (slips_written h room))))

unfoldable pub book_withdraw : Book → List ℕ → ℕ → List ℕ → Reply
book_withdraw b bytes n room =
    let y = take n bytes in
    let h = slips_of (look_up y b.entries) in
    cond (not (valid_serial bytes n)) (says 4 0 b room)
    (cond (eqb (length (look_up y b.entries)) 0) (says 7 0 b room)
    (cond (ltb (length room) (2 * length h)) (says 10 (length h) b room)
    (says 0 (length h) (with_entries b (keep (λ e. not (same y e.serial)) b.entries)) (slips_written h room))))
