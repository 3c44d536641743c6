-- The walk of a chain over marks, of any kind of cell: cells are numbers from 1, `next` gives the cell after a cell, 0 for none,
-- and `good` is what a cell has to be by itself.
use Rattle.std.specs.Prelude.{◌≡◌, Bool, true, false, cond, not, ◌&&◌, List, [], ◌∷◌, ℕ, zero, suc, ◌+◌, ◌-◌, eqb, leb, Option, None, Some}
use Rattle.checker.specs.Marks.{mark_at, marked_at}
use Rattle.checker.specs.declared.walks.Walked.{Walked}

-- the number that cell i is marked by
abbrev pub number_of : ℕ → ℕ → ℕ
number_of base i = base + (i - 1)

-- whether cell i may come next: within the limit, not marked yet, and good
unfoldable pub may_come : (ℕ → Bool) → List ℕ → ℕ → ℕ → ℕ → Bool
may_come good bytes base limit i = leb i limit && (not (mark_at bytes (number_of base i)) && good i)

-- what a walk answers: whether it came to the end, how many cells it met and which was the last; and the bytes it leaves
pub record Out : Type 0 where
  pub ok : Bool
  pub count : ℕ
  pub last : ℕ
  pub bytes : List ℕ

abbrev pub accept : ℕ → ℕ → List ℕ → Out
accept n l bytes = record { ok = true; count = n; last = l; bytes = bytes }

abbrev pub refuse : List ℕ → Out
refuse bytes = record { ok = false; count = 0; last = 0; bytes = bytes }

-- the walk from cell i on, with n cells behind it, of which l is the last, and at most f before it
unfoldable pub walk_from : ℕ → (ℕ → Bool) → (ℕ → ℕ) → ℕ → ℕ → List ℕ → ℕ → ℕ → ℕ → Out
walk_from zero good next base limit bytes i n l = cond (eqb i 0) (accept n l bytes) (refuse bytes)
walk_from (suc f) good next base limit bytes i n l =
    let rest = walk_from f good next base limit (marked_at bytes (number_of base i)) (next i) (n + 1) i in
    cond (eqb i 0) (accept n l bytes) (cond (may_come good bytes base limit i) rest (refuse bytes))

-- no chain within the limit is longer than the limit
unfoldable pub walk_of : (ℕ → Bool) → (ℕ → ℕ) → ℕ → ℕ → List ℕ → ℕ → Out
walk_of good next base limit bytes first = walk_from limit good next base limit bytes first 0 0

-- a chain to walk: its first cell, what its cells have to be, and what its count and last cell have to be
pub record Start : Type 0 where
  pub first : ℕ
  pub good : ℕ → Bool
  pub fits : ℕ → ℕ → Bool

-- chains walked one after the other over the same marks, with n cells behind them
pub record Tot : Type 0 where
  pub ok : Bool
  pub total : ℕ
  pub bytes : List ℕ

abbrev pub walk_on : (ℕ → ℕ) → ℕ → ℕ → List ℕ → Start → Out
walk_on next base limit bytes s = walk_of s.good next base limit bytes s.first

unfoldable pub walks_from : (ℕ → ℕ) → ℕ → ℕ → List Start → List ℕ → ℕ → Tot
walks_from next base limit [] bytes n = record { ok = true; total = n; bytes = bytes }
walks_from next base limit (s ∷ ss) bytes n =
    let o = walk_on next base limit bytes s in
    let rest = walks_from next base limit ss o.bytes (n + o.count) in
    cond (o.ok && s.fits o.count o.last) rest (record { ok = false; total = 0; bytes = o.bytes })

-- what a walk of a program answers and leaves is the outcome o
pub record Did (o : Out) (ok : Bool) (count last : ℕ) (left : List ℕ) : Type 0 where
  pub ok_is : ok ≡ o.ok
  pub count_is : count ≡ o.count
  pub last_is : last ≡ o.last
  pub left_is : left ≡ o.bytes

pub record DidAll (o : Tot) (ok : Bool) (total : ℕ) (left : List ℕ) : Type 0 where
  pub ok_is : ok ≡ o.ok
  pub total_is : total ≡ o.total
  pub left_is : left ≡ o.bytes

-- the same of a walk that answers what it met, or None where it was refused
abbrev pub DidWalk : Out → Option Walked → List ℕ → Type 0
DidWalk o None left = Did o false 0 0 left
DidWalk o (Some t) left = Did o true t.count t.last left

abbrev pub DidWalks : Tot → Option ℕ → List ℕ → Type 0
DidWalks o None left = DidAll o false 0 left
DidWalks o (Some n) left = DidAll o true n left
