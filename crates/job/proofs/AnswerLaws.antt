-- The text of an answer, pair by pair and as a whole: `pairs_front` is a turn of the loop over the pairs, `answer_most` bounds the length, and
-- `answer_text_lem` says that the text from plain numbers is the model's. Assumes nothing.
use Prim.Native.Nat.{ℕ, zero, suc, ◌+◌, ◌*◌, ◌^◌, ◌≤◌, ◌<◌}
use mathlib.Core.Path.{◌≡◌, refl, sym, ap}
use mathlib.Core.List.{List, [], ◌∷◌, ◌++◌, append_assoc}
use native.Mathlib.Omega.{arith}
use lib.ListN.{length, take, get_or, length-append}
use Rattle.model.specs.Model.{Fault}
use Rattle.model.specs.Calls.{Step, pairs}
use Rattle.model.specs.Text.{decimal}
use Rattle.model.specs.Job.{Line, pair_text, listed, answer_text}
use Rattle.store.specs.declared.answer.Answer.{Answer}
use Rattle.text.specs.Decimals.{marked}
use Rattle.text.proofs.DecimalLaws.{decimal_short}
use Rattle.job.specs.Answers.{pair_of, numbers_of, answer_of}

-- the words of pairs as text, two by two
unfoldable pub pairs_of : List ℕ → List ℕ
pairs_of [] = []
pairs_of (d ∷ []) = []
pairs_of (d ∷ c ∷ rest) = pair_of d c ++ pairs_of rest

pub pairs_taken : (n : ℕ) (room : List ℕ) → 2 * n ≤ length room → pair_text n room ≡ pairs_of (take (2 * n) room)
unfolding pair_text pairs_of pair_of marked
pairs_taken zero room h = refl
pairs_taken (suc n) [] h = absurd (omega arith)
pairs_taken (suc n) (d ∷ []) h = absurd (omega arith)
pairs_taken (suc n) (d ∷ c ∷ rest) h =
    let e : 2 * suc n ≡ suc (suc (2 * n)) = omega arith in
    rw (e, pairs_taken n rest (omega arith)) (ap (λ (l : List ℕ). 32 ∷ l) (sym (append_assoc (decimal d) (58 ∷ decimal c) (pairs_of (take (2 * n) rest)))))

pub pairs_front : (x rest : List ℕ) → length x ≡ 2 → pairs_of (x ++ rest) ≡ pair_of (get_or x 0 0) (get_or x 1 0) ++ pairs_of rest
unfolding pairs_of
pairs_front [] rest h = absurd (omega arith)
pairs_front (d ∷ []) rest h = absurd (omega arith)
pairs_front (d ∷ c ∷ []) rest h = refl
pairs_front (d ∷ c ∷ x ∷ xs) rest h = absurd (omega arith)

pub pairs_end : (l : List ℕ) → length l < 2 → pairs_of l ≡ []
unfolding pairs_of
pairs_end [] h = refl
pairs_end (d ∷ []) h = refl
pairs_end (d ∷ c ∷ rest) h = absurd (omega arith)

-- how long an answer of 32-bit numbers is at most
pairs_most : (count : ℕ) (room : List ℕ) → ((k : ℕ) → get_or room k 0 < 2 ^ 32) → length (pair_text count room) ≤ 22 * count
unfolding pair_text
pairs_most zero room h = omega arith
pairs_most (suc n) [] h = omega arith
pairs_most (suc n) (d ∷ []) h = omega arith
pairs_most (suc n) (d ∷ c ∷ rest) h =
    simp length-append (omega (arith, decimal_short d (h 0), decimal_short c (h 1), pairs_most n rest (λ k. h (suc (suc k)))))

pub answer_most : (a : Answer) (count : ℕ) (room : List ℕ) → a.number < 2 ^ 32 → a.comparisons < 2 ^ 32 → a.scanned < 2 ^ 32 → a.faults < 2 ^ 32
    → ((k : ℕ) → get_or room k 0 < 2 ^ 32) → length (answer_of a.number a.comparisons a.scanned a.faults count room) ≤ 44 + 22 * count
unfolding answer_of numbers_of marked
answer_most a count room n c s f h =
    simp length-append (omega (arith, decimal_short a.number n, decimal_short a.comparisons c, decimal_short a.scanned s, decimal_short a.faults f, pairs_most count room h))

-- the room behind the pairs of a history is not read
pub pairs_only : (h : List Fault) (rest : List ℕ) → pair_text (length h) (pairs h ++ rest) ≡ pair_text (length h) (pairs h)
unfolding pair_text
pairs_only [] rest = refl
pairs_only (f ∷ fs) rest = rw (pairs_only fs rest)

-- the answer of a line is the text of its numbers
pub answer_text_lem : (l : Line) (r : Step)
    → answer_text l r ≡ answer_of r.answer.number r.answer.comparisons r.answer.scanned r.answer.faults (listed l r.answer) r.room
unfolding answer_text answer_of numbers_of marked
answer_text_lem l r = simp append_assoc
