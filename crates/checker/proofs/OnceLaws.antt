-- A list that has each of the cells 1 to n exactly once, in any order: it is as long as there are cells (`once_length`), and so is any list
-- with the same cells (`once_same`).
use mathlib.Core.Path.{◌≡◌, sym, ◌∙◌}
use mathlib.Core.List.{List}
use Prim.Native.Nat.{ℕ}
use native.Mathlib.Omega.{arith}
use lib.ListN.{length}
use Rattle.model.specs.Meaning.{ExactlyOnce}
use Rattle.model.proofs.Sums.{count}
use Rattle.model.proofs.Each.{count_full}
use Rattle.model.proofs.Walks.{times_count}

pub once_length : (n : ℕ) (l : List ℕ) → ExactlyOnce n l → length l ≡ n
once_length n l r = count_full n l (λ i h. r.cells i (omega (arith, times_count i l))) (λ i a b. sym (times_count i l) ∙ r.once i a b)

-- a list with the same cells, in whatever order
pub once_same : (n : ℕ) (a b : List ℕ) → ((i : ℕ) → count i a ≡ count i b) → ExactlyOnce n a → ExactlyOnce n b
once_same n a b e r = record {
  cells = λ i h. r.cells i (omega (arith, e i, times_count i a, times_count i b));
  once = λ i p q. omega (arith, e i, times_count i a, times_count i b, r.once i p q);
}
