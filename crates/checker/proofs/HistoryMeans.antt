-- The checker walks the histories of all card cells, the rules speak of the histories of the cards held. A free card cell is zero, so its
-- history is empty; and each card cell stands exactly once in the free chain or a bucket. So whatever is counted over the histories of
-- cells 1 to C is what is counted over those of the cards (`filed_total`), in whatever order the buckets have them.
use mathlib.Core.Path.{◌≡◌, refl, sym, ap, ◌∙◌}
use mathlib.Core.Bool.{true}
use mathlib.Core.List.{List, [], ◌++◌}
use Prim.Native.Nat.{ℕ, zero, suc, ◌+◌}
use native.Mathlib.Omega.{arith}
use Rattle.model.specs.Shape.{Shape}
use Rattle.model.specs.Lists.{from, total}
use Rattle.model.specs.Layout.{to_first, card_word}
use Rattle.model.specs.Meaning.{In, ExactlyOnce, next_fault, free_cells, held_cells, history_cells, filed_cells}
use Rattle.model.proofs.Sums.{total_flat}
use Rattle.model.proofs.Meaning.{filed_by_cell}
use Rattle.reads.specs.Cells.{cell_word, limit_of}
use Rattle.checker.specs.Checker.{first_of, chain_count}
use Rattle.model.proofs.Chains.{follow_none}
use Rattle.checker.proofs.PartMeans.{chain_in, chains_in}

pub no_history : (sh : Shape) (w : List ℕ) (i : ℕ) → card_word sh w i to_first ≡ 0 → history_cells sh w i ≡ []
unfolding history_cells
no_history sh w i z = follow_none sh.fault_limit (next_fault sh w) (card_word sh w i to_first) z

total_shift : (f : ℕ → ℕ) (a n : ℕ) → total (λ j. f (j + 1)) (from a n) ≡ total f (from (suc a) n)
total_shift f a zero = refl
total_shift f a (suc n) = let e : a + 1 ≡ suc a = omega arith in omega (arith, ap f e, total_shift f (suc a) n)

pub filed_total : (sh : Shape) (w : List ℕ) → ExactlyOnce sh.limit (free_cells sh w ++ held_cells sh w) → ((i : ℕ) → In i (free_cells sh w) → card_word sh w i to_first ≡ 0)
    → (g : ℕ → ℕ) → total g (chains_in sh w true) ≡ total g (filed_cells sh w)
unfolding first_of chain_count limit_of cell_word history_cells filed_cells
filed_total sh w cells empty g =
    total_flat g (chain_in sh w true) (from 0 sh.limit)
    ∙ total_shift (λ i. total g (history_cells sh w i)) 0 sh.limit
    ∙ sym (total_flat g (history_cells sh w) (from 1 sh.limit))
    ∙ filed_by_cell sh w cells empty g
