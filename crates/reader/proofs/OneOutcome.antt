-- The contract of `answer` admits one outcome only: it is two equations, so two programs that meet it write as many bytes and leave the same array.
-- What the exports leave no choice in is gathered in crates/card_store/proofs/OneOutcome.antt.
use mathlib.Core.Path.{◌≡◌, sym, ◌∙◌}
use mathlib.Core.List.{List}
use Prim.Native.Nat.{ℕ}
use Rattle.reader.specs.Depot.{whole_size, blank, depot_text, Writes}

-- how many bytes are written, and all that the array holds
pub one_text : (input : List ℕ) (m n : ℕ) (a b : List ℕ) → Writes (depot_text input) (blank whole_size) m a → Writes (depot_text input) (blank whole_size) n b → (m ≡ n) × (a ≡ b)
one_text input m n a b p q = (p.len_is ∙ sym q.len_is, p.out_is ∙ sym q.out_is)
