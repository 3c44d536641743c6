-- A chain that comes to its end, the key of a card, and the faults along a chain.
use Rattle.std.specs.Prelude.{◌≡◌, Bool, true, ◌&&◌, List, map, ℕ, ◌+◌, eqb, get_or}
use Rattle.model.specs.Lists.{between, all, from}
use Rattle.model.specs.Shape.{Shape}
use Rattle.model.specs.Model.{Fault}
use Rattle.model.specs.Layout.{to_length, to_serial, serial_words, follow, card_word, read_fault}
use Rattle.model.specs.Meaning.{Leads, next_fault}

-- the chain from cell h on comes to its end within the limit, and its cells are among 1 to the limit
pub record Ends (limit : ℕ) (next : ℕ → ℕ) (h : ℕ) : Type 0 where
  pub leads : Leads next h (follow limit next h)
  pub inside : all (between 1 limit) (follow limit next h) ≡ true

-- the card in cell i has this serial length and these four words of serial
unfoldable pub has_key : Shape → List ℕ → ℕ → ℕ → List ℕ → Bool
has_key sh w i len key = eqb (card_word sh w i to_length) len && all (λ k. eqb (card_word sh w i (k + to_serial)) (get_or key k 0)) (from 0 serial_words)

-- the faults from fault cell h on
unfoldable pub faults_from : Shape → List ℕ → ℕ → List Fault
faults_from sh w h = map (read_fault sh w) (follow sh.fault_limit (next_fault sh w) h)
