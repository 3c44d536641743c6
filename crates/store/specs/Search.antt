-- The search of a chain for a serial, as the code goes along it, and what it has to find in a store.
use Rattle.std.specs.Prelude.{◌≡◌, cond, List, [], ◌∷◌, Some, None, ℕ, ◌+◌, slice_get}
use Rattle.model.specs.Shape.{Shape}
use Rattle.model.specs.Model.{Store, address_in, chain_for, found, before, comparisons, cells_of}
use Rattle.model.specs.Layout.{last, follow}
use Rattle.model.specs.Meaning.{next_card}
use Rattle.reads.specs.Chains.{has_key}
use Rattle.store.specs.declared.search.Found.{Found}
use Rattle.store.specs.declared.search.Spot.{Spot}

-- the first of some cells whose card has the key, with n cells behind them, of which prev is the last
unfoldable pub search_in : Shape → List ℕ → ℕ → List ℕ → List ℕ → ℕ → ℕ → Found
search_in sh w len key [] n prev = record { cell = None; place = n; prev = prev }
search_in sh w len key (i ∷ cells) n prev =
    let rest = search_in sh w len key cells (n + 1) i in
    cond (has_key sh w i len key) (record { cell = Some i; place = n + 1; prev = prev }) rest

-- the search of the chain from cell h on
unfoldable pub searched : Shape → List ℕ → ℕ → ℕ → List ℕ → Found
searched sh w h len key = search_in sh w len key (follow sh.limit (next_card sh w) h) 0 0

-- what a store holds of a serial: its bucket, the cell of its card, if a card has it, the card's place or the chain's length, and the cell
-- before the card, which is the chain's last where no card has it
pub record Finds (s : Store) (serial : List ℕ) (r : Spot) : Type 0 where
  pub bucket_is : r.bucket ≡ address_in s serial
  pub cell_is : r.found.cell ≡ slice_get (cells_of (found serial (chain_for s serial))) 0
  pub place_is : r.found.place ≡ comparisons serial (chain_for s serial)
  pub prev_is : r.found.prev ≡ last (cells_of (before serial (chain_for s serial)))
