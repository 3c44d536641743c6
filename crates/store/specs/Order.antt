-- The cards of a store in order, buckets by address and cards by chain, each with its bucket and its cell.
use Rattle.std.specs.Prelude.{◌≡◌, List, [], ◌∷◌, ◌++◌, map, Option, Some, ℕ, suc, ◌<◌, drop, slice_get}
use Rattle.model.specs.Model.{Card, Store, held}
use Rattle.store.specs.declared.order.At.{At}

-- the place of a card of bucket b
abbrev pub place_in : ℕ → Card → At
place_in b c = record { bucket = b; cell = c.at }

-- the places of the cards of some buckets, the first of which is bucket b
unfoldable pub places_from : ℕ → List (List Card) → List At
places_from b [] = []
places_from b (cs ∷ bs) = map (place_in b) cs ++ places_from (suc b) bs

-- the place of card n, from 0 on; past the last card there is none
unfoldable pub place_of : Store → ℕ → Option At
place_of s n = slice_get (places_from 0 s.buckets) n

-- the first place of the buckets from b on
unfoldable pub head_from : Store → ℕ → Option At
head_from s b = slice_get (places_from b (drop b s.buckets)) 0

-- a place is that of a card
pub record Comes (s : Store) (at : At) : Type 0 where
  pub n : ℕ
  pub inside : n < held s
  pub is : place_of s n ≡ Some at

-- a place comes behind another, whichever card that is
pub record Follows (s : Store) (at : At) (next : Option At) : Type 0 where
  pub next_is : (n : ℕ) → n < held s → place_of s n ≡ Some at → next ≡ place_of s (suc n)
