-- The auditor's second question: when the table grows and its buckets split, how do we know that no history moves, doubles or drops?
-- For a split, a contraction, and the load rules that make them (in the middle of a call too, where the load is not yet within its
-- bounds), on any fair store:
-- no history moves: the card of every serial is the same card, with the same faults in the same order (`X-keeps-history`);
-- none doubles or drops: whatever is counted over the cards, be it cards, faults or cells, comes to the same (`X-doubles-none`);
-- each card stands in the bucket where the new state looks for it, and is found there (`X-misplaces-none`).
use Prim.Native.Nat.{ℕ, ◌<◌}
use mathlib.Core.Path.{◌≡◌}
use mathlib.Core.List.{List, [], ◌∷◌, Memᴰ}
use Rattle.rules.specs.Table.{least}
use Rattle.model.specs.Shape.{top_of}
use Rattle.model.specs.Lists.{total}
use Rattle.model.specs.Model.{Card, Store, cards, size, bucket, address_in, split, grown, contract, shrunk}
use Rattle.model.proofs.Fair.{Fair}
use Rattle.model.proofs.Look.{look, card_home, card_found}
use Rattle.model.proofs.Growth.{split_total, split_look, split_fair, contract_total, contract_look, contract_fair, grown_total, grown_look, grown_fair, shrunk_total, shrunk_look, shrunk_fair}

-- a card that stands in bucket b has the address b, and its serial finds it
abbrev pub InPlace : Store → Type 0
InPlace s = (b : ℕ) (c : Card) → Memᴰ c (bucket s b) → (address_in s c.serial ≡ b) × (look s c.serial ≡ c ∷ [])

pub fair_in_place : (s : Store) → Fair s → InPlace s
fair_in_place s r b c m = (card_home s r b c m, card_found s r b c m)

-- a bucket more
module _ (s : Store) (r : Fair s) (more : size s < top_of s.shape) where
  pub split_keeps_history : (x : List ℕ) → look (split s) x ≡ look s x
  split_keeps_history = split_look s r more

  pub split_doubles_none : (w : Card → ℕ) → total w (cards (split s)) ≡ total w (cards s)
  split_doubles_none = split_total s r more

  pub split_misplaces_none : InPlace (split s)
  split_misplaces_none = fair_in_place (split s) (split_fair s r more)

-- a bucket less
module _ (s : Store) (r : Fair s) (more : least < size s) where
  pub contraction_keeps_history : (x : List ℕ) → look (contract s) x ≡ look s x
  contraction_keeps_history = contract_look s r more

  pub contraction_doubles_none : (w : Card → ℕ) → total w (cards (contract s)) ≡ total w (cards s)
  contraction_doubles_none = contract_total s r more

  pub contraction_misplaces_none : InPlace (contract s)
  contraction_misplaces_none = fair_in_place (contract s) (contract_fair s r more)

-- what the load rules do in the middle of a call, be it that or nothing
module _ (s : Store) (r : Fair s) where
  pub growth_keeps_history : (x : List ℕ) → look (grown s) x ≡ look s x
  growth_keeps_history = grown_look s r

  pub growth_doubles_none : (w : Card → ℕ) → total w (cards (grown s)) ≡ total w (cards s)
  growth_doubles_none = grown_total s r

  pub growth_misplaces_none : InPlace (grown s)
  growth_misplaces_none = fair_in_place (grown s) (grown_fair s r)

  pub shrinking_keeps_history : (x : List ℕ) → look (shrunk s) x ≡ look s x
  shrinking_keeps_history = shrunk_look s r

  pub shrinking_doubles_none : (w : Card → ℕ) → total w (cards (shrunk s)) ≡ total w (cards s)
  shrinking_doubles_none = shrunk_total s r

  pub shrinking_misplaces_none : InPlace (shrunk s)
  shrinking_misplaces_none = fair_in_place (shrunk s) (shrunk_fair s r)
