-- The search by its steps: a chain compared card by card.
use mathlib.Core.Path.{◌≡◌, refl}
use mathlib.Core.Bool.{true, false}
use mathlib.Core.List.{List, [], ◌∷◌}
use Prim.Native.Nat.{ℕ, ◌+◌}
use Rattle.std.proofs.Common.{Some, None}
use Rattle.model.specs.Shape.{Shape}
use Rattle.model.specs.Meaning.{next_card}
use Rattle.reads.specs.Chains.{Ends, has_key}
use Rattle.store.specs.Search.{search_in, searched}
use Rattle.reads.proofs.AlongLaws.{Along, along_start}

-- what the search has to do at cell i: the card there, or on to the cells behind it
module _ (sh : Shape) (w : List ℕ) (len : ℕ) (key : List ℕ) where
  pub search_none : (n prev : ℕ) → search_in sh w len key [] n prev ≡ record { cell = None; place = n; prev = prev }
  unfolding search_in
  search_none n prev = refl

  pub search_hit : (i n prev : ℕ) → has_key sh w i len key ≡ true → (l : List ℕ) → search_in sh w len key (i ∷ l) n prev ≡ record { cell = Some i; place = n + 1; prev = prev }
  unfolding search_in
  search_hit i n prev e l = rw e

  pub search_on : (i n prev : ℕ) → has_key sh w i len key ≡ false → (l : List ℕ) → search_in sh w len key (i ∷ l) n prev ≡ search_in sh w len key l (n + 1) i
  unfolding search_in
  search_on i n prev e l = rw e

  pub search_start : {h : ℕ} → Ends sh.limit (next_card sh w) h → Along sh.limit (next_card sh w) h (searched sh w h len key) h 0 (λ l. search_in sh w len key l 0 0)
  unfolding searched
  search_start e = along_start (λ l. search_in sh w len key l 0 0) e refl
