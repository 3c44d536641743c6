-- What an accepted call does to a good store: it stays good, the card of each serial, every sum over the cards, and the shape. An entry
-- and a withdrawal are the step and then the load rule, which changes nothing that is held, so their laws are those of the step.
-- A fresh store is good and shows no card of any serial.
use Prim.Native.Nat.{ℕ, ◌+◌, ◌<◌}
use mathlib.Core.Path.{◌≡◌, refl, sym, ◌∙◌}
use mathlib.Core.List.{List, [], ◌∷◌, ◌++◌}
use mathlib.Core.Bool.{true, cond}
use native.Mathlib.Omega.{arith}
use lib.ListN.{length}
use Rattle.rules.proofs.Tests.{by_cases}
use Rattle.model.specs.Lists.{same, total}
use Rattle.model.specs.Serial.{serial_ok, valid_fault}
use Rattle.model.specs.Shape.{Shape}
use Rattle.model.specs.Model.{Card, Store, cards, held, faults_held, over, under, fresh, new_card, placed, split, grown, entered, filed, removed, contract, shrunk, withdrawn}
use Rattle.model.specs.Layout.{shape_ok}
use Rattle.model.proofs.Sums.{length_total}
use Rattle.model.proofs.Fair.{one, Fair, Good}
use Rattle.model.proofs.Look.{look, look_cards}
use Rattle.model.proofs.Steps.{placed_total, placed_look, placed_fair, filed_total, filed_fair, removed_total, removed_look, removed_fair}
use Rattle.model.proofs.Fresh.{fair_fresh}
use Rattle.model.proofs.Growth.{grown_total, grown_look, grown_good, shrunk_total, shrunk_look, shrunk_good}

-- the shape never changes

grown_shape : (s : Store) → (grown s).shape ≡ s.shape
unfolding grown split
grown_shape s = by_cases (over s) (λ e. rw e) (λ e. rw e)

shrunk_shape : (s : Store) → (shrunk s).shape ≡ s.shape
unfolding shrunk contract
shrunk_shape s = by_cases (under s) (λ e. rw e) (λ e. rw e)

pub entered_shape : (s : Store) (y : List ℕ) → (entered s y).shape ≡ s.shape
unfolding entered placed
entered_shape s y = grown_shape (placed s y)

pub filed_shape : (s : Store) (y : List ℕ) (day code : ℕ) → (filed s y day code).shape ≡ s.shape
unfolding filed
filed_shape s y day code = refl

pub withdrawn_shape : (s : Store) (y : List ℕ) → (withdrawn s y).shape ≡ s.shape
unfolding withdrawn removed
withdrawn_shape s y = shrunk_shape (removed s y)

-- the three calls that change a store

module _ (s : Store) (r : Fair s) (y : List ℕ) where
  module _ (valid : serial_ok y ≡ true) (new : look s y ≡ []) (room : held s < s.shape.limit) where
    pub entered_total : (w : Card → ℕ) → total w (cards (entered s y)) ≡ total w (cards s) + w (new_card s y)
    unfolding entered
    entered_total w = grown_total (placed s y) (placed_fair s r y valid new room) w ∙ placed_total s r y w

    pub entered_look : (x : List ℕ) → look (entered s y) x ≡ look s x ++ cond (same x y) (new_card s y ∷ []) []
    unfolding entered
    entered_look x = grown_look (placed s y) (placed_fair s r y valid new room) x ∙ placed_look s r y x

  pub withdrawn_total : (w : Card → ℕ) → total w (cards (withdrawn s y)) + total w (look s y) ≡ total w (cards s)
  unfolding withdrawn
  withdrawn_total w = omega (arith, shrunk_total (removed s y) (removed_fair s r y) w, removed_total s r y w)

  pub withdrawn_look : (x : List ℕ) → look (withdrawn s y) x ≡ cond (same y x) [] (look s x)
  unfolding withdrawn
  withdrawn_look x = shrunk_look (removed s y) (removed_fair s r y) x ∙ removed_look s r y x

-- as many cards more, by the sum of 1 over them
held_more : (s t : Store) (k : ℕ) → total one (cards t) ≡ total one (cards s) + k → held t ≡ held s + k
held_more s t k e = omega (arith, length_total (cards s), length_total (cards t))

module _ (s : Store) (g : Good s) (y : List ℕ) where
  pub entered_good : serial_ok y ≡ true → look s y ≡ [] → held s < s.shape.limit → Good (entered s y)
  unfolding entered placed
  entered_good valid new room =
      let n = held_more s (placed s y) 1 (placed_total s g.fair y one) in
      grown_good (placed s y) (placed_fair s g.fair y valid new room) (λ k. omega (arith, g.high k)) (λ h. omega (arith, g.low h))

  pub filed_good : (day code : ℕ) → valid_fault day code ≡ true → length (look s y) ≡ 1 → faults_held s < s.shape.fault_limit → Good (filed s y day code)
  unfolding filed
  filed_good day code valid held room =
      let n = held_more s (filed s y day code) 0 (filed_total s g.fair y day code one 0 (λ c. refl) held) in
      record { fair = filed_fair s g.fair y day code valid held room; high = λ k. omega (arith, g.high k); low = λ h. omega (arith, g.low h) }

  pub withdrawn_good : length (look s y) ≡ 1 → Good (withdrawn s y)
  unfolding withdrawn removed
  withdrawn_good held =
      let n = held_more (removed s y) s 1 (omega (arith, removed_total s g.fair y one, length_total (look s y))) in
      shrunk_good (removed s y) (removed_fair s g.fair y) (λ k. omega (arith, g.high k)) (λ h. omega (arith, g.low h))

-- a fresh store holds no card

pub fresh_good : (sh : Shape) → shape_ok sh ≡ true → Good (fresh sh)
unfolding fresh
fresh_good sh ok = record { fair = fair_fresh sh ok; high = λ h. omega arith; low = omega arith }

pub fresh_look : (sh : Shape) → shape_ok sh ≡ true → (x : List ℕ) → look (fresh sh) x ≡ []
unfolding fresh
fresh_look sh ok x = sym (look_cards (fresh sh) (fair_fresh sh ok) x)
