-- A chain cut at the card of a serial. Where at most one card of the chain has the serial, the cards before it, the card and the cards
-- after it are the chain; and what the definitions say over the whole chain, `found`, `without`, `noted`, touches that card alone.
-- So code that walks to the first match, stops there and changes it does what the definitions say. Cite `absent` or
-- `present`, by which of them is known.
use Prim.Native.Nat.{ℕ, ◌+◌, ◌≤◌}
use mathlib.Core.Path.{◌≡◌, refl, ap}
use mathlib.Core.Logic.{◌⊎◌, inl, inr}
use mathlib.Core.List.{List, [], ◌∷◌, ◌++◌}
use mathlib.Core.Bool.{true, false}
use native.Mathlib.Omega.{arith}
use lib.ListN.{length}
use Rattle.rules.proofs.Tests.{by_cases}
use Rattle.model.specs.Model.{Fault, Card, is, found, before, comparisons, with_fault, noted, without}
use Rattle.model.proofs.Lists.{length_none}

-- no card has the serial
pub record Absent (y : List ℕ) (chain : List Card) : Type 0 where
  pub none : found y chain ≡ []
  pub whole : before y chain ≡ chain
  pub without_none : without y chain ≡ chain
  pub noted_none : (f : Fault) → noted f y chain ≡ chain
  pub place : comparisons y chain ≡ length chain

-- one card has it
pub record Present (y : List ℕ) (chain : List Card) : Type 0 where
  pub card : Card
  pub after : List Card
  pub parts : chain ≡ before y chain ++ (card ∷ after)
  pub named : is y card ≡ true
  pub only : found y chain ≡ card ∷ []
  pub without_it : without y chain ≡ before y chain ++ after
  pub noted_it : (f : Fault) → noted f y chain ≡ before y chain ++ (with_fault f card ∷ after)
  pub place : comparisons y chain ≡ length (before y chain) + 1

module _ (y : List ℕ) where
  pub absent : (chain : List Card) → found y chain ≡ [] → Absent y chain
  unfolding comparisons
  absent [] e = record { none = refl; whole = refl; without_none = refl; noted_none = λ f. refl; place = refl }
  absent (c ∷ cs) e =
      by_cases (is y c)
      (λ k. absurd (let z = ap length (rw k at e) in omega arith))
      (λ k. let a = absent cs (rw k at e) in
      record {
        none = e;
        whole = rw k (ap (λ (l : List Card). c ∷ l) a.whole);
        without_none = rw k (ap (λ (l : List Card). c ∷ l) a.without_none);
        noted_none = λ f. rw k (ap (λ (l : List Card). c ∷ l) (a.noted_none f));
        place = rw (k, a.none, a.whole) (omega arith);
      })

  here : (c : Card) (cs : List Card) → is y c ≡ true → found y cs ≡ [] → Present y (c ∷ cs)
  unfolding comparisons
  here c cs k e =
      let a = absent cs e in
      record {
        card = c;
        after = cs;
        parts = rw k;
        named = k;
        only = rw (k, e);
        without_it = rw k a.without_none;
        noted_it = λ f. rw k (ap (λ (l : List Card). with_fault f c ∷ l) (a.noted_none f));
        place = rw (k, e);
      }

  later : (c : Card) (cs : List Card) → is y c ≡ false → Present y cs → Present y (c ∷ cs)
  unfolding comparisons
  later c cs k p =
      record {
        card = p.card;
        after = p.after;
        parts = rw k (ap (λ (l : List Card). c ∷ l) p.parts);
        named = p.named;
        only = rw k p.only;
        without_it = rw k (ap (λ (l : List Card). c ∷ l) p.without_it);
        noted_it = λ f. rw k (ap (λ (l : List Card). c ∷ l) (p.noted_it f));
        place = rw k (omega (arith, p.place));
      }

  pub cut : (chain : List Card) → length (found y chain) ≤ 1 → Absent y chain ⊎ Present y chain
  cut [] h = inl (absent [] refl)
  cut (c ∷ cs) h = by_cases (is y c) (λ k. inr (here c cs k (length_none (found y cs) (omega (arith, rw k at h))))) (λ k. go k (cut cs (rw k at h)))
    where
      go : is y c ≡ false → Absent y cs ⊎ Present y cs → Absent y (c ∷ cs) ⊎ Present y (c ∷ cs)
      go k (inl a) = inl (absent (c ∷ cs) (rw k a.none))
      go k (inr p) = inr (later c cs k p)

  pub present : (chain : List Card) → length (found y chain) ≡ 1 → Present y chain
  present chain e = go (cut chain (omega arith))
    where
      go : Absent y chain ⊎ Present y chain → Present y chain
      go (inl a) = absurd (omega (arith, ap length a.none))
      go (inr p) = p
