-- The card of a serial. In a fair store a card stands in the bucket of its address, so no other bucket has a card of that serial
-- (`elsewhere`), and what the serial's own chain shows, `look`, is what the whole store holds of it (`look_cards`), which is the card
-- itself for each card (`card_look`). A step that replaces one chain is judged by that chain alone (`look_chain`, `home_chain`).
use Prim.Native.Nat.{ℕ, zero, suc, ◌≤◌, ◌<◌}
use mathlib.Core.Path.{◌≡◌, refl, sym, ap, ◌∙◌}
use mathlib.Core.Logic.{◌≢◌, inl, inr}
use mathlib.Core.List.Memᴰ
use mathlib.Core.List.{List, [], ◌∷◌, Memᴰ}
use mathlib.Core.Bool.{Bool, true, false}
use native.Mathlib.Omega.{arith}
use lib.Dec.{eqb}
use lib.ListN.{length, get_or, set}
use borrow.Author.Tests.{eq-eqb, eqb-true, eqb-false}
use Rattle.rules.specs.Code.{code_of}
use Rattle.rules.specs.Table.{address_of}
use Rattle.rules.proofs.Tests.{by_cases, not_both, both, all_of}
use Rattle.rules.proofs.Addresses.{address_below}
use Rattle.model.specs.Lists.{all, same, keep, join, total}
use Rattle.model.specs.Serial.{serial_ok}
use Rattle.model.specs.Model.{Card, Store, cards, bucket, address_in, chain_for, is, found}
use Rattle.model.specs.Layout.{good_card}
use Rattle.model.proofs.Lists.{same_refl, same_eq, keep_none, keep_join, get_d_set}
use Rattle.model.proofs.Fair.{named, Fair, host_state, times_total}

-- the card of a serial, if it is held: what every answer is read off
abbrev pub look : Store → List ℕ → List Card
look s y = found y (chain_for s y)

-- what a good card tells of its address, and the same card at another address
pub card_address : (m p b : ℕ) (c : Card) → good_card m p b c ≡ true → address_of (code_of c.serial) m p ≡ b
unfolding good_card
card_address m p b c t =
    let h = both (serial_ok c.serial) _ t in
    eqb-true (address_of (code_of c.serial) m p) b (both (eqb (address_of (code_of c.serial) m p) b) _ h.1).0

pub card_moved : (m p b m' p' b' : ℕ) (c : Card) → address_of (code_of c.serial) m' p' ≡ b' → good_card m p b c ≡ true → good_card m' p' b' c ≡ true
unfolding good_card
card_moved m p b m' p' b' c e t =
    let h = both (serial_ok c.serial) _ t in
    all_of h.0 (all_of (eq-eqb _ b' e) (both (eqb (address_of (code_of c.serial) m p) b) _ h.1).1)

module _ (s : Store) (r : Fair s) where
  pub address_in_lem : (y : List ℕ) → address_in s y < length s.buckets
  address_in_lem y = omega (arith, address_below (code_of y) s.maxp s.p (host_state s r), r.number)

  -- no card of a serial stands in another bucket
  pub elsewhere : (x : List ℕ) (b : ℕ) → address_in s x ≢ b → keep (is x) (bucket s b) ≡ []
  elsewhere x b ne =
      keep_none (is x) (good_card s.maxp s.p b) (bucket s b)
      (λ c t. by_cases (is x c) (λ e. absurd (ne (rw (same_eq x c.serial e) (card_address s.maxp s.p b c t)))) (λ e. e))
      (r.addressed b)

  pub look_cards : (x : List ℕ) → keep (is x) (cards s) ≡ look s x
  look_cards x = keep_join (is x) s.buckets (address_in s x) (λ b n. elsewhere x b (λ e. n (sym e)))

  -- a serial is held once or not at all
  pub look_named : (x : List ℕ) → length (look s x) ≡ total (named x) (cards s)
  look_named x = rw (← (look_cards x)) (times_total x (cards s))

  pub look_once : (x : List ℕ) → length (look s x) ≤ 1
  look_once x = omega (arith, r.different x, look_named x)

  -- one chain replaced: the card of a serial, and where cards may stand
  pub look_chain : (x y : List ℕ) (l : List Card) (now : List Card)
      → (address_in s x ≡ address_in s y → keep (is x) l ≡ now) → (same x y ≡ false → look s x ≡ now)
      → keep (is x) (get_or (set s.buckets (address_in s y) l) (address_in s x) []) ≡ now
  look_chain x y l now here other =
      rw (get_d_set s.buckets (address_in s y) (address_in s x) l [] (address_in_lem y))
      (by_cases (eqb (address_in s x) (address_in s y)) (λ e. rw e (here (eqb-true (address_in s x) (address_in s y) e))) (λ e. rw e (other (apart e))))
    where
      -- serials at two addresses are two serials
      apart : eqb (address_in s x) (address_in s y) ≡ false → same x y ≡ false
      apart e =
          by_cases (same x y)
          (λ t. absurd (eqb-false (address_in s x) (address_in s y) e (rw (same_eq x y t) refl)))
          (λ t. t)

  pub home_chain : (y : List ℕ) (l : List Card) → all (good_card s.maxp s.p (address_in s y)) l ≡ true
      → (b : ℕ) → all (good_card s.maxp s.p b) (get_or (set s.buckets (address_in s y) l) b []) ≡ true
  home_chain y l h b =
      rw (get_d_set s.buckets (address_in s y) b l [] (address_in_lem y))
      (by_cases (eqb b (address_in s y)) (λ e. rw (e, eqb-true b (address_in s y) e) h) (λ e. rw e (r.addressed b)))

-- each card of a store

card_kept : (f : Card → Bool) (c : Card) (l : List Card) → Memᴰ c l → f c ≡ true → Memᴰ c (keep f l)
card_kept f c [] m e = absurd (Memᴰ.not-nil m)
card_kept f c (x ∷ l) m e =
    by_cases (f x)
    (λ k. rw k (elim (Memᴰ.cases_cons m) [ inl p ↦ Memᴰ.head p | inr q ↦ Memᴰ.tail (card_kept f c l q e) ]))
    (λ k. rw k (elim (Memᴰ.cases_cons m) [ inl p ↦ not_both e (ap f p ∙ k) | inr q ↦ card_kept f c l q e ]))

only : (c : Card) (l : List Card) → Memᴰ c l → length l ≤ 1 → l ≡ c ∷ []
only c [] m h = absurd (Memᴰ.not-nil m)
only c (x ∷ []) m h = rw (Memᴰ.eq_of_singleton m)
only c (x ∷ y ∷ l) m h = absurd (omega arith)

-- each card held is found by its serial
pub card_look : (s : Store) → Fair s → (c : Card) → Memᴰ c (cards s) → look s c.serial ≡ c ∷ []
card_look s r c m =
    only c (look s c.serial)
    (rw (look_cards s r c.serial) at (card_kept (is c.serial) c (cards s) m (same_refl c.serial)))
    (look_once s r c.serial)

-- each card stands in the bucket of its address
pub card_home : (s : Store) → Fair s → (b : ℕ) (c : Card) → Memᴰ c (bucket s b) → address_in s c.serial ≡ b
card_home s r b c m = card_address s.maxp s.p b c (go (bucket s b) (r.addressed b) m)
  where
    go : (l : List Card) → all (good_card s.maxp s.p b) l ≡ true → Memᴰ c l → good_card s.maxp s.p b c ≡ true
    go [] t m = absurd (Memᴰ.not-nil m)
    go (x ∷ l) t m =
        let h = both (good_card s.maxp s.p b x) (all (good_card s.maxp s.p b) l) t in
        elim (Memᴰ.cases_cons m) [ inl e ↦ rw e h.0 | inr k ↦ go l h.1 k ]

-- and is found there by its serial
pub card_found : (s : Store) → Fair s → (b : ℕ) (c : Card) → Memᴰ c (bucket s b) → look s c.serial ≡ c ∷ []
card_found s r b c m = card_look s r c (go s.buckets b m)
  where
    go : (bs : List (List Card)) (b : ℕ) → Memᴰ c (get_or bs b []) → Memᴰ c (join bs)
    go [] b m = absurd (Memᴰ.not-nil m)
    go (x ∷ bs) zero m = Memᴰ.append_left (join bs) m
    go (x ∷ bs) (suc b) m = Memᴰ.append_right x (go bs b m)
