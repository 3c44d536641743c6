-- A key compared word by word: one word that differs decides (`key_differs`), and where all four agree the length does (`key_agrees`).
-- Two cards are compared as one of them with the other's key (`key_same`, `same_differs`).
use mathlib.Core.Path.{◌≡◌, refl, sym, ap, ◌∙◌}
use mathlib.Core.Bool.{Bool, false, ◌&&◌}
use mathlib.Core.List.{List}
use Prim.Native.Nat.{ℕ, zero, suc, ◌+◌, ◌≤◌, ◌<◌}
use native.Mathlib.Omega.{arith}
use borrow.Author.Tests.{eqb-true, eqb-false, eq-eqb}
use lib.Dec.{eqb}
use lib.ListN.{get_or}
use Rattle.rules.proofs.Tests.{by_cases, both, and_true}
use Rattle.model.specs.Shape.{Shape}
use Rattle.model.specs.Layout.{to_length, to_serial, serial_words, card_word}
use Rattle.model.proofs.Lists.{all_from, from_all}
use Rattle.reads.specs.Cells.{key_at, same_key}
use Rattle.reads.specs.Chains.{has_key}

-- the words of a key from the k-th on are those of card i
pub record KeyFrom (sh : Shape) (w : List ℕ) (i : ℕ) (key : List ℕ) (k : ℕ) : Type 0 where
  pub agree : (m : ℕ) → k ≤ m → m < serial_words → card_word sh w i (m + to_serial) ≡ get_or key m 0

module _ (sh : Shape) (w : List ℕ) (i : ℕ) (key : List ℕ) where
  abbrev pub word_agrees : ℕ → Bool
  word_agrees k = eqb (card_word sh w i (k + to_serial)) (get_or key k 0)

  pub key_differs : (len k : ℕ) → k < serial_words → (card_word sh w i (k + to_serial) ≡ get_or key k 0 → ⊥) → has_key sh w i len key ≡ false
  unfolding has_key
  key_differs len k l d =
      by_cases (has_key sh w i len key)
      (λ e. absurd (d (eqb-true _ _ (all_from word_agrees 0 serial_words (both (eqb (card_word sh w i to_length) len) _ e).1 k (omega arith) l))))
      (λ e. e)

  pub key_unlike : (len : ℕ) → (k : ℕ) × (k < serial_words) × (word_agrees k ≡ false) → has_key sh w i len key ≡ false
  key_unlike len u = key_differs len u.0 u.1 (eqb-false _ _ u.2)

  pub key_agrees : (len k : ℕ) → k ≤ 0 → KeyFrom sh w i key k → has_key sh w i len key ≡ eqb (card_word sh w i to_length) len
  unfolding has_key
  key_agrees len k z q =
      let t = from_all word_agrees 0 serial_words (λ m l h. eq-eqb _ _ (q.agree m (omega arith) h)) in
      ap (λ (b : Bool). eqb (card_word sh w i to_length) len && b) t ∙ and_true (eqb (card_word sh w i to_length) len)

  pub key_alike : (len : ℕ) → ((k : ℕ) → k < serial_words → card_word sh w i (k + to_serial) ≡ get_or key k 0) → has_key sh w i len key ≡ eqb (card_word sh w i to_length) len
  key_alike len e = key_agrees len 0 (omega arith) (record { agree = λ m l h. e m h })

module _ (sh : Shape) (w : List ℕ) (i j : ℕ) where
  pub key_same : has_key sh w i (card_word sh w j to_length) (key_at sh w j) ≡ same_key sh w i j
  unfolding has_key same_key
  key_same = rw (and_true (eqb (card_word sh w i (to_serial + 3)) (card_word sh w j (to_serial + 3))))

  -- a word of the key is the card's
  key_word : (k : ℕ) → k < serial_words → get_or (key_at sh w j) k 0 ≡ card_word sh w j (k + to_serial)
  key_word zero h = refl
  key_word (suc zero) h = refl
  key_word (suc (suc zero)) h = refl
  key_word (suc (suc (suc zero))) h = refl
  key_word (suc (suc (suc (suc k)))) h = absurd (omega arith)

  pub same_differs : (k : ℕ) → k < serial_words → (card_word sh w i (k + to_serial) ≡ card_word sh w j (k + to_serial) → ⊥) → same_key sh w i j ≡ false
  same_differs k h d = sym key_same ∙ key_differs sh w i (key_at sh w j) (card_word sh w j to_length) k h (λ e. d (e ∙ key_word k h))
