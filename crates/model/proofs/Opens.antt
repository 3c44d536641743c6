-- Open, in numbers: each number that it gives, exactly when, by its terms and the length of the words (`open_says`), and what stands in the header of the words
-- that it leaves once it is accepted (`opened_words`), and in the store that they stand for (`opened_store`).
use Prim.Native.Nat.{ℕ, ◌+◌, ◌*◌}
use mathlib.Core.Path.{◌≡◌, refl}
use mathlib.Core.Logic.{◌↔◌}
use mathlib.Core.List.{List, [], ◌∷◌, Memᴰ}
use mathlib.Core.Bool.{true, false}
use native.Mathlib.Omega.{arith}
use lib.ListN.{length, get_or, replicate}
use Rattle.rules.proofs.Tests.{not_both}
use Rattle.model.specs.Lists.{from}
use Rattle.model.specs.Shape.{entries, card_width}
use Rattle.model.specs.Model.{Store, fresh}
use Rattle.model.specs.Layout.{limits_ok, bounds_ok, cards_at, faults_at, length_for, bounds_word, rule_word, header, front, encode, decode}
use Rattle.model.specs.Calls.{Terms, shape_for, open_call}
use Rattle.model.proofs.Shapes.{LimitsMean, limits_mean, BoundsMean, bounds_mean}
use Rattle.model.proofs.Fresh.{fair_fresh}
use Rattle.model.proofs.Numbers.{hit, miss}
use Rattle.model.proofs.Outcomes.{read_back, open_cases, opened_fresh}

-- the terms that Open takes
abbrev pub LimitsFit : Terms → Type 0
LimitsFit t = LimitsMean t.cards t.faults

abbrev pub BoundsFit : Terms → Type 0
BoundsFit t = BoundsMean t.upper t.lower

-- the words that a store of these terms stands in: a header of 16, a directory of 16, 256 buckets, 9 a card and 3 a fault
abbrev pub words_for : Terms → ℕ
words_for t = 288 + 9 * t.cards + 3 * t.faults

pub record OpenSays (w : List ℕ) (t : Terms) (k : ℕ) : Type 0 where
  pub limits : (k ≡ 1) ↔ (LimitsFit t → ⊥)
  pub bounds : (k ≡ 15) ↔ (LimitsFit t × (BoundsFit t → ⊥))
  pub long : (k ≡ 2) ↔ (LimitsFit t × BoundsFit t × (length w ≡ words_for t → ⊥))
  pub done : (k ≡ 0) ↔ (LimitsFit t × BoundsFit t × (length w ≡ words_for t))
  pub none_else : Memᴰ k (1 ∷ 15 ∷ 2 ∷ 0 ∷ [])

module _ (w : List ℕ) (t : Terms) where
  limits_no : limits_ok (shape_for t) ≡ false → LimitsFit t → ⊥
  unfolding shape_for
  limits_no e m = not_both ((limits_mean (shape_for t)).1 m) e

  bounds_no : bounds_ok (shape_for t) ≡ false → BoundsFit t → ⊥
  unfolding shape_for
  bounds_no e m = not_both ((bounds_mean (shape_for t)).1 m) e

  limits_yes : limits_ok (shape_for t) ≡ true → LimitsFit t
  unfolding shape_for
  limits_yes e = (limits_mean (shape_for t)).0 e

  bounds_yes : bounds_ok (shape_for t) ≡ true → BoundsFit t
  unfolding shape_for
  bounds_yes e = (bounds_mean (shape_for t)).0 e

  pub open_says : OpenSays w t (open_call w t).number
  unfolding shape_for entries card_width cards_at faults_at length_for
  open_says =
      open_cases w t (λ r. OpenSays w t r.number)
      (λ v. let no = limits_no v in record {
        limits = hit refl no;
        bounds = miss (omega arith) (λ c. no c.0);
        long = miss (omega arith) (λ c. no c.0);
        done = miss (omega arith) (λ c. no c.0);
        none_else = Memᴰ.head refl;
      })
      (λ v u. let l = limits_yes v in let no = bounds_no u in record {
        limits = miss (omega arith) (λ c. c l);
        bounds = hit refl (l, no);
        long = miss (omega arith) (λ c. no c.1);
        done = miss (omega arith) (λ c. no c.1);
        none_else = Memᴰ.tail (Memᴰ.head refl);
      })
      (λ ok v n. let l = limits_yes v.limits in let b = bounds_yes v.bounds in record {
        limits = miss (omega arith) (λ c. c l);
        bounds = miss (omega arith) (λ c. c.1 b);
        long = hit refl (l, b, n);
        done = miss (omega arith) (λ c. n c.2);
        none_else = Memᴰ.tail (Memᴰ.tail (Memᴰ.head refl));
      })
      (λ ok v n. let l = limits_yes v.limits in let b = bounds_yes v.bounds in record {
        limits = miss (omega arith) (λ c. c l);
        bounds = miss (omega arith) (λ c. c.1 b);
        long = miss (omega arith) (λ c. c.2 n);
        done = hit refl (l, b, n);
        none_else = Memᴰ.tail (Memᴰ.tail (Memᴰ.tail (Memᴰ.head refl)));
      })

-- the header of a fresh store: format 2, the limits, sixteen buckets, nothing held, the offsets and the whole length, the bounds as 256 U + L, and 0
pub record FreshHeader (t : Terms) (w : List ℕ) : Type 0 where
  pub format : get_or w 0 0 ≡ 2
  pub limits : (get_or w 1 0 ≡ t.cards) × (get_or w 2 0 ≡ t.faults)
  pub buckets : (get_or w 3 0 ≡ 16) × (get_or w 4 0 ≡ 0)
  pub none_held : (get_or w 5 0 ≡ 0) × (get_or w 6 0 ≡ 0)
  pub offsets : (get_or w 9 0 ≡ 16) × (get_or w 10 0 ≡ 32) × (get_or w 11 0 ≡ 288) × (get_or w 12 0 ≡ 288 + 9 * t.cards)
  pub whole_length : get_or w 13 0 ≡ words_for t
  pub bounds : get_or w 14 0 ≡ 256 * t.upper + t.lower
  pub rule : get_or w 15 0 ≡ 0

pub opened_words : (w : List ℕ) (t : Terms) → (open_call w t).number ≡ 0 → FreshHeader t (open_call w t).words
unfolding shape_for fresh entries card_width cards_at faults_at length_for bounds_word rule_word header front encode
opened_words w t z =
    rw (opened_fresh w t z).1
    (record {
      format = refl;
      limits = (refl, refl);
      buckets = (refl, refl);
      none_held = (refl, refl);
      offsets = (refl, refl, refl, refl);
      whole_length = refl;
      bounds = refl;
      rule = refl;
    })

-- and the store that they stand for: sixteen empty buckets, the free cells in rising order
pub record FreshStore (t : Terms) (s : Store) : Type 0 where
  pub buckets : s.buckets ≡ replicate 16 []
  pub free : s.free ≡ from 1 t.cards
  pub free_faults : s.free_faults ≡ from 1 t.faults

pub opened_store : (w : List ℕ) (t : Terms) → (open_call w t).number ≡ 0 → FreshStore t (decode (open_call w t).words)
unfolding shape_for fresh
opened_store w t z =
    let q = opened_fresh w t z in
    rw (q.1, read_back (fresh (shape_for t)) (fair_fresh (shape_for t) q.0)) (record { buckets = refl; free = refl; free_faults = refl })
