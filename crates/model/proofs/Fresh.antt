-- A fresh store is fair (`fair_fresh`), since its free chains are the cells 1 to the last and there is no card; so its encoding is sound
-- (`fresh_sound`).
use mathlib.Core.Path.{◌≡◌, refl, sym, ap, subst}
use mathlib.Core.Logic.{⊎_elim}
use mathlib.Core.List.{List, [], ◌++◌, map, append-nil}
use mathlib.Core.Bool.{true}
use Prim.Native.Nat.{ℕ, zero, suc, ◌+◌, ◌≤◌, ◌<◌}
use native.Mathlib.Omega.{arith}
use lib.ListN.{length, get_or, replicate}
use Rattle.rules.specs.Table.{least}
use Rattle.rules.proofs.States.{s16, state_ok_lem}
use Rattle.rules.proofs.Tests.{eq?}
use Rattle.model.specs.Lists.{from}
use Rattle.model.specs.Shape.{Shape, card_width}
use Rattle.model.specs.Model.{Card, fresh}
use Rattle.model.specs.Layout.{Cell, fault_width, free_cell, shape_ok, encode, sound}
use Rattle.model.proofs.Sums.{bit_same, bit_other}
use Rattle.model.proofs.Each.{many, Each}
use Rattle.model.proofs.Shapes.{entries_some}
use Rattle.model.proofs.Fair.{Fair}
use Rattle.model.proofs.Sound.{good_sound}

-- the free cells a to a + n - 1

module _ (width : ℕ) where
  cells : ℕ → ℕ → List Cell
  cells a n = map (free_cell width) (from a n)

  low : (a n i : ℕ) → i < a → many i (cells a n) ≡ 0
  unfolding cells free_cell
  low a zero i h = refl
  low a (suc n) i h = omega (arith, bit_other i a (omega arith), low (suc a) n i (omega arith))

  once : (a n i : ℕ) → many i (cells a n) ≤ 1
  unfolding cells free_cell
  once a zero i = omega arith
  once a (suc n) i =
      ⊎_elim (λ (e : i ≡ a). omega (arith, bit_same i a e, low (suc a) n i (omega arith))) (λ (d : i ≡ a → ⊥). omega (arith, bit_other i a d, once (suc a) n i)) (eq? i a)

  inside : (a n i : ℕ) → 0 < many i (cells a n) → (a ≤ i) × (i < a + n)
  unfolding cells free_cell
  inside a zero i h = absurd (omega arith)
  inside a (suc n) i h =
      ⊎_elim (λ (e : i ≡ a). (omega arith, omega arith)) (λ (d : i ≡ a → ⊥). let r = inside (suc a) n i (omega (arith, bit_other i a d)) in (omega (arith, r.0), omega (arith, r.1))) (eq? i a)

  count : (a n : ℕ) → length (cells a n) ≡ n
  unfolding cells
  count a zero = refl
  count a (suc n) = ap suc (count (suc a) n)

  each_from : (n : ℕ) → Each n (map (free_cell width) (from 1 n) ++ [])
  unfolding cells
  each_from n =
      subst (Each n) (sym (append-nil (cells 1 n)))
      (record { once = once 1 n; inside = λ i h. let r = inside 1 n i h in (r.0, omega (arith, r.1)); count = count 1 n })

-- an empty bucket, at every place
none : (n b : ℕ) → ◌≡◌ {A = List Card} (get_or (replicate n []) b []) []
none zero b = refl
none (suc n) zero = refl
none (suc n) (suc b) = none n b

pub fair_fresh : (sh : Shape) → shape_ok sh ≡ true → Fair (fresh sh)
unfolding fresh
fair_fresh sh l = record {
  shape = l;
  state = state_ok_lem (record { size = s16; below = omega arith; room = omega (arith, entries_some sh) });
  number = refl;
  cells = each_from (card_width sh) sh.limit;
  fault_cells = each_from fault_width sh.fault_limit;
  addressed = λ b. rw (none least b);
  different = λ y. omega arith;
}

pub fresh_sound : (sh : Shape) → shape_ok sh ≡ true → sound (encode (fresh sh)) ≡ true
unfolding fresh
fresh_sound sh l = good_sound (fresh sh) (record { fair = fair_fresh sh l; high = λ h. omega arith; low = omega arith })
