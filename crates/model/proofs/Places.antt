-- Where word k of cell i stands, for cells of any width.
use mathlib.Core.Path.{◌≡◌, sym, ap}
use mathlib.Core.Logic.{◌⊎◌, inl, inr, ⊎_elim}
use Prim.Native.Nat.{ℕ, suc, ◌+◌, ◌-◌, ◌*◌, ◌/◌, ◌%◌, ◌≤◌, ◌<◌}
use native.Mathlib.Nat.{mul-le-mul_left, mod-lt, div-add-mod, div-lt_iff_lt-mul}
use native.Mathlib.Omega.{arith}
use Rattle.model.specs.Layout.{cell_at}
use Rattle.rules.proofs.Tests.{lt?}

module _ (base width : ℕ) where
  pub cell_at_from : (i k : ℕ) → base ≤ cell_at base width i k
  unfolding cell_at
  cell_at_from i k = omega arith

  -- cell i ends where the next one begins
  step : (i n : ℕ) → i < n → width * i + width ≤ width * n
  step i n h = let r : width * (i + 1) ≤ width * n = mul-le-mul_left width (omega arith) in omega arith

  pub cell_at_below : (n i k : ℕ) → 1 ≤ i → i ≤ n → k < width → cell_at base width i k < base + width * n
  unfolding cell_at
  cell_at_below n i k a b h = omega (arith, step (i - 1) n (omega arith))

  -- a whole cell fits
  pub cell_at_end : (n i : ℕ) → 1 ≤ i → i ≤ n → cell_at base width i 0 + width ≤ base + width * n
  unfolding cell_at
  cell_at_end n i a b = omega (arith, step (i - 1) n (omega arith))

  pub cell_at_word : (i j k l : ℕ) → i ≡ j → (k ≡ l → ⊥) → cell_at base width i k ≡ cell_at base width j l → ⊥
  unfolding cell_at
  cell_at_word i j k l e n p = n (let q : width * (i - 1) ≡ width * (j - 1) = ap (λ (m : ℕ). width * (m - 1)) e in omega arith)

  apart : (a b k l : ℕ) → a < b → k < width → base + width * a + k ≡ base + width * b + l → ⊥
  apart a b k l h p e = omega (arith, step a b h)

  pub cell_at_cell : (i j k l : ℕ) → 1 ≤ i → 1 ≤ j → k < width → l < width → (i ≡ j → ⊥) → cell_at base width i k ≡ cell_at base width j l → ⊥
  unfolding cell_at
  cell_at_cell i j k l a b p q n e =
      ⊎_elim (λ (h : i < j). apart (i - 1) (j - 1) k l (omega arith) p e) (λ (h : j ≤ i). apart (j - 1) (i - 1) l k (omega arith) q (sym e)) (lt? i j)

  -- a word of another cell stands before the cell or behind it
  pub cell_at_outside : (i j l : ℕ) → 1 ≤ i → 1 ≤ j → l < width → (j ≡ i → ⊥)
      → (cell_at base width j l < cell_at base width i 0) ⊎ (cell_at base width i 0 + width ≤ cell_at base width j l)
  unfolding cell_at
  cell_at_outside i j l a b q n =
      ⊎_elim (λ (h : j < i). inl (omega (arith, step (j - 1) (i - 1) (omega arith)))) (λ (h : i ≤ j). inr (omega (arith, step (i - 1) (j - 1) (omega arith)))) (lt? j i)

  pub cell_at_plus : (i k : ℕ) → cell_at base width i 0 + k ≡ cell_at base width i k
  unfolding cell_at
  cell_at_plus i k = omega arith

  -- every place of the part is a word of a cell
  pub cell_at_cover : (n m : ℕ) → 0 < width → base ≤ m → m < base + width * n → (i : ℕ) × (k : ℕ) × (1 ≤ i) × (i ≤ n) × (k < width) × (cell_at base width i k ≡ m)
  unfolding cell_at
  cell_at_cover n m w a b =
      let d = m - base in
      let q : d / width < n = (div-lt_iff_lt-mul w).1 (omega arith) in
      (suc (d / width), d % width, omega arith, q, mod-lt d w, omega (arith, div-add-mod d width, ap (λ (x : ℕ). width * x) (pred_suc (d / width))))
    where
      pred_suc : (x : ℕ) → suc x - 1 ≡ x
      pred_suc x = omega arith
