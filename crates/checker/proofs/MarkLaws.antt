-- Laws of marks. A mark is one bit of one byte: the mask 2 ^ j has bit j alone, so masking shows that bit (`test`), and setting it
-- sets that bit and leaves the others (`marked_same`, `marked_other`). Numbers below 8 * n have their bit in the first n
-- bytes, so marking leaves the bytes behind those as they were (`rest_marked`), and cleaning in the end shows nothing
-- of what was marked (`cleaned_again`).
use mathlib.Core.Path.{◌≡◌, sym, ap, subst, ◌∙◌}
use mathlib.Core.Bool.{true, false, not}
use mathlib.Core.Logic.{⊎_elim}
use mathlib.Core.List.{List, ◌++◌}
use Prim.Native.Nat.{ℕ, zero, suc, ◌+◌, ◌-◌, ◌*◌, ◌/◌, ◌%◌, ◌^◌, ◌<◌, ◌≤◌}
use native.Mathlib.Nat.{zero-mul, one-mul, div_self, div-eq_of_lt, pow-suc, mul-mod_left, zero-div}
use native.Mathlib.Omega.{arith}
use borrow.Author.Tests.{ne_eqb}
use lib.Bits.{bit_and, bit_or, and_high, or_shr, or_mod, or_zero_l, or_zero_r, or_self}
use lib.Pow.{pow_pos, pow-lt, pow-add, shl_exact, shl-shr, high_ones}
use lib.Dec.{eqb, lit<}
use lib.ListN.{length, get_or, set, drop, replicate, length-set, get_or-replicate, length-replicate, length-append, length-drop, get_or-append}
use lib.Seq.{get_or-set_same, get_or-set_other, drop-set-lt, drop_at}
use Rattle.rules.proofs.Tests.{eq?, lt?}
use Rattle.model.specs.Calls.{cleaned}
use Rattle.checker.specs.Marks.{bit_of, mark_at, marked_at}

-- the mask: 1 shifted by j, which a u8 holds
pub mask : (j : ℕ) → j < 8 → (1 * 2 ^ j) % 256 ≡ 2 ^ j
mask j h = shl_exact {a = 1} 1 j 8 (lit< tt) (omega arith) ∙ one-mul (2 ^ j)

-- masking leaves the bit at its place
pub and_bit : (b j : ℕ) → bit_and b (2 ^ j) ≡ bit_of b j * 2 ^ j
unfolding bit_of
and_bit b j = ap (bit_and b) (sym (high_ones 1 j ∙ one-mul (2 ^ j))) ∙ and_high b 1 j

bit_test : (x p : ℕ) → x < 2 → 0 < p → not (eqb (x * p) 0) ≡ eqb x 1
bit_test zero p h pos = ap (λ (n : ℕ). not (eqb n 0)) (zero-mul p)
bit_test (suc zero) p h pos = ap not (ne_eqb (1 * p) 0 (λ e. omega arith))
bit_test (suc (suc x)) p h pos = absurd (omega arith)

bit_lt : (b j : ℕ) → bit_of b j < 2
unfolding bit_of
bit_lt b j = omega arith

-- what a test of a mark computes
pub test : (bytes : List ℕ) (k : ℕ) → not (eqb (bit_and (get_or bytes (k / 8) 0) ((1 * 2 ^ (k % 8)) % 256)) 0) ≡ mark_at bytes k
unfolding mark_at
test bytes k =
    rw (mask (k % 8) (omega arith), and_bit (get_or bytes (k / 8) 0) (k % 8))
    (bit_test (bit_of (get_or bytes (k / 8) 0) (k % 8)) (2 ^ (k % 8)) (bit_lt _ _) (pow_pos (k % 8)))

or_one : (x : ℕ) → x < 2 → bit_or x 1 ≡ 1
or_one zero h = or_zero_l 1
or_one (suc zero) h = or_self 1
or_one (suc (suc x)) h = absurd (omega arith)

bit_or_lem : (b m i : ℕ) → bit_of (bit_or b m) i ≡ bit_or (bit_of b i) (bit_of m i)
unfolding bit_of
bit_or_lem b m i = ap (λ (n : ℕ). n % 2) (or_shr b m i) ∙ or_mod (b / 2 ^ i) (m / 2 ^ i) 1

one_bit_same : (j : ℕ) → bit_of (2 ^ j) j ≡ 1
unfolding bit_of
one_bit_same j = ap (λ (n : ℕ). n % 2) (div_self (pow_pos j))

one_bit_below : (i d : ℕ) → bit_of (2 ^ (suc d + i)) i ≡ 0
unfolding bit_of
one_bit_below i d = rw (pow-add 2 (suc d) i, shl-shr (2 ^ suc d) i, pow-suc 2 d) (mul-mod_left (2 ^ d) 2)

one_bit_above : (i j : ℕ) → j < i → bit_of (2 ^ j) i ≡ 0
unfolding bit_of
one_bit_above i j h = ap (λ (n : ℕ). n % 2) (div-eq_of_lt (pow-lt h))

one_bit_other : (i j : ℕ) → (i ≡ j → ⊥) → bit_of (2 ^ j) i ≡ 0
one_bit_other i j ne =
    ⊎_elim (λ (h : j < i). one_bit_above i j h)
    (λ (h : i ≤ j). subst (λ (n : ℕ). bit_of (2 ^ n) i ≡ 0) (let e : suc (j - i - 1) + i ≡ j = omega arith in e) (one_bit_below i (j - i - 1))) (lt? j i)

-- setting a bit sets it, and leaves the others
pub or_bit_same : (b j : ℕ) → bit_of (bit_or b (2 ^ j)) j ≡ 1
or_bit_same b j = rw (bit_or_lem b (2 ^ j) j, one_bit_same j) (or_one (bit_of b j) (bit_lt b j))

pub or_bit_other : (b i j : ℕ) → (i ≡ j → ⊥) → bit_of (bit_or b (2 ^ j)) i ≡ bit_of b i
or_bit_other b i j ne = rw (bit_or_lem b (2 ^ j) i, one_bit_other i j ne) (or_zero_r (bit_of b i))

module _ (bytes : List ℕ) (k : ℕ) where
  pub length_marked : length (marked_at bytes k) ≡ length bytes
  unfolding marked_at
  length_marked = length-set bytes (k / 8) _

  -- what stands behind the first bytes stays
  pub rest_marked : (n : ℕ) → k < 8 * n → drop n (marked_at bytes k) ≡ drop n bytes
  unfolding marked_at
  rest_marked n h = drop-set-lt n bytes (k / 8) _ (omega arith)

  pub marked_same : k / 8 < length bytes → mark_at (marked_at bytes k) k ≡ true
  unfolding mark_at marked_at
  marked_same h = rw (get_or-set_same bytes (k / 8) (bit_or (get_or bytes (k / 8) 0) (2 ^ (k % 8))) 0 h, or_bit_same (get_or bytes (k / 8) 0) (k % 8))

  pub marked_other : k / 8 < length bytes → (m : ℕ) → (m ≡ k → ⊥) → mark_at (marked_at bytes k) m ≡ mark_at bytes m
  unfolding mark_at marked_at
  marked_other h m ne =
      ⊎_elim (λ (e : m / 8 ≡ k / 8). byte e) (λ (n : m / 8 ≡ k / 8 → ⊥). ap (λ (b : ℕ). eqb (bit_of b (m % 8)) 1) (get_or-set_other bytes (k / 8) (m / 8) (bit_or (get_or bytes (k / 8) 0) (2 ^ (k % 8))) 0 n)) (eq? (m / 8) (k / 8))
    where
      byte : m / 8 ≡ k / 8 → eqb (bit_of (get_or (set bytes (k / 8) (bit_or (get_or bytes (k / 8) 0) (2 ^ (k % 8)))) (m / 8) 0) (m % 8)) 1 ≡ eqb (bit_of (get_or bytes (m / 8) 0) (m % 8)) 1
      byte e =
          rw (e, get_or-set_same bytes (k / 8) (bit_or (get_or bytes (k / 8) 0) (2 ^ (k % 8))) 0 h, or_bit_other (get_or bytes (k / 8) 0) (m % 8) (k % 8) (λ f. ne (omega arith)))

-- where the first n bytes are zero, none of their numbers is marked
zeros : (n : ℕ) (bytes : List ℕ) (k : ℕ) → k / 8 < n → mark_at (replicate n 0 ++ drop n bytes) k ≡ false
unfolding mark_at bit_of
zeros n bytes k h =
    rw (get_or-append (replicate n 0) (drop n bytes) 0 (k / 8) (subst (λ (l : ℕ). k / 8 < l) (sym (length-replicate n 0)) h), get_or-replicate {A = ℕ} n (k / 8) 0 0 h, zero-div (2 ^ (k % 8)))

-- what cleaning leaves
module _ (n : ℕ) (bytes : List ℕ) where
  pub rest_cleaned : drop n (cleaned n bytes) ≡ drop n bytes
  unfolding cleaned
  rest_cleaned = drop_at (replicate n 0) (drop n bytes) n (length-replicate {A = ℕ} n 0)

  pub length_cleaned : n ≤ length bytes → length (cleaned n bytes) ≡ length bytes
  unfolding cleaned
  length_cleaned h = omega (arith, length-append (replicate n 0) (drop n bytes), length-replicate {A = ℕ} n 0, length-drop n bytes)

  -- what is cleaned in the end does not show what was marked
  pub cleaned_again : {m : ℕ} → m ≡ n → (left : List ℕ) → drop n left ≡ drop n bytes → cleaned m left ≡ cleaned n bytes
  unfolding cleaned
  cleaned_again e left d = rw (e, d)

  -- nothing is marked there
  pub none_marked : (k : ℕ) → k < 8 * n → mark_at (cleaned n bytes) k ≡ false
  unfolding cleaned
  none_marked k h = zeros n bytes k (omega arith)
