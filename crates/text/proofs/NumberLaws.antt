-- Number fields: the test digit by digit, what a passed test tells, and the value with one digit more. Assumes nothing.
use Prim.Native.Nat.{ℕ, ◌+◌, ◌-◌, ◌*◌, ◌^◌, ◌≤◌, ◌<◌}
use mathlib.Core.Path.{◌≡◌, refl}
use Rattle.std.proofs.lemmas.List.Recursion.{and_at}
use mathlib.Core.List.{List}
use mathlib.Core.Bool.{Bool, true}
use native.Mathlib.Nat.{pow-succ', pow-le-pow_right}
use native.Mathlib.Numerals.{add-one}
use native.Mathlib.Omega.{arith}
use lib.ListN.{length, drop, get_or, drop_of_length-le}
use lib.Seq.{drop-cons}
use Rattle.rules.proofs.Tests.{both}
use Rattle.model.specs.Lists.{between, all}
use Rattle.model.specs.Text.{is_number, value_from}
use Rattle.model.proofs.Lists.{between_is}

all_at : (p : ℕ → Bool) (l : List ℕ) (i : ℕ) → i < length l → all p l ≡ true → p (get_or l i 0) ≡ true
all_at p l i = and_at (all p) p refl (λ _ _. refl) l i 0

-- a number field has 1 to 9 bytes, each a digit
pub number_long : (f : List ℕ) → is_number f ≡ true → (1 ≤ length f) × (length f ≤ 9)
unfolding is_number
number_long f e = (between_is 1 9 (length f)).0 (both (between 1 9 (length f)) (all (between 48 57) f) e).0

pub number_digit : (f : List ℕ) (i : ℕ) → is_number f ≡ true → i < length f → (48 ≤ get_or f i 0) × (get_or f i 0 ≤ 57)
unfolding is_number
number_digit f i e h =
    (between_is 48 57 (get_or f i 0)).0 (all_at (between 48 57) f i h (both (between 1 9 (length f)) (all (between 48 57) f) e).1)

-- the value with one digit more is that of the digits left
module _ (f : List ℕ) (i v : ℕ) where
  pub value_more : i < length f → value_from (10 * v + (get_or f i 0 - 48)) (drop (i + 1) f) ≡ value_from v (drop i f)
  unfolding value_from
  value_more h = rw (drop-cons f i 0 h, add-one i)

  pub value_end : length f ≤ i → value_from v (drop i f) ≡ v
  unfolding value_from
  value_end h = rw (drop_of_length-le f h)

-- i digits make a value below 10 ^ i
pub value_below : (i : ℕ) → i ≤ 8 → 10 ^ i ≤ 100000000
value_below i h = pow-le-pow_right {n = 10} (omega arith) h

pub value_grows : (i v d : ℕ) → v < 10 ^ i → d ≤ 57 → 10 * v + (d - 48) < 10 ^ (i + 1)
value_grows i v d h k = rw (add-one i, pow-succ' 10 i) (omega arith)
