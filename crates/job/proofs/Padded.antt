-- A field copied over sixteen zero bytes is the serial as it travels. Assumes nothing.
use Prim.Native.Nat.{ℕ, zero, suc, ◌≤◌, min}
use mathlib.Core.Path.{◌≡◌, refl, sym, ap}
use mathlib.Core.List.{List, [], ◌∷◌, ◌++◌}
use native.Mathlib.Omega.{arith}
use lib.ListN.{length, take, drop, replicate}
use Rattle.model.specs.Serial.{most_bytes}
use Rattle.model.specs.Job.{padded}

-- the first m bytes of a field with zeros behind it
take_zeros : (m k : ℕ) → m ≤ k → take {A = ℕ} m (replicate k 0) ≡ replicate m 0
take_zeros zero k h = refl
take_zeros (suc m) zero h = absurd (omega arith)
take_zeros (suc m) (suc k) h = ap (λ (l : List ℕ). 0 ∷ l) (take_zeros m k (omega arith))

behind : (f : List ℕ) (n m k : ℕ) → m ≤ k → n ≡ min (length f) m → take n f ++ drop n (replicate m 0) ≡ take m (f ++ replicate k 0)
behind [] n m k h e = let z : n ≡ 0 = omega arith in rw z (sym (take_zeros m k h))
behind (x ∷ f) zero m k h e = let z : m ≡ 0 = omega arith in rw z
behind (x ∷ f) (suc n) zero k h e = absurd (omega arith)
behind (x ∷ f) (suc n) (suc m) k h e = ap (λ (l : List ℕ). x ∷ l) (behind f n m k (omega arith) (omega arith))

pub padded_is : (f : List ℕ) (n : ℕ) → n ≡ min (length f) most_bytes → take n f ++ drop n (replicate most_bytes 0) ≡ padded f
unfolding padded
padded_is f n e = behind f n most_bytes most_bytes (omega arith) e
