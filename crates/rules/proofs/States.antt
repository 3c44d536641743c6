-- What a good state is, taken apart and put together. Assumes nothing.
use Rattle.std.proofs.Common.{◌≡◌, ℕ, ◌+◌, ◌*◌, ◌/◌, ◌<◌, ◌≤◌, Bool, true, false, ◌||◌, eqb, refl, arith, ltb-true, lt-ltb, eqb-true, le-leb, leb-true}
use mathlib.Core.Bool.{false≢true}
use Rattle.rules.specs.Table.{size_ok, state_ok}
use Rattle.rules.proofs.Tests.{both}

-- the five sizes
pub data Size : ℕ → Type 0 where
  s16 : Size 16
  s32 : Size 32
  s64 : Size 64
  s128 : Size 128
  s256 : Size 256

-- the test of a size says that it is one of the five
pub size_ok_lem : {m : ℕ} → Size m → size_ok m ≡ true
unfolding size_ok
size_ok_lem s16 = refl
size_ok_lem s32 = refl
size_ok_lem s64 = refl
size_ok_lem s128 = refl
size_ok_lem s256 = refl

five : (m : ℕ) (a b c d e : Bool) → eqb m 16 ≡ a → eqb m 32 ≡ b → eqb m 64 ≡ c → eqb m 128 ≡ d → eqb m 256 ≡ e
    → (a || b || c || d || e) ≡ true → Size m
five m true b c d e p q r s t h = rw (eqb-true m 16 p) s16
five m false true c d e p q r s t h = rw (eqb-true m 32 q) s32
five m false false true d e p q r s t h = rw (eqb-true m 64 r) s64
five m false false false true e p q r s t h = rw (eqb-true m 128 s) s128
five m false false false false true p q r s t h = rw (eqb-true m 256 t) s256
five m false false false false false p q r s t h = absurd (false≢true h)

pub ok_size : (m : ℕ) → size_ok m ≡ true → Size m
unfolding size_ok
ok_size m h = five m _ _ _ _ _ refl refl refl refl refl h

-- the bounds of a size, and its double and half
pub size_low : {m : ℕ} → Size m → 16 ≤ m
size_low s16 = omega arith
size_low s32 = omega arith
size_low s64 = omega arith
size_low s128 = omega arith
size_low s256 = omega arith

pub size_top : {m : ℕ} → Size m → m ≤ 256
size_top s16 = omega arith
size_top s32 = omega arith
size_top s64 = omega arith
size_top s128 = omega arith
size_top s256 = omega arith

pub size_double : {m : ℕ} → Size m → m ≤ 128 → Size (2 * m)
size_double s16 h = s32
size_double s32 h = s64
size_double s64 h = s128
size_double s128 h = s256
size_double s256 h = absurd (omega arith)

pub size_half : {m : ℕ} → Size m → 16 < m → Size (m / 2) × (2 * (m / 2) ≡ m)
size_half s16 h = absurd (omega arith)
size_half s32 h = (s16, refl)
size_half s64 h = (s32, refl)
size_half s128 h = (s64, refl)
size_half s256 h = (s128, refl)

-- a good state of a table of at most t buckets
pub record State (t m p : ℕ) : Type 0 where
  pub size : Size m
  pub below : p < m
  pub room : m + p ≤ t

pub state_of : (t m p : ℕ) → state_ok t m p ≡ true → State t m p
unfolding state_ok
state_of t m p h =
    let e = both _ _ h in
    let u = both _ _ e.1 in
    record { size = ok_size m e.0; below = ltb-true p m u.0; room = leb-true (m + p) t u.1 }

pub state_ok_lem : {t m p : ℕ} → State t m p → state_ok t m p ≡ true
unfolding state_ok
state_ok_lem {t} {m} {p} g = simp (size_ok_lem g.size, lt-ltb p m g.below, le-leb (m + p) t g.room)

-- a state of a small table is one of a larger table
pub state_wider : (t u m p : ℕ) → t ≤ u → state_ok t m p ≡ true → state_ok u m p ≡ true
state_wider t u m p l h =
    let g = state_of t m p h in
    state_ok_lem (record { size = g.size; below = g.below; room = omega (arith, g.room) })
