-- The digits of a number: `decimal_small` and `decimal_more` take the last digit off, `decimal_least` and `decimal_long` tell
-- how many there are. Assumes nothing.
use Prim.Native.Nat.{ℕ, zero, suc, ◌+◌, ◌/◌, ◌%◌, ◌^◌, ◌≤◌, ◌<◌}
use mathlib.Core.Path.{◌≡◌, refl, sym, ap, ◌∙◌}
use mathlib.Core.List.{List, [], ◌∷◌, ◌++◌, append_assoc}
use native.Mathlib.Nat.{pow-succ'}
use native.Mathlib.Omega.{arith}
use lib.Dec.{ltb}
use lib.ListN.{length, length-append}
use borrow.Author.Tests.{lt-ltb, le-ltb}
use Rattle.rules.proofs.Tests.{by_cases, lt?}
use mathlib.Core.Logic.{⊎_elim}
use Rattle.model.specs.Text.{digits, decimal}

-- what stands behind the digits
digits_behind : (fuel n : ℕ) (acc : List ℕ) → digits fuel n acc ≡ digits fuel n [] ++ acc
unfolding digits
digits_behind zero n acc = refl
digits_behind (suc fuel) n acc =
    by_cases (ltb n 10)
    (λ e. rw e)
    (λ e. rw (e, digits_behind fuel (n / 10) ((48 + n % 10) ∷ acc), digits_behind fuel (n / 10) ((48 + n % 10) ∷ []), append_assoc))

-- fuel for as many digits as there are is enough
digits_fuel : (fuel n : ℕ) (acc : List ℕ) → n < 10 ^ suc fuel → digits (suc (suc fuel)) n acc ≡ digits (suc fuel) n acc
unfolding digits
digits_fuel zero n acc h = let e = lt-ltb n 10 h in rw e
digits_fuel (suc fuel) n acc h =
    by_cases (ltb n 10) (λ e. rw e)
    (λ e. rw e (digits_fuel fuel (n / 10) ((48 + n % 10) ∷ acc) (omega (arith, pow-succ' 10 (suc fuel)))))

-- there are digits
digits_least : (fuel n : ℕ) (acc : List ℕ) → length acc ≤ length (digits fuel n acc)
unfolding digits
digits_least zero n acc = omega arith
digits_least (suc fuel) n acc =
    by_cases (ltb n 10) (λ e. rw e (omega arith)) (λ e. rw e (omega (arith, digits_least fuel (n / 10) ((48 + n % 10) ∷ acc))))

digits_some : (fuel n : ℕ) (acc : List ℕ) → 0 < length (digits (suc fuel) n acc)
unfolding digits
digits_some fuel n acc =
    by_cases (ltb n 10) (λ e. rw e (omega arith)) (λ e. rw e (omega (arith, digits_least fuel (n / 10) ((48 + n % 10) ∷ acc))))

-- the last digit
digits_one : (fuel n : ℕ) → n < 10 → digits (suc fuel) n [] ≡ (48 + n) ∷ []
unfolding digits
digits_one fuel n h = rw (lt-ltb n 10 h)

digits_step : (fuel n : ℕ) → 10 ≤ n → digits (suc fuel) n [] ≡ digits fuel (n / 10) ((48 + n % 10) ∷ [])
unfolding digits
digits_step fuel n h = rw (le-ltb n 10 h)

digits_last : (fuel n : ℕ) → 10 ≤ n → n < 10 ^ suc (suc fuel) → digits (suc (suc fuel)) n [] ≡ digits (suc (suc fuel)) (n / 10) [] ++ ((48 + n % 10) ∷ [])
digits_last fuel n h k =
    digits_step (suc fuel) n h
    ∙ digits_behind (suc fuel) (n / 10) ((48 + n % 10) ∷ [])
    ∙ ap (λ (l : List ℕ). l ++ ((48 + n % 10) ∷ [])) (sym (digits_fuel fuel (n / 10) [] (omega (arith, pow-succ' 10 (suc fuel)))))

pub decimal_small : (n : ℕ) → n < 10 → decimal n ≡ (48 + n) ∷ []
unfolding decimal
decimal_small n h = digits_one 19 n h

pub decimal_more : (n : ℕ) → 10 ≤ n → n < 2 ^ 64 → decimal n ≡ decimal (n / 10) ++ ((48 + n % 10) ∷ [])
unfolding decimal
decimal_more n h k = digits_last 18 n h (omega arith)

pub decimal_least : (n : ℕ) → 0 < length (decimal n)
unfolding decimal
decimal_least n = digits_some 19 n []

-- how many digits there are, in the same two steps
pub decimal_one : (n : ℕ) → n < 10 → length (decimal n) ≡ 1
decimal_one n h = ap length (decimal_small n h)

pub decimal_less : (n : ℕ) → 10 ≤ n → n < 2 ^ 64 → length (decimal n) ≡ length (decimal (n / 10)) + 1
decimal_less n h k = ap length (decimal_more n h k) ∙ length-append (decimal (n / 10)) ((48 + n % 10) ∷ [])

-- one digit is a number below 10, and two are one from 10 on
pub decimal_below : (n : ℕ) → n < 2 ^ 64 → length (decimal n) ≤ 1 → n < 10
decimal_below n k h =
    ⊎_elim (λ (l : n < 10). l) (λ (l : 10 ≤ n). absurd (omega (arith, decimal_less n l k, decimal_least (n / 10)))) (lt? n 10)

pub decimal_from : (n : ℕ) → 2 ≤ length (decimal n) → 10 ≤ n
decimal_from n h = ⊎_elim (λ (l : n < 10). absurd (omega (arith, decimal_one n l))) (λ (l : 10 ≤ n). l) (lt? n 10)

-- a power of ten is not 0
power_some : (k : ℕ) → 1 ≤ 10 ^ k
power_some zero = omega arith
power_some (suc k) = omega (arith, power_some k, pow-succ' 10 k)

-- a number from 10 ^ k on and below 10 ^ (k + 1) has k + 1 digits
pub decimal_long : (k n : ℕ) → 10 ^ k ≤ n → n < 10 ^ suc k → n < 2 ^ 64 → length (decimal n) ≡ suc k
decimal_long zero n l h b = decimal_one n (omega (arith, h))
decimal_long (suc k) n l h b =
    let p = pow-succ' 10 k in
    let q = pow-succ' 10 (suc k) in
    let more : 10 ≤ n = omega (arith, l, p, power_some k) in
    decimal_less n more b ∙ ap (λ (m : ℕ). m + 1) (decimal_long k (n / 10) (omega (arith, l, p)) (omega (arith, h, q)) (omega arith)) ∙ omega arith

-- a 32-bit number has at most ten digits
short_by : (k n : ℕ) → n < 10 ^ suc k → n < 2 ^ 64 → length (decimal n) ≤ suc k
short_by zero n h b = omega (arith, decimal_one n (omega (arith, h)))
short_by (suc k) n h b =
    ⊎_elim (λ (l : n < 10). omega (arith, decimal_one n l))
    (λ (l : 10 ≤ n). omega (arith, decimal_less n l b, short_by k (n / 10) (omega (arith, h, pow-succ' 10 (suc k))) (omega arith))) (lt? n 10)

pub decimal_short : (n : ℕ) → n < 2 ^ 32 → length (decimal n) ≤ 10
decimal_short n h = short_by 9 n (omega arith) (omega arith)
