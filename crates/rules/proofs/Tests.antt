-- Tests by their two answers, and tests that are an `and` or an `or`: what every crate's proofs cite. Assumes nothing.
use Rattle.std.proofs.Common.{◌≡◌, ℕ, ◌<◌, ◌≤◌, Bool, true, false, ◌&&◌, ◌||◌, eqb, ltb, ◌⊎◌, sym, refl, ap, ◌∙◌, inl, inr, ltb-false, ltb-true, eqb-true}
use mathlib.Core.Bool.{false≢true}
use borrow.Author.Tests.{eqb-false}

-- a test is true or false, and the equation is kept
pub by_cases {ℓ} : {P : Type ℓ} (b : Bool) → (b ≡ true → P) → (b ≡ false → P) → P
by_cases true f g = f refl
by_cases false f g = g refl

pub not_both {ℓ} : {P : Type ℓ} {b : Bool} → b ≡ true → b ≡ false → P
not_both e f = absurd (false≢true (sym f ∙ e))

pub both : (a b : Bool) → (a && b) ≡ true → (a ≡ true) × (b ≡ true)
both true b e = (refl, e)
both false b e = absurd (false≢true e)

pub all_of : {a b : Bool} → a ≡ true → b ≡ true → (a && b) ≡ true
all_of {a} {b} e f = ap (λ (t : Bool). t && b) e ∙ f

pub and_true : (a : Bool) → (a && true) ≡ a
and_true true = refl
and_true false = refl

pub either : (a b : Bool) → (a || b) ≡ true → (a ≡ true) ⊎ (b ≡ true)
either true b e = inl refl
either false b e = inr e

-- two numbers are equal or not, and in order or not
pub eq? : (a b : ℕ) → (a ≡ b) ⊎ (a ≡ b → ⊥)
eq? a b = by_cases (eqb a b) (λ e. inl (eqb-true a b e)) (λ e. inr (eqb-false a b e))

pub lt? : (a b : ℕ) → (a < b) ⊎ (b ≤ a)
lt? a b = by_cases (ltb a b) (λ e. inl (ltb-true a b e)) (λ e. inr (ltb-false a b e))
