-- Numbers as digits. The value of digits is each digit times ten for every digit behind it (`worth`, `value_means`). In decimal, a number
-- below 10 ^ 20 is exactly the digits that are worth it, at least one and with no zero in front of others (`decimal_means`); they are read
-- back (`decimal_back`), and no other byte stands among them (`decimal_without`).
use mathlib.Core.Path.{◌≡◌, refl, sym, ap, ◌∙◌, subst}
use mathlib.Core.Logic.{◌↔◌, ⊎_elim}
use mathlib.Core.List.{List, [], ◌∷◌}
use Prim.Native.Nat.{ℕ, zero, suc, ◌+◌, ◌-◌, ◌*◌, ◌/◌, ◌%◌, ◌^◌, ◌≤◌, ◌<◌}
use native.Mathlib.Nat.{pow-succ', pow-le-pow_right, add-mul, mul_assoc, mul_left_comm, mul-add-div_right, mul-le-mul_right, div-eq_of_lt}
use native.Mathlib.Omega.{arith}
use lib.Dec.{ltb}
use lib.ListN.{length, get_or}
use borrow.Author.Tests.{ltb-true, ltb-false}
use Rattle.rules.proofs.Tests.{by_cases, lt?}
use Rattle.model.specs.Text.{value_from, digits, decimal}
use Rattle.model.proofs.Lists.{Every, every_imp}
use Rattle.model.proofs.Fields.{Without}

abbrev pub Digit : ℕ → Type 0
Digit d = (48 ≤ d) × (d ≤ 57)

-- each digit times ten for every digit behind it
abbrev pub worth : List ℕ → ℕ
worth [] = 0
worth (d ∷ ds) = (d - 48) * 10 ^ length ds + worth ds

value_from_lem : (v : ℕ) (f : List ℕ) → value_from v f ≡ v * 10 ^ length f + worth f
unfolding value_from
value_from_lem v [] = omega arith
value_from_lem v (d ∷ f) =
    let p = 10 ^ length f in
    rw (pow-succ' 10 (length f), value_from_lem (10 * v + (d - 48)) f) (omega (arith, add-mul (10 * v) (d - 48) p, mul_assoc 10 v p, mul_left_comm v 10 p))

pub value_means : (f : List ℕ) → value_from 0 f ≡ worth f
value_means f = omega (arith, value_from_lem 0 f)

-- a byte that is no digit stands nowhere among digits
pub digits_without : (b : ℕ) (f : List ℕ) → (Digit b → ⊥) → Every Digit f → Without b f
digits_without b f n = every_imp Digit (λ x. x ≡ b → ⊥) f (λ x d e. n (rw e at d))

-- the digits of a number, before those that are there

digits_digit : (fuel n : ℕ) (acc : List ℕ) → Every Digit acc → Every Digit (digits fuel n acc)
unfolding digits
digits_digit zero n acc r = r
digits_digit (suc fuel) n acc r =
    by_cases (ltb n 10)
    (λ e. rw e (omega (arith, ltb-true n 10 e), r))
    (λ e. rw e (digits_digit fuel (n / 10) ((48 + n % 10) ∷ acc) (omega arith, r)))

digits_worth : (fuel n : ℕ) (acc : List ℕ) → n < 10 ^ fuel → worth (digits fuel n acc) ≡ n * 10 ^ length acc + worth acc
unfolding digits
digits_worth zero n acc h = let z : n ≡ 0 = omega arith in rw z (omega arith)
digits_worth (suc fuel) n acc h =
    let p = 10 ^ length acc in
    let q = n / 10 in
    let r = n % 10 in
    let e₀ : 48 + n - 48 ≡ n = omega arith in
    let e₁ : 48 + r - 48 ≡ r = omega arith in
    let e₂ : 10 * q + r ≡ n = omega arith in
    by_cases (ltb n 10)
    (λ e. rw (e, e₀))
    (λ e. rw (e, digits_worth fuel q ((48 + r) ∷ acc) (omega (arith, pow-succ' 10 fuel)), e₁, pow-succ' 10 (length acc))
    (omega (arith, ap (λ (m : ℕ). m * p) e₂, add-mul (10 * q) r p, mul_assoc 10 q p, mul_left_comm q 10 p)))

digits_first : (fuel n : ℕ) (acc : List ℕ) → 1 ≤ n → n < 10 ^ fuel → 49 ≤ get_or (digits fuel n acc) 0 0
unfolding digits
digits_first zero n acc s h = absurd (omega arith)
digits_first (suc fuel) n acc s h =
    by_cases (ltb n 10)
    (λ e. rw e (omega arith))
    (λ e. rw e (digits_first fuel (n / 10) ((48 + n % 10) ∷ acc) (omega (arith, ltb-false n 10 e)) (omega (arith, pow-succ' 10 fuel))))

-- a number in decimal: at least one digit, no zero in front of others, worth the number
pub record InDecimal (n : ℕ) (f : List ℕ) : Type 0 where
  pub some : 1 ≤ length f
  pub digit : Every Digit f
  pub first : 1 < length f → 49 ≤ get_or f 0 0
  pub value : worth f ≡ n

nonempty : (f : List ℕ) → 49 ≤ get_or f 0 0 → 1 ≤ length f
nonempty [] h = absurd (omega arith)
nonempty (d ∷ f) h = omega arith

decimal_zero : InDecimal 0 (decimal 0)
unfolding decimal digits
decimal_zero = record { some = omega arith; digit = (omega arith, tt); first = λ h. absurd (omega arith); value = refl }

decimal_is : (n : ℕ) → n < 10 ^ 20 → InDecimal n (decimal n)
unfolding decimal
decimal_is zero h = decimal_zero
decimal_is (suc n) h =
    let d = digits_first 20 (suc n) [] (omega arith) h in
    record {
      some = nonempty (decimal (suc n)) d;
      digit = digits_digit 20 (suc n) [] tt;
      first = λ k. d;
      value = digits_worth 20 (suc n) [] h ∙ omega arith;
    }

-- digits that are worth the same, and as many, are the same; more digits are worth more

worth_below : (f : List ℕ) → Every Digit f → worth f < 10 ^ length f
worth_below [] r = omega arith
worth_below (d ∷ f) r =
    let p = 10 ^ length f in
    rw (pow-succ' 10 (length f)) (omega (arith, worth_below f r.1, mul-le-mul_right {m = d - 48} {n = 9} p (omega arith)))

quotient : (p a x : ℕ) → x < p → (a * p + x) / p ≡ a
quotient p a x h = mul-add-div_right (omega arith) a x ∙ omega (arith, div-eq_of_lt h)

as_many : (f g : List ℕ) → length f ≡ length g → Every Digit f → Every Digit g → worth f ≡ worth g → f ≡ g
as_many [] [] l r s e = refl
as_many [] (b ∷ g) l r s e = absurd (omega arith)
as_many (a ∷ f) [] l r s e = absurd (omega arith)
as_many (a ∷ f) (b ∷ g) l r s e =
    let k : length f ≡ length g = omega arith in
    let q : a - 48 ≡ b - 48 =
    sym (quotient (10 ^ length f) (a - 48) (worth f) (worth_below f r.1))
    ∙ ap (λ (m : ℕ). m / 10 ^ length f) e
    ∙ rw k (quotient (10 ^ length g) (b - 48) (worth g) (worth_below g s.1)) in
    let d : a ≡ b = omega arith in
    let t = as_many f g k r.1 s.1 (omega (arith, ap (λ (m : ℕ). m * 10 ^ length f) q, ap (λ (m : ℕ). (b - 48) * 10 ^ m) k)) in
    cc

more_worth : (f g : List ℕ) → Every Digit f → 49 ≤ get_or g 0 0 → length f < length g → worth f < worth g
more_worth f [] r h l = absurd (omega arith)
more_worth f (b ∷ g) r h l =
    omega (
      arith,
      worth_below f r,
      pow-le-pow_right {n = 10} (omega arith) {i = length f} {j = length g} (omega arith),
      mul-le-mul_right {m = 1} {n = b - 48} (10 ^ length g) (omega arith),
    )

in_decimal : (n : ℕ) (f g : List ℕ) → InDecimal n f → InDecimal n g → f ≡ g
in_decimal n f g a b =
    ⊎_elim (λ (h : length f < length g). absurd (omega (arith, a.value, b.value, more_worth f g a.digit (b.first (omega (arith, a.some))) h)))
    (λ (h : length g ≤ length f). ⊎_elim
    (λ (k : length g < length f). absurd (omega (arith, a.value, b.value, more_worth g f b.digit (a.first (omega (arith, b.some))) k)))
    (λ (k : length f ≤ length g). as_many f g (omega arith) a.digit b.digit (a.value ∙ sym b.value)) (lt? (length g) (length f))) (lt? (length f) (length g))

module _ (n : ℕ) (h : n < 10 ^ 20) where
  pub decimal_means : (f : List ℕ) → (decimal n ≡ f) ↔ InDecimal n f
  decimal_means f = (λ e. subst (InDecimal n) e (decimal_is n h), λ m. in_decimal n (decimal n) f (decimal_is n h) m)

  pub decimal_back : value_from 0 (decimal n) ≡ n
  decimal_back = value_means (decimal n) ∙ (decimal_is n h).value

-- spaces, colons and LF too, whatever the number
pub decimal_without : (n b : ℕ) → (Digit b → ⊥) → Without b (decimal n)
unfolding decimal
decimal_without n b other = digits_without b (decimal n) other (digits_digit 20 n [] tt)
