-- What a valid serial and a valid fault are, byte by byte and bound by bound: `serial_means` of a serial by itself, `valid_means` of one that
-- travels as bytes and a length, `invalid_means` for number 4, `fault_means` and `no_fault_means` for number 5.
use mathlib.Core.Path.{◌≡◌, refl, sym, subst}
use mathlib.Core.Logic.{◌⊎◌, inl, inr, ⊎_elim, ◌↔◌}
use mathlib.Core.List.{List, [], ◌∷◌}
use mathlib.Core.Bool.{Bool, true, false, ◌&&◌, ◌||◌, or-true}
use Prim.Native.Nat.{ℕ, zero, suc, ◌+◌, ◌-◌, ◌≤◌, ◌<◌}
use native.Mathlib.Omega.{arith}
use lib.Dec.{ltb, eqb}
use lib.ListN.{length, get_or, take, drop, length-drop, get_or-eq_default}
use lib.Seq.{length-take-le, get_or-take, get_or-drop}
use borrow.Author.Tests.{eqb-true, eq-eqb, ltb-true, ltb-false}
use Rattle.rules.proofs.Tests.{by_cases, not_both, both, all_of, either}
use Rattle.model.specs.Lists.{between, all}
use Rattle.model.specs.Serial.{allowed, serial_ok, valid_serial, valid_fault, most_code}
use Rattle.model.proofs.Lists.{between_is}

-- a test of each element, by their places

all_at : (p : ℕ → Bool) (l : List ℕ) → all p l ≡ true → (i : ℕ) → i < length l → p (get_or l i 0) ≡ true
all_at p [] e i h = absurd (omega arith)
all_at p (x ∷ l) e zero h = (both (p x) (all p l) e).0
all_at p (x ∷ l) e (suc i) h = all_at p l (both (p x) (all p l) e).1 i (omega arith)

at_all : (p : ℕ → Bool) (l : List ℕ) → ((i : ℕ) → i < length l → p (get_or l i 0) ≡ true) → all p l ≡ true
at_all p [] f = refl
at_all p (x ∷ l) f = all_of (f 0 (omega arith)) (at_all p l (λ i h. f (suc i) (omega arith)))

-- what a test means, denied
denied : {A : Type 0} (b : Bool) → ((b ≡ true) ↔ A) → ((b ≡ false) ↔ (A → ⊥))
denied b m = (λ e a. not_both (m.1 a) e, λ no. by_cases b (λ e. absurd (no (m.0 e))) (λ e. e))

-- a digit, an upper-case letter or a hyphen
abbrev pub SerialByte : ℕ → Type 0
SerialByte b = ((48 ≤ b) × (b ≤ 57)) ⊎ (((65 ≤ b) × (b ≤ 90)) ⊎ (b ≡ 45))

byte_means : (b : ℕ) → (allowed b ≡ true) ↔ SerialByte b
unfolding allowed
byte_means b = (
  λ e. ⊎_elim (λ e. ⊎_elim (λ e. inl ((between_is 48 57 b).0 e)) (λ e. inr (inl ((between_is 65 90 b).0 e))) (either (between 48 57 b) (between 65 90 b) e))
      (λ e. inr (inr (eqb-true b 45 e))) (either (between 48 57 b || between 65 90 b) (eqb b 45) e),
  back,
)
  where
    back : SerialByte b → (between 48 57 b || between 65 90 b || eqb b 45) ≡ true
    back (inl h) = rw ((between_is 48 57 b).1 h)
    back (inr (inl h)) = rw ((between_is 65 90 b).1 h, or-true (between 48 57 b))
    back (inr (inr h)) = rw (eq-eqb b 45 h) (or-true (between 48 57 b || between 65 90 b))

-- a serial: 1 to 16 bytes, each allowed
pub record SerialMeans (y : List ℕ) : Type 0 where
  pub some : 1 ≤ length y
  pub most : length y ≤ 16
  pub each : (i : ℕ) → i < length y → SerialByte (get_or y i 0)

pub serial_means : (y : List ℕ) → (serial_ok y ≡ true) ↔ SerialMeans y
unfolding serial_ok
serial_means y = (
  λ e. let a = both (between 1 16 (length y)) (all allowed y) e in
      let n = (between_is 1 16 (length y)).0 a.0 in
      record { some = n.0; most = n.1; each = λ i h. (byte_means (get_or y i 0)).0 (all_at allowed y a.1 i h) },
  λ m. all_of ((between_is 1 16 (length y)).1 (m.some, m.most)) (at_all allowed y (λ i h. (byte_means (get_or y i 0)).1 (m.each i h))),
)

-- bytes and a length, as a serial travels: it has 1 to 16 of the bytes, each allowed, and all that it does not use are zero
pub record ValidMeans (bytes : List ℕ) (n : ℕ) : Type 0 where
  pub some : 1 ≤ n
  pub most : n ≤ 16
  pub each : (i : ℕ) → i < n → SerialByte (get_or bytes i 0)
  pub unused : (i : ℕ) → n ≤ i → i < length bytes → get_or bytes i 0 ≡ 0

no_byte : SerialByte 0 → ⊥
no_byte (inl h) = omega arith
no_byte (inr (inl h)) = omega arith
no_byte (inr (inr h)) = omega arith

-- there are as many bytes as are used, since past the last is none that is allowed
enough_bytes : (bytes : List ℕ) (n : ℕ) → 1 ≤ n → SerialByte (get_or bytes (n - 1) 0) → n ≤ length bytes
enough_bytes bytes n some last =
    by_cases (ltb (length bytes) n)
    (λ e. absurd (no_byte (subst SerialByte (get_or-eq_default bytes 0 {n = n - 1} (omega (arith, ltb-true (length bytes) n e))) last)))
    (λ e. ltb-false (length bytes) n e)

module _ (bytes : List ℕ) (n : ℕ) where
  valid_is : valid_serial bytes n ≡ true → ValidMeans bytes n
  unfolding valid_serial
  valid_is e =
      let a = both (eqb (length (take n bytes)) n) (serial_ok (take n bytes) && all (eqb 0) (drop n bytes)) e in
      let b = both (serial_ok (take n bytes)) (all (eqb 0) (drop n bytes)) a.1 in
      let long = eqb-true (length (take n bytes)) n a.0 in
      let m = (serial_means (take n bytes)).0 b.0 in
      record {
        some = omega (arith, m.some);
        most = omega (arith, m.most);
        each = λ i h. rw (get_or-take n bytes i 0 h) at (m.each i (omega arith));
        unused = λ i h k. let d : n + (i - n) ≡ i = omega arith in
            sym (eqb-true 0 (get_or bytes i 0) (rw (get_or-drop n bytes (i - n) 0, d) at (all_at (eqb 0) (drop n bytes) b.1 (i - n) (omega (arith, length-drop n bytes)))));
      }

  is_valid : ValidMeans bytes n → valid_serial bytes n ≡ true
  unfolding valid_serial
  is_valid m =
      let long = length-take-le n bytes (enough_bytes bytes n m.some (m.each (n - 1) (omega (arith, m.some)))) in
      all_of (eq-eqb (length (take n bytes)) n long)
      (all_of ((serial_means (take n bytes)).1 (record { some = omega (arith, m.some); most = omega (arith, m.most); each = λ i h. rw (get_or-take n bytes i 0 (omega arith)) (m.each i (omega arith)) }))
      (at_all (eqb 0) (drop n bytes)
      (λ i h. rw (get_or-drop n bytes i 0) (eq-eqb 0 (get_or bytes (n + i) 0) (sym (m.unused (n + i) (omega arith) (omega (arith, length-drop n bytes))))))))

  pub valid_means : (valid_serial bytes n ≡ true) ↔ ValidMeans bytes n
  valid_means = (valid_is, is_valid)

  pub invalid_means : (valid_serial bytes n ≡ false) ↔ (ValidMeans bytes n → ⊥)
  invalid_means = denied (valid_serial bytes n) valid_means

-- what is used of the bytes is a serial by itself
pub valid_serial_lem : (bytes : List ℕ) (n : ℕ) → valid_serial bytes n ≡ true → serial_ok (take n bytes) ≡ true
unfolding valid_serial
valid_serial_lem bytes n e = (both (serial_ok (take n bytes)) _ (both (eqb (length (take n bytes)) n) _ e).1).0

-- a day, 1 to 65,535, and a code, 1 to 9,999
pub record FaultMeans (day code : ℕ) : Type 0 where
  pub first_day : 1 ≤ day
  pub last_day : day ≤ 65535
  pub least_code : 1 ≤ code
  pub most_code : code ≤ most_code

pub fault_means : (day code : ℕ) → (valid_fault day code ≡ true) ↔ FaultMeans day code
unfolding valid_fault
fault_means day code = (
  λ e. let a = both (between 1 65535 day) (between 1 most_code code) e in
      let d = (between_is 1 65535 day).0 a.0 in
      let c = (between_is 1 most_code code).0 a.1 in
      record { first_day = d.0; last_day = d.1; least_code = c.0; most_code = c.1 },
  λ m. all_of ((between_is 1 65535 day).1 (m.first_day, m.last_day)) ((between_is 1 most_code code).1 (m.least_code, m.most_code)),
)

pub no_fault_means : (day code : ℕ) → (valid_fault day code ≡ false) ↔ (FaultMeans day code → ⊥)
no_fault_means day code = denied (valid_fault day code) (fault_means day code)
