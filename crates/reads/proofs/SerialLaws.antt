-- A serial that travels, by its parts (`valid_is`): its length is within 1 to 16, all bytes up to the length are allowed, and all behind it
-- are zero. And the bytes that are allowed, as a
-- table of bits from the hyphen on: each byte was looked at (`table_tells`).
use mathlib.Core.Path.{◌≡◌, refl, sym, ap, ◌∙◌}
use mathlib.Core.Bool.{Bool, true, false, not, cond, ◌&&◌}
use mathlib.Core.List.{List, [], ◌∷◌}
use Rattle.std.specs.Int.{w32, from_be_bytes, to_be_bytes}
use Prim.Native.Nat.{ℕ, suc, ◌-◌, ◌/◌, ◌%◌, ◌^◌, ◌≤◌, ◌<◌, ◌+◌, ◌*◌}
use native.Mathlib.Omega.{arith}
use lib.Dec.{eqb}
use lib.ListN.{length, take, drop, get_or, length-drop}
use lib.Seq.{length-take-le, take_all}
use borrow.Author.Tests.{eq-eqb, eqb-true}
use Rattle.model.specs.Lists.{between, all}
use Rattle.model.specs.Serial.{most_bytes, allowed, serial_ok, valid_serial}
use Rattle.model.proofs.Lists.{between_is, all_from}
use Rattle.reads.proofs.Rows.{and_rest, and_fails}
use Rattle.rules.proofs.Tests.{by_cases, both}
use Rattle.model.specs.Layout.{packed, bytes_of}
use Rattle.model.proofs.Serials.{serial_is, padded}
use Rattle.model.proofs.Valid.{valid_serial_lem}

module _ (s : List ℕ) (n : ℕ) (l : length s ≡ most_bytes) where
  valid_parts : 1 ≤ n → n ≤ most_bytes → valid_serial s n ≡ (all allowed (take n s) && all (eqb 0) (drop n s))
  unfolding valid_serial serial_ok
  valid_parts a b =
      let t : length (take n s) ≡ n = length-take-le n s (omega arith) in
      let r : between 1 most_bytes (length (take n s)) ≡ true = (between_is 1 most_bytes (length (take n s))).1 (omega arith, omega arith) in
      and_rest _ (eq-eqb (length (take n s)) n t) ∙ ap (λ (x : Bool). x && all (eqb 0) (drop n s)) (and_rest (all allowed (take n s)) r)

  behind_all : take (most_bytes - n) (drop n s) ≡ drop n s
  behind_all = take_all (most_bytes - n) (drop n s) (omega (arith, length-drop n s))

  pub valid_is : valid_serial s n ≡ ((between 1 most_bytes n && all allowed (take n s)) && all (eqb 0) (take (most_bytes - n) (drop n s)))
  unfolding valid_serial serial_ok
  valid_is =
      by_cases (between 1 most_bytes n)
      (λ t. let r = (between_is 1 most_bytes n).0 t in rw (behind_all, t) (valid_parts r.0 r.1))
      (λ t. rw t (by_cases (eqb (length (take n s)) n)
      (λ e. and_rest _ e ∙ and_fails _ (and_fails _ (ap (between 1 most_bytes) (eqb-true (length (take n s)) n e) ∙ t)))
      (λ e. and_fails _ e)))

-- equal truths
alike : Bool → Bool → Bool
alike a b = cond a b (not b)

are_alike : (a b : Bool) → alike a b ≡ true → a ≡ b
unfolding alike
are_alike true true e = refl
are_alike true false e = sym e
are_alike false true e = e
are_alike false false e = refl

-- the first and the last byte of the table, and its bits, as the code has them
abbrev hyphen : ℕ
hyphen = 45

abbrev last_letter : ℕ
last_letter = 90

abbrev table : ℕ
table = 70368743137273

pub table_tells : (b : ℕ) → hyphen ≤ b → b ≤ last_letter → eqb (table / 2 ^ (b - hyphen) % 2) 1 ≡ allowed b
unfolding allowed between alike
table_tells b l h =
    are_alike (eqb (table / 2 ^ (b - hyphen) % 2) 1) (allowed b)
    (all_from (λ (x : ℕ). alike (eqb (table / 2 ^ (x - hyphen) % 2) 1) (allowed x)) hyphen (suc last_letter - hyphen) refl b l (omega arith))

pub early_not_allowed : (b : ℕ) → b < hyphen → allowed b ≡ false
unfolding allowed between alike
early_not_allowed b h = are_alike (allowed b) false (all_from (λ (x : ℕ). alike (allowed x) false) 0 hyphen refl b (omega arith) h)

-- bytes are below 2 ^ 8
pub late_not_allowed : (b : ℕ) → last_letter < b → b < 2 ^ 8 → allowed b ≡ false
unfolding allowed between alike
late_not_allowed b l h = are_alike (allowed b) false (all_from (λ (x : ℕ). alike (allowed x) false) (suc last_letter) (2 ^ 8 - suc last_letter) refl b l (omega arith))

-- a serial as it is sent
module _ (bytes : List ℕ) (n : ℕ) (v : valid_serial bytes n ≡ true) where
  pub valid_length : length (take n bytes) ≡ n
  unfolding valid_serial
  valid_length = eqb-true (length (take n bytes)) n (both (eqb (length (take n bytes)) n) _ v).0

  pub valid_short : n ≤ most_bytes
  valid_short = omega (arith, valid_length, (serial_is (take n bytes) (valid_serial_lem bytes n v)).1)

  -- the unused bytes are zero, so the words of all sixteen are the serial's
  pub valid_packed : (k : ℕ) → packed (take n bytes) k ≡ packed bytes k
  unfolding valid_serial packed
  valid_packed k =
      let z = (both (serial_ok (take n bytes)) _ (both (eqb (length (take n bytes)) n) _ v).1).1 in
      let p = padded n bytes z in
      λ i. ((p k i * 256 + p (k + 1) i) * 256 + p (k + 2) i) * 256 + p (k + 3) i

-- four bytes as a word and a word as four bytes, in std's words
pub four_packed : (s : List ℕ) (k : ℕ) → from_be_bytes w32 (get_or s k 0 ∷ get_or s (k + 1) 0 ∷ get_or s (k + 2) 0 ∷ get_or s (k + 3) 0 ∷ []) ≡ packed s k
unfolding packed
four_packed s k = omega arith

pub four_unpacked : (x : ℕ) → x < 2 ^ 32 → to_be_bytes w32 x ≡ bytes_of x
unfolding bytes_of
four_unpacked x h = let e : x / 2 ^ 24 % 256 ≡ x / 2 ^ 24 = omega arith in rw e
