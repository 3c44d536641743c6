-- A serial and four words. Packed, a serial is read back (`serial_read`) with zero bytes behind it (`serial_padded`), since each of its
-- bytes is below 256; and four words whose bytes past the n-th are zero are what their first n bytes pack to (`words_back`), since a word
-- is the sum of its bytes in their places, and zero bytes behind a serial pack as if they were not there (`packed_padded`).
use mathlib.Core.Path.{◌≡◌, refl, sym, ap, ◌∙◌}
use mathlib.Core.Logic.{⊎_elim}
use mathlib.Core.List.{List, [], ◌∷◌, ◌++◌, map}
use mathlib.Core.Bool.{true, ◌||◌}
use Prim.Native.Nat.{ℕ, zero, suc, ◌+◌, ◌-◌, ◌*◌, ◌/◌, ◌%◌, ◌≤◌, ◌<◌}
use native.Mathlib.Omega.{arith}
use lib.Dec.{eqb}
use lib.ListN.{length, get_or, take, drop}
use lib.Seq.{get_or-take, get_or-drop}
use borrow.Author.Tests.{eqb-true}
use Rattle.rules.proofs.Tests.{both, either, lt?}
use Rattle.model.specs.Lists.{all, between, from}
use Rattle.model.specs.Serial.{allowed, most_bytes, serial_ok}
use Rattle.model.specs.Layout.{packed, bytes_of}
use Rattle.model.proofs.Lists.{between_is}

allowed_byte : (b : ℕ) → allowed b ≡ true → b < 256
unfolding allowed
allowed_byte b e =
    ⊎_elim (λ e. ⊎_elim (λ e. omega (arith, (between_is 48 57 b).0 e)) (λ e. omega (arith, (between_is 65 90 b).0 e)) (either (between 48 57 b) (between 65 90 b) e))
    (λ e. omega (arith, eqb-true b 45 e)) (either (between 48 57 b || between 65 90 b) (eqb b 45) e)

bytes_small : (y : List ℕ) → all allowed y ≡ true → (i : ℕ) → get_or y i 0 < 256
bytes_small [] e i = omega arith
bytes_small (x ∷ xs) e zero = allowed_byte x (both (allowed x) (all allowed xs) e).0
bytes_small (x ∷ xs) e (suc i) = bytes_small xs (both (allowed x) (all allowed xs) e).1 i

-- a valid serial has 1 to 16 bytes, each below 256
pub serial_is : (y : List ℕ) → serial_ok y ≡ true → (1 ≤ length y) × (length y ≤ most_bytes) × ((i : ℕ) → get_or y i 0 < 256)
unfolding serial_ok
serial_is y e =
    let a = both (between 1 most_bytes (length y)) (all allowed y) e in
    let n = (between_is 1 most_bytes (length y)).0 a.0 in
    (n.0, n.1, bytes_small y a.1)

-- the four bytes of a word, the highest first
bytes_of_lem : (a b c d : ℕ) → a < 256 → b < 256 → c < 256 → d < 256 → bytes_of (((a * 256 + b) * 256 + c) * 256 + d) ≡ a ∷ b ∷ c ∷ d ∷ []
unfolding bytes_of
bytes_of_lem a b c d ha hb hc hd =
    let w = ((a * 256 + b) * 256 + c) * 256 + d in
    let e₀ : w / 16777216 ≡ a = omega arith in
    let e₁ : w / 65536 % 256 ≡ b = omega arith in
    let e₂ : w / 256 % 256 ≡ c = omega arith in
    let e₃ : w % 256 ≡ d = omega arith in
    λ i. e₀ i ∷ e₁ i ∷ e₂ i ∷ e₃ i ∷ []

-- the bytes of a list from 0 to m, zero past its end

shift : (x : ℕ) (y : List ℕ) (a m : ℕ) → map (λ j. get_or (x ∷ y) j 0) (from (suc a) m) ≡ map (λ j. get_or y j 0) (from a m)
shift x y a zero = refl
shift x y a (suc m) = ap (λ (l : List ℕ). get_or y a 0 ∷ l) (shift x y (suc a) m)

listed : (y : List ℕ) (m : ℕ) → length y ≤ m → take (length y) (map (λ j. get_or y j 0) (from 0 m)) ≡ y
listed [] m h = refl
listed (x ∷ y) zero h = absurd (omega arith)
listed (x ∷ y) (suc m) h = ap (λ (l : List ℕ). x ∷ l) (ap (take (length y)) (shift x y 0 m) ∙ listed y m (omega arith))

nothing : (a m : ℕ) → all (eqb 0) (map (λ j. get_or [] j 0) (from a m)) ≡ true
nothing a zero = refl
nothing a (suc m) = nothing (suc a) m

unlisted : (y : List ℕ) (m : ℕ) → all (eqb 0) (drop (length y) (map (λ j. get_or y j 0) (from 0 m))) ≡ true
unlisted [] m = nothing 0 m
unlisted (x ∷ y) zero = refl
unlisted (x ∷ y) (suc m) = rw (shift x y 0 m) (unlisted y m)

-- the sixteen bytes of four words
abbrev pub unpacked : ℕ → ℕ → ℕ → ℕ → List ℕ
unpacked w₀ w₁ w₂ w₃ = bytes_of w₀ ++ (bytes_of w₁ ++ (bytes_of w₂ ++ bytes_of w₃))

-- packed and read back, of words that are known by equations
module _ (n w₀ w₁ w₂ w₃ : ℕ) (y : List ℕ) (v : serial_ok y ≡ true) (l : n ≡ length y)
    (e₀ : w₀ ≡ packed y 0) (e₁ : w₁ ≡ packed y 4) (e₂ : w₂ ≡ packed y 8) (e₃ : w₃ ≡ packed y 12) where
  all_bytes : unpacked w₀ w₁ w₂ w₃ ≡ map (λ j. get_or y j 0) (from 0 most_bytes)
  unfolding packed
  all_bytes =
      let b = (serial_is y v).2 in
      let a₀ = ap bytes_of e₀ ∙ bytes_of_lem _ _ _ _ (b 0) (b 1) (b 2) (b 3) in
      let a₁ = ap bytes_of e₁ ∙ bytes_of_lem _ _ _ _ (b 4) (b 5) (b 6) (b 7) in
      let a₂ = ap bytes_of e₂ ∙ bytes_of_lem _ _ _ _ (b 8) (b 9) (b 10) (b 11) in
      let a₃ = ap bytes_of e₃ ∙ bytes_of_lem _ _ _ _ (b 12) (b 13) (b 14) (b 15) in
      λ i. a₀ i ++ (a₁ i ++ (a₂ i ++ a₃ i))

  pub serial_read : take n (unpacked w₀ w₁ w₂ w₃) ≡ y
  serial_read = (λ i. take (l i) (all_bytes i)) ∙ listed y most_bytes (serial_is y v).1

  pub serial_padded : all (eqb 0) (drop n (unpacked w₀ w₁ w₂ w₃)) ≡ true
  serial_padded = (λ i. all (eqb 0) (drop (l i) (all_bytes i))) ∙ unlisted y most_bytes

-- read and packed again

zeros : (l : List ℕ) → all (eqb 0) l ≡ true → (i : ℕ) → get_or l i 0 ≡ 0
zeros [] e i = refl
zeros (x ∷ xs) e zero = sym (eqb-true 0 x (both (eqb 0 x) (all (eqb 0) xs) e).0)
zeros (x ∷ xs) e (suc i) = zeros xs (both (eqb 0 x) (all (eqb 0) xs) e).1 i

past : (n : ℕ) (l : List ℕ) (i : ℕ) → n ≤ i → get_or (take n l) i 0 ≡ 0
past zero l i h = refl
past (suc n) [] i h = refl
past (suc n) (x ∷ xs) zero h = absurd (omega arith)
past (suc n) (x ∷ xs) (suc i) h = past n xs i (omega arith)

-- a list that is zero from n on is what its first n elements are
pub padded : (n : ℕ) (l : List ℕ) → all (eqb 0) (drop n l) ≡ true → (i : ℕ) → get_or (take n l) i 0 ≡ get_or l i 0
padded n l e i =
    ⊎_elim (λ (h : i < n). get_or-take n l i 0 h)
    (λ (h : n ≤ i). let d : n + (i - n) ≡ i = omega arith in
    past n l i h ∙ sym (ap (λ (m : ℕ). get_or l m 0) (sym d) ∙ sym (get_or-drop n l (i - n) 0) ∙ zeros (drop n l) e (i - n))) (lt? i n)

-- sixteen bytes pack as the serial that they carry, where those behind it are zero
pub packed_padded : (n : ℕ) (l : List ℕ) → all (eqb 0) (drop n l) ≡ true → (i : ℕ) → packed (take n l) i ≡ packed l i
unfolding packed
packed_padded n l e i =
    let p = padded n l e in
    λ t. ((p i t * 256 + p (i + 1) t) * 256 + p (i + 2) t) * 256 + p (i + 3) t

word_of : (x : ℕ) → ((x / 16777216 * 256 + x / 65536 % 256) * 256 + x / 256 % 256) * 256 + x % 256 ≡ x
word_of x = omega arith

pub words_back : (n w₀ w₁ w₂ w₃ : ℕ) → all (eqb 0) (drop n (unpacked w₀ w₁ w₂ w₃)) ≡ true
    → (packed (take n (unpacked w₀ w₁ w₂ w₃)) 0 ≡ w₀) × (packed (take n (unpacked w₀ w₁ w₂ w₃)) 4 ≡ w₁)
    × (packed (take n (unpacked w₀ w₁ w₂ w₃)) 8 ≡ w₂) × (packed (take n (unpacked w₀ w₁ w₂ w₃)) 12 ≡ w₃)
unfolding bytes_of packed
words_back n w₀ w₁ w₂ w₃ e =
    let p = packed_padded n (unpacked w₀ w₁ w₂ w₃) e in
    (p 0 ∙ word_of w₀, p 4 ∙ word_of w₁, p 8 ∙ word_of w₂, p 12 ∙ word_of w₃)
