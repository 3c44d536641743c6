-- n cells, all from 1 to n and none twice, are all of them (the pigeonhole principle, by adding up counts).
use mathlib.Core.Path.{◌≡◌, refl, sym, ap, ◌∙◌}
use mathlib.Core.Logic.{⊎_elim}
use mathlib.Core.List.{List, [], ◌∷◌}
use mathlib.Core.Bool.{true, ◌&&◌}
use Prim.Native.Nat.{ℕ, zero, suc, ◌+◌, ◌≤◌, ◌<◌}
use native.Mathlib.Omega.{arith}
use lib.Dec.{eqb}
use lib.ListN.{length}
use borrow.Author.Tests.{eqb-true, eq-eqb}
use Rattle.model.specs.Lists.{all, between, distinct, total}
use Rattle.model.specs.Layout.{Cell, ats_of, each_once}
use Rattle.rules.proofs.Tests.{eq?, both, all_of}
use Rattle.model.proofs.Lists.{between_is}
use Rattle.model.proofs.Sums.{count, bit, bit_same, bit_other, eqb_is, distinct_total, total_distinct}

-- f 1 to f n
sum : ℕ → (ℕ → ℕ) → ℕ
sum zero f = 0
sum (suc n) f = f (suc n) + sum n f

sum_add : (n : ℕ) (f g : ℕ → ℕ) → sum n (λ i. f i + g i) ≡ sum n f + sum n g
unfolding sum
sum_add zero f g = omega arith
sum_add (suc n) f g = omega (arith, sum_add n f g)

sum_zero : (n : ℕ) → sum n (λ i. 0) ≡ 0
unfolding sum
sum_zero zero = refl
sum_zero (suc n) = omega (arith, sum_zero n)

sum_past : (n x : ℕ) → n < x → sum n (λ i. bit (eqb i x)) ≡ 0
unfolding sum
sum_past zero x h = refl
sum_past (suc n) x h = omega (arith, sum_past n x (omega arith), bit_other (suc n) x (omega arith))

sum_bit : (n x : ℕ) → 1 ≤ x → x ≤ n → sum n (λ i. bit (eqb i x)) ≡ 1
unfolding sum
sum_bit zero x h k = absurd (omega arith)
sum_bit (suc n) x h k =
    ⊎_elim (λ e. omega (arith, bit_same (suc n) x e, sum_past n x (omega arith)))
    (λ d. omega (arith, bit_other (suc n) x d, sum_bit n x h (omega arith))) (eq? (suc n) x)

sum_le : (n : ℕ) (f : ℕ → ℕ) → ((i : ℕ) → f i ≤ 1) → sum n f ≤ n
unfolding sum
sum_le zero f h = omega arith
sum_le (suc n) f h = omega (arith, h (suc n), sum_le n f h)

sum_full : (n : ℕ) (f : ℕ → ℕ) → ((i : ℕ) → f i ≤ 1) → n ≤ sum n f → (i : ℕ) → 1 ≤ i → i ≤ n → f i ≡ 1
unfolding sum
sum_full zero f h k i a b = absurd (omega arith)
sum_full (suc n) f h k i a b =
    ⊎_elim (λ (e : i ≡ suc n). let g : f (suc n) ≡ 1 = omega (arith, h (suc n), sum_le n f h) in ap f e ∙ g)
    (λ (d : i ≡ suc n → ⊥). sum_full n f h (omega (arith, h (suc n))) i a (omega arith)) (eq? i (suc n))

-- the counts of 1 to n add up to the length
sum_tally : (n : ℕ) (l : List ℕ) → ((i : ℕ) → 0 < count i l → (1 ≤ i) × (i ≤ n)) → sum n (λ i. count i l) ≡ length l
sum_tally n [] r = sum_zero n
sum_tally n (x ∷ xs) r =
    let h = r x (omega (arith, bit_same x x refl)) in
    omega (arith, sum_add n (λ i. bit (eqb i x)) (λ i. count i xs), sum_bit n x h.0 h.1, sum_tally n xs (λ i k. r i (omega arith)))

-- the pigeonhole principle: n numbers from 1 to n, none twice, are all of them
pub count_cover : (n : ℕ) (l : List ℕ) → ((i : ℕ) → 0 < count i l → (1 ≤ i) × (i ≤ n)) → ((i : ℕ) → count i l ≤ 1) → length l ≡ n
    → (i : ℕ) → 1 ≤ i → i ≤ n → count i l ≡ 1
count_cover n l r o e = sum_full n (λ i. count i l) o (omega (arith, sum_tally n l r))

-- and numbers from 1 to n, each of them once, are n
sum_ones : (n : ℕ) (f : ℕ → ℕ) → ((i : ℕ) → 1 ≤ i → i ≤ n → f i ≡ 1) → sum n f ≡ n
unfolding sum
sum_ones zero f h = refl
sum_ones (suc n) f h = omega (arith, h (suc n) (omega arith) (omega arith), sum_ones n f (λ i a b. h i a (omega arith)))

pub count_full : (n : ℕ) (l : List ℕ) → ((i : ℕ) → 0 < count i l → (1 ≤ i) × (i ≤ n)) → ((i : ℕ) → 1 ≤ i → i ≤ n → count i l ≡ 1) → length l ≡ n
count_full n l r f = sym (sum_tally n l r) ∙ sum_ones n (λ i. count i l) f

-- the tests

pub all_tally : (n : ℕ) (l : List ℕ) → all (between 1 n) l ≡ true → (i : ℕ) → 0 < count i l → (1 ≤ i) × (i ≤ n)
all_tally n [] e i h = absurd (omega arith)
all_tally n (x ∷ xs) e i h =
    let b = both (between 1 n x) (all (between 1 n) xs) e in
    let r = (between_is 1 n x).0 b.0 in
    ⊎_elim (λ (d : i ≡ x). (omega (arith, r.0), omega (arith, r.1)))
    (λ (d : i ≡ x → ⊥). all_tally n xs b.1 i (omega (arith, bit_other i x d))) (eq? i x)

tally_all : (n : ℕ) (l : List ℕ) → ((i : ℕ) → 0 < count i l → (1 ≤ i) × (i ≤ n)) → all (between 1 n) l ≡ true
tally_all n [] h = refl
tally_all n (x ∷ xs) h = all_of ((between_is 1 n x).1 (h x (omega (arith, bit_same x x refl)))) (tally_all n xs (λ i k. h i (omega arith)))

-- cells

-- how many cells of a list have the number i
abbrev pub many : ℕ → List Cell → ℕ
many i cs = total (λ c. bit (eqb i c.at)) cs

many_ats : (i : ℕ) (cs : List Cell) → count i (ats_of cs) ≡ many i cs
many_ats i [] = refl
many_ats i (c ∷ cs) = omega (arith, many_ats i cs)

pub length_ats : (cs : List Cell) → length (ats_of cs) ≡ length cs
length_ats [] = refl
length_ats (c ∷ cs) = ap suc (length_ats cs)

-- each of the cells 1 to n stands once in the list, and no other
pub record Each (n : ℕ) (cs : List Cell) : Type 0 where
  pub once : (i : ℕ) → many i cs ≤ 1
  pub inside : (i : ℕ) → 0 < many i cs → (1 ≤ i) × (i ≤ n)
  pub count : length cs ≡ n

pub cover : {n : ℕ} {cs : List Cell} → Each n cs → (i : ℕ) → 1 ≤ i → i ≤ n → many i cs ≡ 1
cover {n} {cs} r i a b =
    sym (many_ats i cs)
    ∙ count_cover n (ats_of cs) (λ i h. r.inside i (omega (arith, many_ats i cs))) (λ i. omega (arith, many_ats i cs, r.once i)) (length_ats cs ∙ r.count) i a b

pub each_is : (n : ℕ) (cs : List Cell) → each_once n (ats_of cs) ≡ true → Each n cs
unfolding each_once
each_is n cs e =
    let h = both (eqb (length (ats_of cs)) n) (all (between 1 n) (ats_of cs) && distinct eqb (ats_of cs)) e in
    let k = both (all (between 1 n) (ats_of cs)) (distinct eqb (ats_of cs)) h.1 in
    record {
      once = λ i. omega (arith, many_ats i cs, distinct_total eqb eqb_is (ats_of cs) k.1 i);
      inside = λ i p. all_tally n (ats_of cs) k.0 i (omega (arith, many_ats i cs));
      count = sym (length_ats cs) ∙ eqb-true (length (ats_of cs)) n h.0;
    }

pub is_each : (n : ℕ) (cs : List Cell) → Each n cs → each_once n (ats_of cs) ≡ true
unfolding each_once
is_each n cs r =
    all_of (eq-eqb (length (ats_of cs)) n (length_ats cs ∙ r.count))
    (all_of (tally_all n (ats_of cs) (λ i h. r.inside i (omega (arith, many_ats i cs))))
    (total_distinct eqb eqb_is (ats_of cs) (λ i. omega (arith, many_ats i cs, r.once i))))

-- cells that only move, with the same numbers as before, are each of 1 to n once as before
pub each_moved : {n : ℕ} {cs ds : List Cell} → ((i : ℕ) → many i ds ≡ many i cs) → length ds ≡ length cs → Each n cs → Each n ds
each_moved m l r = record { once = λ i. omega (arith, m i, r.once i); inside = λ i h. r.inside i (omega (arith, m i)); count = l ∙ r.count }
