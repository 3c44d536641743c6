-- Members of a list of cells, and walks by next words. A fact of each element is a fact of each number that stands in the list
-- (`every_in`, `in_every`). A walk that ends makes the cells that are read on it stand as a chain (`led_stand`), and a chain that stands
-- is such a walk (`stand_led`). Cells in range, none twice and as many as there are, are each of them exactly
-- once (`marked_once`), and weigh what all of them weigh, in whatever order (`once_total`).
use mathlib.Core.Path.{◌≡◌, refl, sym, ap, ◌∙◌, subst}
use mathlib.Core.Logic.{⊎_elim}
use mathlib.Core.List.{List, [], ◌∷◌, map}
use mathlib.Core.Bool.{Bool, true, false, not}
use Prim.Native.Nat.{ℕ, zero, suc, ◌+◌, ◌-◌, ◌≤◌, ◌<◌}
use native.Mathlib.Nat.{zero-add}
use native.Mathlib.Omega.{arith}
use lib.Dec.{eqb}
use lib.ListN.{length, get_or, get_or-replicate}
use borrow.Author.Tests.{eqb-true, eq-eqb, ne_eqb}
use Rattle.rules.proofs.Tests.{by_cases, both, all_of, eq?, lt?}
use Rattle.model.specs.Lists.{all, keep, from, join, total}
use Rattle.model.specs.Layout.{Cell, head_or, chained, first, free_cell, follow}
use Rattle.model.specs.Meaning.{times, In, ExactlyOnce, Leads}
use Rattle.model.proofs.Lists.{length_none, keep_keep, keep_drop, Every}
use Rattle.model.proofs.Tables.{length_table, table_at}
use Rattle.model.proofs.Sums.{bit, count, kept_count, bit_le, bit_same, bit_other, total_join, total_one, total_keep}
use Rattle.model.proofs.Each.{many, Each, cover, count_cover, count_full}
use Rattle.model.proofs.Chains.{Memory, Stand}

-- members

pub times_count : (i : ℕ) (l : List ℕ) → times i l ≡ count i l
times_count i l = kept_count (eqb i) l

pub every_in : (P : ℕ → Type 0) (l : List ℕ) → Every P l → (i : ℕ) → In i l → P i
every_in P [] r i h = absurd (omega arith)
every_in P (x ∷ l) r i h =
    ⊎_elim (λ (e : i ≡ x). subst P (sym e) r.0)
    (λ (d : i ≡ x → ⊥). every_in P l r.1 i (omega (arith, times_count i l, times_count i (x ∷ l), bit_other i x d))) (eq? i x)

pub in_every : (P : ℕ → Type 0) (l : List ℕ) → ((i : ℕ) → In i l → P i) → Every P l
in_every P [] f = tt
in_every P (x ∷ l) f = (
  f x (omega (arith, times_count x (x ∷ l), bit_same x x refl)),
  in_every P l (λ i h. f i (omega (arith, times_count i l, times_count i (x ∷ l)))),
)

pub every_all : {A : Type 0} (f : A → Bool) (l : List A) → Every (λ x. f x ≡ true) l → all f l ≡ true
every_all f [] r = refl
every_all f (x ∷ l) r = all_of r.0 (every_all f l r.1)

pub all_every : {A : Type 0} (f : A → Bool) (l : List A) → all f l ≡ true → Every (λ x. f x ≡ true) l
all_every f [] r = tt
all_every f (x ∷ l) r = let h = both (f x) (all f l) r in (h.0, all_every f l h.1)

-- members of one of the lists f a to f (a + n - 1)
pub in_one : (f : ℕ → List ℕ) (n b i : ℕ) → b < n → In i (f b) → In i (join (map f (from 0 n)))
in_one f n b i h p =
    let e : get_or (map f (from 0 n)) b [] ≡ f b = table_at f 0 n [] b h ∙ ap f (omega arith) in
    omega (arith, times_count i (f b), times_count i (join (map f (from 0 n))), ap (count i) e, total_one (λ (x : ℕ). bit (eqb i x)) (map f (from 0 n)) b)

pub one_in : (f : ℕ → List ℕ) (n i : ℕ) → In i (join (map f (from 0 n))) → (b : ℕ) × (b < n) × In i (f b)
one_in f n i p = go (total_join (λ (x : ℕ). bit (eqb i x)) (map f (from 0 n)) (omega (arith, times_count i (join (map f (from 0 n))))))
  where
    go : (b : ℕ) × (b < length (map f (from 0 n))) × (0 < count i (get_or (map f (from 0 n)) b [])) → (b : ℕ) × (b < n) × In i (f b)
    go (b, h, q) =
        let b₁ : b < n = omega (arith, length_table f 0 n) in
        (b, b₁, omega (arith, times_count i (f b), ap (count i) (table_at f 0 n [] b b₁ ∙ ap f (zero-add b))))

-- a weight of two members, and a test that no two members pass

total_member : (f : ℕ → ℕ) (l : List ℕ) (i : ℕ) → In i l → f i ≤ total f l
total_member f [] i h = absurd (omega arith)
total_member f (x ∷ l) i h =
    ⊎_elim (λ (e : i ≡ x). omega (arith, ap f e))
    (λ (d : i ≡ x → ⊥). omega (arith, total_member f l i (omega (arith, times_count i l, times_count i (x ∷ l), bit_other i x d)))) (eq? i x)

pub total_members : (f : ℕ → ℕ) (l : List ℕ) (i j : ℕ) → In i l → In j l → (i ≡ j → ⊥) → f i + f j ≤ total f l
total_members f [] i j h k n = absurd (omega arith)
total_members f (x ∷ l) i j h k n =
    let member : (y : ℕ) → (y ≡ x → ⊥) → In y (x ∷ l) → In y l = λ y d p. omega (arith, times_count y l, times_count y (x ∷ l), bit_other y x d) in
    ⊎_elim (λ (e : i ≡ x). omega (arith, ap f e, total_member f l j (member j (λ d. n (e ∙ sym d)) k)))
    (λ (d : i ≡ x → ⊥). ⊎_elim (λ (e : j ≡ x). omega (arith, ap f e, total_member f l i (member i d h)))
    (λ (g : j ≡ x → ⊥). omega (arith, total_members f l i j (member i d h) (member j g k) n)) (eq? j x)) (eq? i x)

total_none : (f : ℕ → Bool) (l : List ℕ) → ((i : ℕ) → In i l → f i ≡ false) → total (λ i. bit (f i)) l ≡ 0
total_none f [] h = refl
total_none f (x ∷ l) h =
    let r = in_every (λ i. f i ≡ false) (x ∷ l) h in
    omega (arith, ap bit r.0, total_none f l (every_in (λ i. f i ≡ false) l r.1))

pub total_apart : (f : ℕ → Bool) (l : List ℕ) → ((i : ℕ) → count i l ≤ 1) → ((i j : ℕ) → In i l → In j l → f i ≡ true → f j ≡ true → i ≡ j)
    → total (λ i. bit (f i)) l ≤ 1
total_apart f [] o h = omega arith
total_apart f (x ∷ l) o h =
    by_cases (f x)
    (λ e. omega (arith, bit_le (f x), total_none f l (other e)))
    (λ e. omega (arith, ap bit e, total_apart f l (λ i. omega (arith, o i)) (λ i j p q. h i j (later i p) (later j q))))
  where
    later : (i : ℕ) → In i l → In i (x ∷ l)
    later i p = omega (arith, times_count i l, times_count i (x ∷ l))

    other : f x ≡ true → (i : ℕ) → In i l → f i ≡ false
    other e i p =
        by_cases (f i)
        (λ g. let d = h x i (omega (arith, times_count x (x ∷ l), bit_same x x refl)) (later i p) e g in
        absurd (omega (arith, o i, times_count i l, bit_same i x (sym d))))
        (λ g. g)

-- walks

pub led_first : (next : ℕ → ℕ) (h : ℕ) (l : List ℕ) → Leads next h l → h ≡ first l
led_first next h [] r = r
led_first next h (x ∷ l) r = r.0

pub led_follow : (next : ℕ → ℕ) (fuel h : ℕ) (l : List ℕ) → Leads next h l → Every (λ i. 1 ≤ i) l → length l ≤ fuel → follow fuel next h ≡ l
unfolding follow
led_follow next zero h [] r p b = refl
led_follow next (suc fuel) h [] r p b = rw (eq-eqb h 0 r)
led_follow next zero h (x ∷ l) r p b = absurd (omega arith)
led_follow next (suc fuel) h (x ∷ l) r p b =
    rw (ne_eqb h 0 (omega (arith, r.0, p.0)), r.0) (ap (λ (l : List ℕ). x ∷ l) (led_follow next fuel (next x) l r.1 p.1 (omega arith)))

-- cell i has the words of its width that follow the next word of i
abbrev pub Reads : Memory → ℕ → (ℕ → Cell) → ℕ → Type 0
Reads word width cell i = (k : ℕ) → suc k < width → word i (suc k) ≡ get_or (cell i).words k 0

module _ (word : Memory) (width : ℕ) (cell : ℕ → Cell) (numbered : (i : ℕ) → (cell i).at ≡ i) where
  pub led_stand : (h : ℕ) (l : List ℕ) → Leads (λ i. word i 0) h l → Every (Reads word width cell) l
      → Stand word width (chained 0 (map cell l)) × (h ≡ head_or 0 (map cell l))
  led_stand h [] r f = (tt, r)
  led_stand h (x ∷ xs) r f =
      let q = led_stand (word x 0) xs r.1 f.1 in
      ((λ k l. at k l q.1, q.0), r.0 ∙ sym (numbered x))
    where
      at : (k : ℕ) → k < width → word x 0 ≡ head_or 0 (map cell xs) → word (cell x).at k ≡ get_or (head_or 0 (map cell xs) ∷ (cell x).words) k 0
      at zero l e = ap (λ (i : ℕ). word i 0) (numbered x) ∙ e
      at (suc k) l e = ap (λ (i : ℕ). word i (suc k)) (numbered x) ∙ f.0 k l

  pub stand_led : 0 < width → (l : List ℕ) → Stand word width (chained 0 (map cell l)) → Leads (λ i. word i 0) (head_or 0 (map cell l)) l × Every (Reads word width cell) l
  stand_led some [] q = (refl, tt)
  stand_led some (x ∷ xs) q =
      let t = stand_led some xs q.1 in
      ((numbered x, subst (λ (h : ℕ). Leads (λ i. word i 0) h xs) (sym (at 0 some)) t.0), (λ k l. at (suc k) l, t.1))
    where
      at : (k : ℕ) → k < width → word x k ≡ get_or (head_or 0 (map cell xs) ∷ (cell x).words) k 0
      at k l = ap (λ (i : ℕ). word i k) (sym (numbered x)) ∙ q.0 k l

-- a free cell has zero words
pub reads_zero : (word : Memory) (width i : ℕ) → Reads word width (free_cell width) i → (k : ℕ) → 1 ≤ k → k < width → word i k ≡ 0
unfolding free_cell
reads_zero word width i r k a b =
    let e : suc (k - 1) ≡ k = omega arith in
    subst (λ (n : ℕ). word i n ≡ 0) e (r (k - 1) (omega arith) ∙ get_or-replicate (width - 1) (k - 1) 0 0 (omega arith))

pub zero_reads : (word : Memory) (width i : ℕ) → ((k : ℕ) → 1 ≤ k → k < width → word i k ≡ 0) → Reads word width (free_cell width) i
unfolding free_cell
zero_reads word width i f k h = f (suc k) (omega arith) h ∙ sym (get_or-replicate (width - 1) k 0 0 (omega arith))

-- exactly once

-- in range, none twice, and as many as there are
pub marked_once : (n : ℕ) (l : List ℕ) → ((i : ℕ) → In i l → (1 ≤ i) × (i ≤ n)) → ((i : ℕ) → times i l ≤ 1) → length l ≡ n → ExactlyOnce n l
marked_once n l p o e = record {
  cells = p;
  once = λ i a b. times_count i l ∙ count_cover n l (λ i h. p i (omega (arith, times_count i l))) (λ i. omega (arith, times_count i l, o i)) e i a b;
}

-- of the cells of chains, by their numbers
pub each_once_lem : (n : ℕ) (cs : List Cell) (l : List ℕ) → ((i : ℕ) → many i cs ≡ count i l) → Each n cs → ExactlyOnce n l
each_once_lem n cs l m e = record {
  cells = λ i h. e.inside i (omega (arith, m i, times_count i l));
  once = λ i a b. omega (arith, m i, times_count i l, cover e i a b);
}

pub once_le : (n : ℕ) (l : List ℕ) → ExactlyOnce n l → (i : ℕ) → count i l ≤ 1
once_le n l r i =
    ⊎_elim (λ (z : 0 < count i l). let (a, b) = r.cells i (omega (arith, times_count i l)) in omega (arith, times_count i l, r.once i a b))
    (λ (z : count i l ≤ 0). omega arith) (lt? 0 (count i l))

pub once_each : (n : ℕ) (cs : List Cell) (l : List ℕ) → ((i : ℕ) → many i cs ≡ count i l) → length cs ≡ length l → ExactlyOnce n l → Each n cs
once_each n cs l m e r =
    let inside : (i : ℕ) → 0 < count i l → (1 ≤ i) × (i ≤ n) = λ i h. r.cells i (omega (arith, times_count i l)) in
    record {
      once = λ i. omega (arith, m i, once_le n l r i);
      inside = λ i h. inside i (omega (arith, m i));
      count = e ∙ count_full n l inside (λ i a b. sym (times_count i l) ∙ r.once i a b);
    }

-- whatever the cells weigh, in any order

from_last : (f : ℕ → ℕ) (a n : ℕ) → total f (from a (suc n)) ≡ total f (from a n) + f (a + n)
from_last f a zero = let e : a + 0 ≡ a = omega arith in omega (arith, ap f e)
from_last f a (suc n) = let e : suc a + n ≡ a + suc n = omega arith in omega (arith, from_last f (suc a) n, ap f e)

kept_total : (f : ℕ → ℕ) (m : ℕ) (l : List ℕ) → times m l ≡ 1 → total f (keep (eqb m) l) ≡ f m
kept_total f m [] e = absurd (omega arith)
kept_total f m (x ∷ l) e =
    by_cases (eqb m x)
    (λ k. rw (k, length_none (keep (eqb m) l) (omega (arith, rw k at e))) (omega (arith, ap f (eqb-true m x k))))
    (λ k. rw k (kept_total f m l (rw k at e)))

times_without : (m i : ℕ) (l : List ℕ) → (i ≡ m → ⊥) → times i (keep (λ x. not (eqb m x)) l) ≡ times i l
times_without m i l d =
    ap length (keep_keep (eqb i) (λ x. not (eqb m x)) l (λ x e. rw (ne_eqb m x (λ h. d (eqb-true i x e ∙ sym h)))))

times_none : (m : ℕ) (l : List ℕ) → times m (keep (λ x. not (eqb m x)) l) ≡ 0
times_none m l = ap length (keep_drop (eqb m) (λ x. not (eqb m x)) l (λ x e. rw e))

pub once_total : (n : ℕ) (l : List ℕ) → ExactlyOnce n l → (f : ℕ → ℕ) → total f l ≡ total f (from 1 n)
once_total zero [] r f = refl
once_total zero (x ∷ l) r f =
    let h = r.cells x (omega (arith, times_count x (x ∷ l), bit_same x x refl)) in
    absurd (omega arith)
once_total (suc n) l r f =
    let others = keep (λ x. not (eqb (suc n) x)) l in
    let fewer : ExactlyOnce n others = record {
      cells = λ i h. ⊎_elim (λ (e : i ≡ suc n). absurd (omega (arith, ap (λ (j : ℕ). times j others) e, times_none (suc n) l)))
          (λ (d : i ≡ suc n → ⊥). let (a, b) = r.cells i (omega (arith, times_without (suc n) i l d)) in (a, omega arith)) (eq? i (suc n));
      once = λ i a b. times_without (suc n) i l (omega arith) ∙ r.once i a (omega arith);
    } in
    let e : 1 + n ≡ suc n = omega arith in
    omega (
      arith,
      total_keep f (eqb (suc n)) l,
      kept_total f (suc n) l (r.once (suc n) (omega arith) (omega arith)),
      once_total n others fewer f,
      from_last f 1 n,
      ap f e,
    )
