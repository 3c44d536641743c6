-- Laws of the lists that a report is made of. What is kept of a list is counted by adding up a 1 for each element that the test takes (`kept_count` in Sums), so every number
-- of the report is a sum, and sums over parts are the sum over the whole. The numbers from 1 on rise and have each of theirs once (`from_rises`, `from_once`), and
-- what is kept of a rising list rises (`keep_rises`). The lowest and the highest of some numbers bound all of them and are among them. None of these knows of cards.
use Prim.Native.Nat.{ℕ, zero, suc, ◌+◌, ◌≤◌, ◌<◌}
use mathlib.Core.Path.{◌≡◌, refl, sym, ap, subst}
use mathlib.Core.Logic.{⊎_elim}
use mathlib.Core.List.{List, [], ◌∷◌}
use mathlib.Core.Bool.{Bool, true}
use native.Mathlib.Omega.{arith}
use lib.Dec.{ltb, eqb}
use lib.ListN.{length, length-append}
use borrow.Author.Tests.{ltb-true, ltb-false, eqb-true}
use Rattle.rules.proofs.Tests.{by_cases, eq?, lt?}
use Rattle.model.specs.Lists.{keep, join, from, total}
use Rattle.model.specs.Meaning.{In}
use Rattle.model.specs.Report.{lowest, highest}
use Rattle.model.proofs.Lists.{keep_append, keep_drop, Every, every_keep, every_imp}
use Rattle.model.proofs.Sums.{bit, count, bit_same, bit_other}
use Rattle.model.proofs.Walks.{times_count, every_in}

-- sums

module _ {A : Type 0} where
  pub total_same : (f g : A → ℕ) (l : List A) → ((x : A) → f x ≡ g x) → total f l ≡ total g l
  total_same f g [] h = refl
  total_same f g (x ∷ l) h = omega (arith, h x, total_same f g l h)

  pub total_zero : (l : List A) → total (λ x. 0) l ≡ 0
  total_zero [] = refl
  total_zero (x ∷ l) = omega (arith, total_zero l)

  pub total_add : (f g : A → ℕ) (l : List A) → total (λ x. f x + g x) l ≡ total f l + total g l
  total_add f g [] = refl
  total_add f g (x ∷ l) = omega (arith, total_add f g l)

  pub join_long : (ls : List (List A)) → length (join ls) ≡ total length ls
  join_long [] = refl
  join_long (l ∷ ls) = omega (arith, length-append l (join ls), join_long ls)

  pub join_kept : (f : A → Bool) (ls : List (List A)) → length (keep f (join ls)) ≡ total (λ l. length (keep f l)) ls
  join_kept f [] = refl
  join_kept f (l ∷ ls) = rw (keep_append f l (join ls), length-append (keep f l) (keep f (join ls)), join_kept f ls)

  -- elements that weigh nothing may be left out
  pub keep_weighs : (f : A → ℕ) (l : List A) → total f (keep (λ x. ltb 0 (f x)) l) ≡ total f l
  keep_weighs f [] = refl
  keep_weighs f (x ∷ l) =
      let e = keep_weighs f l in
      by_cases (ltb 0 (f x)) (λ k. rw k (omega arith)) (λ k. rw k (omega (arith, ltb-false 0 (f x) k)))

  -- there are no more elements that weigh something than they all weigh, and some where they weigh something
  pub weighty_few : (f : A → ℕ) (l : List A) → total (λ x. bit (ltb 0 (f x))) l ≤ total f l
  weighty_few f [] = omega arith
  weighty_few f (x ∷ l) =
      let e = weighty_few f l in
      by_cases (ltb 0 (f x)) (λ k. omega (arith, ap bit k, ltb-true 0 (f x) k)) (λ k. omega (arith, ap bit k))

  pub weighty_some : (f : A → ℕ) (l : List A) → 0 < total f l → 0 < total (λ x. bit (ltb 0 (f x))) l
  weighty_some f [] h = absurd (omega arith)
  weighty_some f (x ∷ l) h =
      by_cases (ltb 0 (f x))
      (λ k. omega (arith, ap bit k))
      (λ k. omega (arith, weighty_some f l (omega (arith, ltb-false 0 (f x) k))))

-- rising

-- each number is below all behind it
abbrev pub Rises : List ℕ → Type 0
Rises [] = Unit {0}
Rises (x ∷ l) = Every (λ y. x < y) l × Rises l

pub keep_rises : (f : ℕ → Bool) (l : List ℕ) → Rises l → Rises (keep f l)
keep_rises f [] r = tt
keep_rises f (x ∷ l) r =
    by_cases (f x) (λ e. rw e (every_keep (λ y. x < y) f l r.0, keep_rises f l r.1)) (λ e. rw e (keep_rises f l r.1))

from_every : (P : ℕ → Type 0) (a n : ℕ) → ((x : ℕ) → a ≤ x → x < a + n → P x) → Every P (from a n)
from_every P a zero h = tt
from_every P a (suc n) h = (h a (omega arith) (omega arith), from_every P (suc a) n (λ x l k. h x (omega arith) (omega arith)))

pub from_rises : (a n : ℕ) → Rises (from a n)
from_rises a zero = tt
from_rises a (suc n) = (from_every (λ y. a < y) (suc a) n (λ x l h. omega arith), from_rises (suc a) n)

from_past : (x a n : ℕ) → x < a → count x (from a n) ≡ 0
from_past x a zero h = refl
from_past x a (suc n) h = omega (arith, bit_other x a (omega arith), from_past x (suc a) n (omega arith))

pub from_once : (x a n : ℕ) → a ≤ x → x < a + n → count x (from a n) ≡ 1
from_once x a zero l h = absurd (omega arith)
from_once x a (suc n) l h =
    ⊎_elim (λ (e : x ≡ a). omega (arith, bit_same x a e, from_past x (suc a) n (omega arith)))
    (λ (d : x ≡ a → ⊥). omega (arith, bit_other x a d, from_once x (suc a) n (omega arith) (omega arith))) (eq? x a)

-- what is kept of the numbers 1 to n passes the test and is one of them
pub kept_from : (f : ℕ → Bool) (n k : ℕ) → In k (keep f (from 1 n)) → (f k ≡ true) × (1 ≤ k) × (k ≤ n)
kept_from f n k h =
    let Range : ℕ → Type 0 = λ x. (1 ≤ x) × (x ≤ n) in
    let r = every_in Range (keep f (from 1 n)) (every_keep Range f (from 1 n) (from_every Range 1 n (λ x l m. (l, omega arith)))) k h in
    (by_cases (f k) (λ e. e) (λ e. absurd (omega (arith, ap length (keep_drop (eqb k) f (from 1 n) (λ x t. rw (← (eqb-true k x t)) e))))), r.0, r.1)

-- the lowest and the highest

in_head : (x d : ℕ) (l : List ℕ) → x ≡ d → In x (d ∷ l)
in_head x d l e = omega (arith, times_count x (d ∷ l), bit_same x d e)

in_tail : (x y d : ℕ) (l : List ℕ) → x ≡ y → In y l → In x (d ∷ l)
in_tail x y d l e h = subst (λ (n : ℕ). In n (d ∷ l)) (sym e) (omega (arith, times_count y l, times_count y (d ∷ l)))

lowest_every : (l : List ℕ) → Every (λ d. lowest l ≤ d) l
unfolding lowest
lowest_every [] = tt
lowest_every (d ∷ []) = (omega arith, tt)
lowest_every (d ∷ e ∷ ds) =
    (omega arith, every_imp (λ x. lowest (e ∷ ds) ≤ x) (λ x. lowest (d ∷ e ∷ ds) ≤ x) (e ∷ ds) (λ x h. omega arith) (lowest_every (e ∷ ds)))

highest_every : (l : List ℕ) → Every (λ d. d ≤ highest l) l
unfolding highest
highest_every [] = tt
highest_every (d ∷ ds) = (omega arith, every_imp (λ x. x ≤ highest ds) (λ x. x ≤ highest (d ∷ ds)) ds (λ x h. omega arith) (highest_every ds))

pub lowest_bounds : (l : List ℕ) (d : ℕ) → In d l → lowest l ≤ d
lowest_bounds l = every_in (λ d. lowest l ≤ d) l (lowest_every l)

pub highest_bounds : (l : List ℕ) (d : ℕ) → In d l → d ≤ highest l
highest_bounds l = every_in (λ d. d ≤ highest l) l (highest_every l)

pub lowest_in : (l : List ℕ) → 0 < length l → In (lowest l) l
unfolding lowest
lowest_in [] h = absurd (omega arith)
lowest_in (d ∷ []) h = in_head d d [] refl
lowest_in (d ∷ e ∷ ds) h =
    ⊎_elim (λ (k : d < lowest (e ∷ ds)). in_head (lowest (d ∷ e ∷ ds)) d (e ∷ ds) (omega arith))
    (λ (k : lowest (e ∷ ds) ≤ d). in_tail (lowest (d ∷ e ∷ ds)) (lowest (e ∷ ds)) d (e ∷ ds) (omega arith) (lowest_in (e ∷ ds) (omega arith)))
    (lt? d (lowest (e ∷ ds)))

pub highest_in : (l : List ℕ) → 0 < length l → In (highest l) l
unfolding highest
highest_in [] h = absurd (omega arith)
highest_in (d ∷ ds) h =
    ⊎_elim (λ (k : d < highest ds). in_tail (highest (d ∷ ds)) (highest ds) d ds (omega arith) (highest_in ds (some ds k)))
    (λ (k : highest ds ≤ d). in_head (highest (d ∷ ds)) d ds (omega arith)) (lt? d (highest ds))
  where
    some : (ds : List ℕ) → d < highest ds → 0 < length ds
    some [] k = absurd (omega arith)
    some (e ∷ ds) k = omega arith
