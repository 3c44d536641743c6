-- Numbers added up over a list. Every count is one weighted sum, so what moves between lists is shown by adding up, with one law a step.
use mathlib.Core.Path.{◌≡◌, refl, ap, ◌∙◌}
use mathlib.Core.Logic.{◌↔◌}
use mathlib.Core.List.{List, [], ◌∷◌, ◌++◌, map, append-nil}
use mathlib.Core.Bool.{Bool, true, false, ◌&&◌, not, cond, false≢true}
use Prim.Native.Nat.{ℕ, zero, suc, ◌+◌, ◌*◌, ◌≤◌, ◌<◌}
use native.Mathlib.Omega.{arith}
use lib.Dec.{eqb}
use lib.ListN.{length, take, drop, get_or, set}
use borrow.Author.Tests.{eqb-true, eq-eqb, ne_eqb}
use Rattle.rules.proofs.Tests.{by_cases, both, all_of}
use Rattle.model.specs.Lists.{all, keep, join, distinct, total}

-- a test as a number
abbrev pub bit : Bool → ℕ
bit true = 1
bit false = 0

pub bit_le : (t : Bool) → bit t ≤ 1
bit_le true = omega arith
bit_le false = omega arith

pub bit_same : (a b : ℕ) → a ≡ b → bit (eqb a b) ≡ 1
bit_same a b e = ap bit (eq-eqb a b e)

pub bit_other : (a b : ℕ) → (a ≡ b → ⊥) → bit (eqb a b) ≡ 0
bit_other a b n = ap bit (ne_eqb a b n)

pub eqb_is : (a b : ℕ) → (eqb a b ≡ true) ↔ (a ≡ b)
eqb_is a b = (eqb-true a b, eq-eqb a b)

-- how often a number stands in a list
abbrev pub count : ℕ → List ℕ → ℕ
count x l = total (λ y. bit (eqb x y)) l

module _ {ℓ} {A : Type ℓ} where
  -- the elements that pass a test
  pub kept_count : (f : A → Bool) (l : List A) → length (keep f l) ≡ total (λ x. bit (f x)) l
  kept_count f [] = refl
  kept_count f (x ∷ l) = let e = kept_count f l in by_cases (f x) (λ k. rw k (omega arith)) (λ k. rw k (omega arith))

  pub total_append : (f : A → ℕ) (xs ys : List A) → total f (xs ++ ys) ≡ total f xs + total f ys
  total_append f [] ys = omega arith
  total_append f (x ∷ xs) ys = omega (arith, total_append f xs ys)

  pub length_total : (xs : List A) → length xs ≡ total (λ x. 1) xs
  length_total [] = refl
  length_total (x ∷ xs) = omega (arith, length_total xs)

  -- a list of lists with one of them replaced
  pub total_set : (f : A → ℕ) (bs : List (List A)) (i : ℕ) (c : List A) → i < length bs
      → total f (join (set bs i c)) + total f (get_or bs i []) ≡ total f (join bs) + total f c
  total_set f [] i c h = absurd (omega arith)
  total_set f (b ∷ bs) zero c h = omega (arith, total_append f b (join bs), total_append f c (join bs))
  total_set f (b ∷ bs) (suc i) c h = omega (arith, total_append f b (join bs), total_append f b (join (set bs i c)), total_set f bs i c (omega arith))

  -- one list, and two different lists, of a list of lists
  pub total_one : (f : A → ℕ) (bs : List (List A)) (i : ℕ) → total f (get_or bs i []) ≤ total f (join bs)
  total_one f [] i = omega arith
  total_one f (b ∷ bs) zero = omega (arith, total_append f b (join bs))
  total_one f (b ∷ bs) (suc i) = omega (arith, total_append f b (join bs), total_one f bs i)

  pub total_two : (f : A → ℕ) (bs : List (List A)) (i j : ℕ) → (i ≡ j → ⊥) → total f (get_or bs i []) + total f (get_or bs j []) ≤ total f (join bs)
  total_two f [] i j n = omega arith
  total_two f (b ∷ bs) zero zero n = absurd (n refl)
  total_two f (b ∷ bs) zero (suc j) n = omega (arith, total_append f b (join bs), total_one f bs j)
  total_two f (b ∷ bs) (suc i) zero n = omega (arith, total_append f b (join bs), total_one f bs i)
  total_two f (b ∷ bs) (suc i) (suc j) n = omega (arith, total_append f b (join bs), total_two f bs i j (λ e. n (ap suc e)))

  -- what weighs anything stands in one of the lists
  pub total_join : (f : A → ℕ) (bs : List (List A)) → 0 < total f (join bs) → (i : ℕ) × (i < length bs) × (0 < total f (get_or bs i []))
  total_join f [] h = absurd (omega arith)
  total_join f (b ∷ bs) h = go (total f b) refl (total_join f bs)
    where
      go : (n : ℕ) → total f b ≡ n → (0 < total f (join bs) → (i : ℕ) × (i < length bs) × (0 < total f (get_or bs i [])))
          → (i : ℕ) × (i < length (b ∷ bs)) × (0 < total f (get_or (b ∷ bs) i []))
      go zero e rec = let r = rec (omega (arith, total_append f b (join bs))) in (suc r.0, omega (arith, r.1), r.2)
      go (suc n) e rec = (zero, omega arith, omega arith)

  pub total_last : (f : A → ℕ) (bs : List (List A)) (n : ℕ) → length bs ≡ suc n → total f (join bs) ≡ total f (join (take n bs)) + total f (get_or bs n [])
  total_last f [] n h = absurd (omega arith)
  total_last f (x ∷ []) zero h = rw (append-nil x) (omega arith)
  total_last f (x ∷ []) (suc n) h = absurd (omega arith)
  total_last f (x ∷ y ∷ bs) zero h = absurd (omega arith)
  total_last f (x ∷ y ∷ bs) (suc n) h =
      let i = total_last f (y ∷ bs) n (omega arith) in
      rw (total_append f x (join (y ∷ bs)), total_append f x (join (take n (y ∷ bs)))) (omega arith)

  pub total_keep : (w : A → ℕ) (f : A → Bool) (l : List A) → total w (keep f l) + total w (keep (λ x. not (f x)) l) ≡ total w l
  total_keep w f [] = refl
  total_keep w f (x ∷ l) = let e = total_keep w f l in by_cases (f x) (λ k. rw k (omega arith)) (λ k. rw k (omega arith))

  pub total_update : (f : A → Bool) (u : A → A) (w : A → ℕ) (k : ℕ) (l : List A) → ((x : A) → w (u x) ≡ w x + k)
      → total w (map (λ x. cond (f x) (u x) x) l) ≡ total w l + k * length (keep f l)
  total_update f u w k [] h = omega arith
  total_update f u w k (x ∷ l) h =
      let i = total_update f u w k l h in
      let j = h x in
      by_cases (f x) (λ e. rw e (omega arith)) (λ e. rw e (omega arith))

  -- the elements that are equal to x, by a test of equality
  module _ (eq : A → A → Bool) (is : (a b : A) → (eq a b ≡ true) ↔ (a ≡ b)) where
    none : (x : A) (l : List A) → (all (λ y. not (eq x y)) l ≡ true) ↔ (total (λ y. bit (eq x y)) l ≡ 0)
    none x [] = (λ e. refl, λ e. refl)
    none x (y ∷ ys) = go (eq x y) (none x ys)
      where
        go : (t : Bool) → (all (λ y. not (eq x y)) ys ≡ true) ↔ (total (λ y. bit (eq x y)) ys ≡ 0)
            → ((not t && all (λ y. not (eq x y)) ys) ≡ true) ↔ (bit t + total (λ y. bit (eq x y)) ys ≡ 0)
        go true r = (λ e. absurd (false≢true e), λ e. absurd (omega arith))
        go false r = (λ e. omega (arith, r.0 e), λ e. r.1 (omega arith))

    pub distinct_total : (l : List A) → distinct eq l ≡ true → (x : A) → total (λ y. bit (eq x y)) l ≤ 1
    distinct_total [] e x = omega arith
    distinct_total (y ∷ ys) e x = go (eq x y) refl (distinct_total ys (both (all (λ z. not (eq y z)) ys) (distinct eq ys) e).1 x)
      where
        h : (all (λ z. not (eq y z)) ys ≡ true) × (distinct eq ys ≡ true)
        h = both (all (λ z. not (eq y z)) ys) (distinct eq ys) e

        go : (t : Bool) → eq x y ≡ t → total (λ y. bit (eq x y)) ys ≤ 1 → bit (eq x y) + total (λ y. bit (eq x y)) ys ≤ 1
        go true d rec =
            let z : total (λ y. bit (eq x y)) ys ≡ 0 = ap (λ (k : A). total (λ y. bit (eq k y)) ys) ((is x y).0 d) ∙ (none y ys).0 h.0 in
            omega (arith, bit_le (eq x y))
        go false d rec = omega (arith, ap bit d)

    pub total_distinct : (l : List A) → ((x : A) → total (λ y. bit (eq x y)) l ≤ 1) → distinct eq l ≡ true
    total_distinct [] h = refl
    total_distinct (x ∷ xs) h = all_of ((none x xs).1 (omega (arith, h x, ap bit ((is x x).1 refl)))) (total_distinct xs (λ i. omega (arith, h i)))

pub total_map : {A B : Type 0} (f : B → ℕ) (g : A → B) (l : List A) → total f (map g l) ≡ total (λ x. f (g x)) l
total_map f g [] = refl
total_map f g (x ∷ xs) = omega (arith, total_map f g xs)

pub total_flat : {A B : Type 0} (f : B → ℕ) (g : A → List B) (l : List A) → total f (join (map g l)) ≡ total (λ x. total f (g x)) l
total_flat f g [] = refl
total_flat f g (x ∷ xs) = omega (arith, total_append f (g x) (join (map g xs)), total_flat f g xs)

pub total_maps : {A B : Type 0} (f : B → ℕ) (g : A → B) (bs : List (List A)) → total f (join (map (map g) bs)) ≡ total (λ x. f (g x)) (join bs)
total_maps f g [] = refl
total_maps f g (b ∷ bs) =
    omega (arith, total_append f (map g b) (join (map (map g) bs)), total_append (λ x. f (g x)) b (join bs), total_map f g b, total_maps f g bs)

-- the first number of a list and the rest
pub total_first : (w : ℕ → ℕ) (l : List ℕ) → 0 < length l → total w l ≡ w (get_or l 0 0) + total w (drop 1 l)
total_first w [] h = absurd (omega arith)
total_first w (y ∷ l) h = refl
