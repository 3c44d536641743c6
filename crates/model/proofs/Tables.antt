-- Lists that are tables: the values of a function from a on. A piece of a list is the table of its elements (`take_table`).
use mathlib.Core.Path.{◌≡◌, refl, sym, ap, ◌∙◌}
use mathlib.Core.List.{List, map}
use Prim.Native.Nat.{ℕ, zero, suc, ◌+◌, ◌≤◌, ◌<◌}
use native.Mathlib.Nat.{zero-add}
use native.Mathlib.Omega.{arith}
use lib.ListN.{length, get_or, take, drop, length-drop}
use lib.Seq.{length-take-le, get_or-take, get_or-drop, ext_get_or}
use Rattle.model.specs.Lists.{from}

module _ {A : Type 0} where
  pub length_table : (f : ℕ → A) (a n : ℕ) → length (map f (from a n)) ≡ n
  length_table f a zero = refl
  length_table f a (suc n) = ap suc (length_table f (suc a) n)

  pub table_at : (f : ℕ → A) (a n : ℕ) (d : A) (i : ℕ) → i < n → get_or (map f (from a n)) i d ≡ f (a + i)
  table_at f a zero d i h = absurd (omega arith)
  table_at f a (suc n) d zero h = let e : a ≡ a + 0 = omega arith in ap f e
  table_at f a (suc n) d (suc i) h = let e : suc a + i ≡ a + suc i = omega arith in table_at f (suc a) n d i (omega arith) ∙ ap f e

  pub table_from : (f : ℕ → A) (a n : ℕ) (d : A) (l : List A) → length l ≡ n → ((i : ℕ) → i < n → f (a + i) ≡ get_or l i d) → map f (from a n) ≡ l
  table_from f a n d l e h =
      ext_get_or d (map f (from a n)) l (length_table f a n ∙ sym e) (λ i b. let c : i < n = omega (arith, length_table f a n) in table_at f a n d i c ∙ h i c)

  pub table_is : (f : ℕ → A) (n : ℕ) (d : A) (l : List A) → length l ≡ n → ((i : ℕ) → i < n → f i ≡ get_or l i d) → map f (from 0 n) ≡ l
  table_is f n d l e h = table_from f 0 n d l e (λ i b. ap f (zero-add i) ∙ h i b)

  pub take_table : (a n : ℕ) (d : A) (l : List A) → a + n ≤ length l → map (λ i. get_or l i d) (from a n) ≡ take n (drop a l)
  take_table a n d l h =
      table_from (λ i. get_or l i d) a n d (take n (drop a l)) (length-take-le n (drop a l) (omega (arith, length-drop a l)))
      (λ i b. sym (get_or-take n (drop a l) i d b ∙ get_or-drop a l i d))
