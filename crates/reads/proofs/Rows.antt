-- A test that is an `and` or an `or`, by its first part; a test of a whole list; and a half, tested by the double.
use mathlib.Core.Path.{◌≡◌, refl, sym, ap, ◌∙◌}
use mathlib.Core.List.{List, [], ◌∷◌}
use mathlib.Core.Bool.{Bool, true, false, ◌&&◌, ◌||◌}
use Prim.Native.Nat.{ℕ, ◌*◌, ◌/◌}
use native.Mathlib.Omega.{arith}
use Rattle.std.specs.List.{list_all}
use Rattle.rules.proofs.Tests.{by_cases}
use lib.Dec.{leb}
use borrow.Author.Tests.{leb-true, leb-false, le-leb, lt-leb}
use Rattle.model.specs.Lists.{all, between}

-- the first part holds: the rest decides; it fails: the whole fails
pub and_rest : {a : Bool} (r : Bool) → a ≡ true → (a && r) ≡ r
and_rest r h = ap (λ (t : Bool). t && r) h

pub and_fails : {a : Bool} (r : Bool) → a ≡ false → (a && r) ≡ false
and_fails r h = ap (λ (t : Bool). t && r) h

-- the first part of an `or` fails: the rest decides
pub or_rest : {a : Bool} (r : Bool) → a ≡ false → (a || r) ≡ r
or_rest r h = ap (λ (t : Bool). t || r) h

-- a list all of whose elements pass, in std's word and in the model's
pub list_all_is : {A : Type 0} (f : A → Bool) (xs : List A) → list_all f xs ≡ all f xs
list_all_is f [] = refl
list_all_is f (x ∷ xs) = ap (λ (t : Bool). f x && t) (list_all_is f xs)

-- l is at most the half of u exactly where twice l is at most u
pub half_tells : (u l : ℕ) → between 1 (u / 2) l ≡ (leb 1 l && leb (2 * l) u)
unfolding between
half_tells u l = ap (λ (t : Bool). leb 1 l && t) (by_cases (leb (2 * l) u)
    (λ e. le-leb l (u / 2) (omega (arith, leb-true (2 * l) u e)) ∙ sym e)
    (λ e. lt-leb l (u / 2) (omega (arith, leb-false (2 * l) u e)) ∙ sym e))
