-- Tests and lists that the definitions share.
use Rattle.std.specs.Prelude.{ℕ, zero, suc, ◌+◌, List, [], ◌∷◌, ◌++◌, Bool, true, false, not, ◌&&◌, cond, leb, ltb, eqb}

unfoldable pub between : ℕ → ℕ → ℕ → Bool
between lo hi x = leb lo x && leb x hi

abbrev pub all {ℓ} : {A : Type ℓ} → (A → Bool) → List A → Bool
all f [] = true
all f (x ∷ xs) = f x && all f xs

-- equal lengths and all elements equal
abbrev pub same : List ℕ → List ℕ → Bool
same [] [] = true
same [] (y ∷ ys) = false
same (x ∷ xs) [] = false
same (x ∷ xs) (y ∷ ys) = eqb x y && same xs ys

abbrev pub keep {ℓ} : {A : Type ℓ} → (A → Bool) → List A → List A
keep f [] = []
keep f (x ∷ xs) = cond (f x) (x ∷ keep f xs) (keep f xs)

abbrev pub join {ℓ} : {A : Type ℓ} → List (List A) → List A
join [] = []
join (x ∷ xs) = x ++ join xs

-- the n numbers from a on
abbrev pub from : ℕ → ℕ → List ℕ
from a zero = []
from a (suc n) = a ∷ from (suc a) n

-- no element twice, by a test that two are equal
abbrev pub distinct {ℓ} : {A : Type ℓ} → (A → A → Bool) → List A → Bool
distinct eq [] = true
distinct eq (x ∷ xs) = all (λ y. not (eq x y)) xs && distinct eq xs

-- the sum of what each element weighs
abbrev pub total {ℓ} : {A : Type ℓ} → (A → ℕ) → List A → ℕ
total w [] = 0
total w (x ∷ xs) = w x + total w xs

-- one element is of an earlier day than another
unfoldable pub earlier {ℓ} : {A : Type ℓ} → (A → ℕ) → A → A → Bool
earlier day x y = ltb (day x) (day y)

-- an element before the first one of a later day, or behind all where none is later
abbrev pub put {ℓ} : {A : Type ℓ} → (A → ℕ) → A → List A → List A
put day x [] = x ∷ []
put day x (y ∷ ys) = let rest = put day x ys in cond (earlier day x y) (x ∷ y ∷ ys) (y ∷ rest)

-- elements put among others one by one, first to last
abbrev pub put_all {ℓ} : {A : Type ℓ} → (A → ℕ) → List A → List A → List A
put_all day [] ys = ys
put_all day (x ∷ xs) ys = put_all day xs (put day x ys)

-- by rising day, equal days in the order that they had
unfoldable pub by_day {ℓ} : {A : Type ℓ} → (A → ℕ) → List A → List A
by_day day xs = put_all day xs []
