-- Text: its lines and fields, and numbers in decimal.
use Rattle.std.specs.Prelude.{ℕ, zero, suc, ◌+◌, ◌-◌, ◌*◌, ◌/◌, ◌%◌, List, [], ◌∷◌, Bool, ◌&&◌, cond, ltb, eqb, length}
use Rattle.model.specs.Lists.{between, all}

-- the bytes that part a text: LF ends a line, a space parts fields
abbrev pub lf : ℕ
lf = 10

abbrev pub space : ℕ
space = 32

-- the first and the last digit
abbrev pub digit_zero : ℕ
digit_zero = 48

abbrev pub digit_nine : ℕ
digit_nine = 57

-- the most digits of a number
abbrev pub most_digits : ℕ
most_digits = 9

-- the fields between separators; there is always one
unfoldable pub onto : ℕ → List (List ℕ) → List (List ℕ)
onto b [] = (b ∷ []) ∷ []
onto b (f ∷ fs) = (b ∷ f) ∷ fs

unfoldable pub fields : ℕ → List ℕ → List (List ℕ)
fields sep [] = [] ∷ []
fields sep (b ∷ bs) = cond (eqb b sep) ([] ∷ fields sep bs) (onto b (fields sep bs))

-- what LF ends are lines; a last piece counts if it is not empty
unfoldable pub drop_empty_last : List (List ℕ) → List (List ℕ)
drop_empty_last [] = []
drop_empty_last ([] ∷ []) = []
drop_empty_last ((b ∷ bs) ∷ []) = (b ∷ bs) ∷ []
drop_empty_last (l ∷ m ∷ ls) = l ∷ drop_empty_last (m ∷ ls)

unfoldable pub lines_of : List ℕ → List (List ℕ)
lines_of text = drop_empty_last (fields lf text)

unfoldable pub is_number : List ℕ → Bool
is_number f = between 1 most_digits (length f) && all (between digit_zero digit_nine) f

unfoldable pub value_from : ℕ → List ℕ → ℕ
value_from v [] = v
value_from v (d ∷ ds) = value_from (10 * v + (d - digit_zero)) ds

-- decimal digits of a number below 10 ^ 20
unfoldable pub digits : ℕ → ℕ → List ℕ → List ℕ
digits zero n acc = acc
digits (suc fuel) n acc =
    let rest = digits fuel (n / 10) ((digit_zero + n % 10) ∷ acc) in
    cond (ltb n 10) ((digit_zero + n) ∷ acc) rest

unfoldable pub decimal : ℕ → List ℕ
decimal n = digits 20 n []
