-- A list that is filled from the front, each element by a function of another list's: one more (`filled_more`), and all (`filled_end`).
use Prim.Native.Nat.{ℕ, ◌≤◌}
use mathlib.Core.Path.{◌≡◌, sym, ◌∙◌}
use mathlib.Core.List.{List, ◌++◌, map, append-nil}
use lib.ListN.{length, take, drop, drop_of_length-le}
use lib.Seq.{take_all}

module _ {X : Type 0} (f : X → ℕ) (xs : List X) (ys : List ℕ) (i : ℕ) where
  pub filled_end : length xs ≤ i → length ys ≤ i → take i ys ++ map f (drop i xs) ≡ map f xs → ys ≡ map f xs
  filled_end h k old = sym (append-nil ys) ∙ (rw (drop_of_length-le xs h, take_all i ys k) at old)
