-- Laws of the tests on cells, that the functions of `fits` rest on.
use mathlib.Core.Path.{◌≡◌, ap}
use mathlib.Core.Bool.{true, false}
use mathlib.Core.List.{List}
use Prim.Native.Nat.{ℕ, suc, ◌+◌, ◌-◌, ◌≤◌, ◌<◌}
use native.Mathlib.Omega.{arith}
use borrow.Author.Tests.{eq-eqb, ne_eqb}
use Rattle.model.specs.Lists.{between}
use Rattle.model.specs.Shape.{Shape}
use Rattle.model.specs.Layout.{to_next, card_word}
use Rattle.reads.specs.Cells.{same_key}
use Rattle.checker.specs.Fits.{met_first}

-- the search for a card's twin along a chain: what is left from here is what was left from the start
module _ (sh : Shape) (w : List ℕ) (j i c n : ℕ) (h : n < c) where
  more : c - n ≡ suc (c - (n + 1))
  more = omega arith

  pub met_here : j ≡ i → met_first (c - n) sh w j i ≡ true
  unfolding met_first
  met_here e = rw (more, eq-eqb j i e)

  pub met_out : (j ≡ i → ⊥) → between 1 sh.limit j ≡ false → met_first (c - n) sh w j i ≡ false
  unfolding met_first
  met_out d e = rw (more, ne_eqb j i d, e)

  pub met_twin : (j ≡ i → ⊥) → between 1 sh.limit j ≡ true → same_key sh w j i ≡ true → met_first (c - n) sh w j i ≡ false
  unfolding met_first
  met_twin d e t = rw (more, ne_eqb j i d, e, t)

  pub met_on : (j ≡ i → ⊥) → between 1 sh.limit j ≡ true → same_key sh w j i ≡ false → met_first (c - (n + 1)) sh w (card_word sh w j to_next) i ≡ met_first (c - n) sh w j i
  unfolding met_first
  met_on d e t = rw (more, ne_eqb j i d, e, t)

pub met_start : (sh : Shape) (w : List ℕ) (j i c : ℕ) → met_first (c - 0) sh w j i ≡ met_first c sh w j i
met_start sh w j i c = ap (λ (n : ℕ). met_first n sh w j i) (let z : c - 0 ≡ c = omega arith in z)

pub met_end : (sh : Shape) (w : List ℕ) (j i c n : ℕ) → c ≤ n → met_first (c - n) sh w j i ≡ false
unfolding met_first
met_end sh w j i c n h = let z : c - n ≡ 0 = omega arith in rw z
