-- That a text begins with another (`starts_is`). Where the head of saved answers stands, there are its bytes (`head_within`), and saved answers that belong to a
-- file reach behind its bytes (`belongs_within`).
use Prim.Native.Nat.{ℕ, ◌+◌, ◌≤◌}
use mathlib.Core.Path.{◌≡◌, refl, sym, ap, ◌∙◌}
use mathlib.Core.Bool.{true, false≢true}
use mathlib.Core.List.{List, [], ◌∷◌}
use native.Mathlib.Omega.{arith}
use lib.Dec.{eqb}
use lib.ListN.{length, take, drop, length-drop, length-take}
use borrow.Author.Tests.{eq-eqb, ne_eqb, eqb-true}
use Rattle.std.specs.List.{starts_with}
use lib.Pointwise.{pointwise}
use Rattle.rules.proofs.Tests.{by_cases, both}
use Rattle.model.specs.Lists.{same}
use Rattle.model.proofs.Lists.{same_eq}
use Rattle.disk.specs.Bytes.{four}
use Rattle.disk.specs.Last.{head_of, head_size, stands_at, belongs}

eqb_swap : (x y : ℕ) → eqb x y ≡ eqb y x
eqb_swap x y = by_cases (eqb y x) (λ e. eq-eqb x y (sym (eqb-true y x e)) ∙ sym e) (λ e. ne_eqb x y (λ f. false≢true (sym e ∙ eq-eqb y x (sym f))) ∙ sym e)

same_swap : (a b : List ℕ) → pointwise eqb b a ≡ same a b
same_swap [] [] = refl
same_swap [] (y ∷ b) = refl
same_swap (x ∷ a) [] = refl
same_swap (x ∷ a) (y ∷ b) = rw (eqb_swap y x, same_swap a b)

pub starts_is : (text part : List ℕ) → starts_with eqb text part ≡ same (take (length part) text) part
starts_is text part = same_swap (take (length part) text) part

-- where the head stands, there are its bytes
pub head_within : (file last : List ℕ) → stands_at last 0 (head_of file) ≡ true → head_size ≤ length last
unfolding head_of four
head_within file last e = let q : take 4 last ≡ head_of file = same_eq (take 4 last) (head_of file) e in omega (arith, ap length q, length-take 4 last)

-- saved answers that belong to a file reach behind its bytes
pub belongs_within : (file last : List ℕ) → belongs file last ≡ true → head_size + length file ≤ length last
unfolding belongs
belongs_within file last e =
    let a = both (stands_at last 0 (head_of file)) (stands_at last head_size file) e in
    let n = length file in
    let q : take n (drop head_size last) ≡ file = same_eq (take n (drop head_size last)) file a.1 in
    omega (arith, head_within file last a.0, ap length q, length-take n (drop head_size last), length-drop head_size last)
