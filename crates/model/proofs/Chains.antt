-- What cells stand in a memory of cells and words, and how that goes through a write.
use mathlib.Core.Path.{◌≡◌, refl, sym, ap, ◌∙◌, subst}
use mathlib.Core.Logic.{◌⊎◌, inl, inr, ⊎_elim}
use mathlib.Core.List.{List, [], ◌∷◌, ◌++◌}
use Prim.Native.Nat.{ℕ, zero, suc, ◌≤◌, ◌<◌}
use native.Mathlib.Omega.{arith}
use lib.Dec.{eqb}
use lib.ListN.{length, get_or}
use borrow.Author.Tests.{ne_eqb}
use Rattle.model.specs.Layout.{Cell, head_or, chained, ats_of, follow}
use Rattle.rules.proofs.Tests.{eq?}
use Rattle.model.proofs.Sums.{bit, bit_same, bit_other, total_append}
use Rattle.model.proofs.Each.{many}

-- word k of cell i
abbrev pub Memory : Type 0
Memory = ℕ → ℕ → ℕ

abbrev pub Stands : Memory → ℕ → Cell → Type 0
Stands word width c = (k : ℕ) → k < width → word c.at k ≡ get_or c.words k 0

abbrev pub Stand : Memory → ℕ → List Cell → Type 0
Stand word width [] = Unit {0}
Stand word width (c ∷ cs) = Stands word width c × Stand word width cs

module _ (width : ℕ) where
  -- FRAME: a memory that has the same words in the cells of a list
  pub stand_frame : (new old : Memory) (cs : List Cell) → ((i k : ℕ) → 0 < many i cs → k < width → new i k ≡ old i k) → Stand old width cs → Stand new width cs
  stand_frame new old [] f r = tt
  stand_frame new old (c ∷ cs) f r =
      (λ k h. f c.at k (omega (arith, bit_same c.at c.at refl)) h ∙ r.0 k h, stand_frame new old cs (λ i k h. f i k (omega arith)) r.1)

  -- two memories in which a cell stands have the same words there
  pub stand_same : (new old : Memory) (cs : List Cell) → Stand new width cs → Stand old width cs → (i k : ℕ) → 0 < many i cs → k < width → new i k ≡ old i k
  stand_same new old [] p q i k h l = absurd (omega arith)
  stand_same new old (c ∷ cs) p q i k h l =
      ⊎_elim (λ (e : i ≡ c.at). subst (λ (i : ℕ). new i k ≡ old i k) (sym e) (p.0 k l ∙ sym (q.0 k l)))
      (λ (d : i ≡ c.at → ⊥). stand_same new old cs p.1 q.1 i k (omega (arith, bit_other i c.at d)) l) (eq? i c.at)

  pub stand_append : (word : Memory) (xs ys : List Cell) → Stand word width xs → Stand word width ys → Stand word width (xs ++ ys)
  stand_append word [] ys p q = q
  stand_append word (x ∷ xs) ys p q = (p.0, stand_append word xs ys p.1 q)

  pub stand_parts : (word : Memory) (xs ys : List Cell) → Stand word width (xs ++ ys) → Stand word width xs × Stand word width ys
  stand_parts word [] ys p = (tt, p)
  stand_parts word (x ∷ xs) ys p = let r = stand_parts word xs ys p.1 in ((p.0, r.0), r.1)

-- chains

pub many_chained : (t i : ℕ) (cs : List Cell) → many i (chained t cs) ≡ many i cs
many_chained t i [] = refl
many_chained t i (c ∷ cs) = omega (arith, many_chained t i cs)

pub head_append : (t : ℕ) (xs ys : List Cell) → head_or t (xs ++ ys) ≡ head_or (head_or t ys) xs
head_append t [] ys = refl
head_append t (x ∷ xs) ys = refl

-- a chain in two pieces: the first ends at the second's head
pub chained_append : (t : ℕ) (xs ys : List Cell) → chained t (xs ++ ys) ≡ chained (head_or t ys) xs ++ chained t ys
chained_append t [] ys = refl
chained_append t (x ∷ xs) ys = λ i. record { at = x.at; words = head_append t xs ys i ∷ x.words } ∷ chained_append t xs ys i

-- UPDATE: the last cell's next word is set
pub chain_retarget : (width : ℕ) (new old : Memory) (t u : ℕ) (xs : List Cell) (y : Cell)
    → many y.at xs ≡ 0
    → new y.at 0 ≡ u
    → ((i k : ℕ) → (i ≡ y.at → ⊥) ⊎ (0 < k) → 0 < many i (xs ++ (y ∷ [])) → k < width → new i k ≡ old i k)
    → Stand old width (chained t (xs ++ (y ∷ [])))
    → Stand new width (chained u (xs ++ (y ∷ [])))
chain_retarget width new old t u xs y z e f r =
    let p = stand_parts width old (chained y.at xs) (chained t (y ∷ [])) (rw (← (chained_append t xs (y ∷ []))) r) in
    rw chained_append
    (stand_append width new (chained y.at xs) (chained u (y ∷ []))
    (stand_frame width new old (chained y.at xs) (λ i k h l. f i k (inl (apart i h)) (omega (arith, many_chained y.at i xs, total_append (λ c. bit (eqb i c.at)) xs (y ∷ []))) l) p.0) (last p.1))
  where
    apart : (i : ℕ) → 0 < many i (chained y.at xs) → i ≡ y.at → ⊥
    apart i h d = let g : many i xs ≡ 0 = ap (λ (k : ℕ). many k xs) d ∙ z in omega (arith, many_chained y.at i xs)

    last : Stand old width (chained t (y ∷ [])) → Stand new width (chained u (y ∷ []))
    last q = (λ k l. at k l (q.0 k l), tt)
      where
        at : (k : ℕ) → k < width → old y.at k ≡ get_or (t ∷ y.words) k 0 → new y.at k ≡ get_or (u ∷ y.words) k 0
        at zero l g = e
        at (suc k) l g = f y.at (suc k) (inr (omega arith)) (omega (arith, total_append (λ c. bit (eqb y.at c.at)) xs (y ∷ []), bit_same y.at y.at refl)) l ∙ g

-- a chain is what its next words lead through

pub follow_none : (fuel : ℕ) (next : ℕ → ℕ) (c : ℕ) → c ≡ 0 → follow fuel next c ≡ []
unfolding follow
follow_none zero next c z = refl
follow_none (suc fuel) next c z = rw z

pub follow_step : (fuel : ℕ) (next : ℕ → ℕ) (c : ℕ) → (c ≡ 0 → ⊥) → follow (suc fuel) next c ≡ c ∷ follow fuel next (next c)
unfolding follow
follow_step fuel next c n = rw (ne_eqb c 0 n)

pub follow_chain : (width : ℕ) (word : Memory) (cs : List Cell) (fuel : ℕ) → 0 < width → length cs ≤ fuel → ((i : ℕ) → 0 < many i cs → 1 ≤ i)
    → Stand word width (chained 0 cs) → follow fuel (λ i. word i 0) (head_or 0 cs) ≡ ats_of cs
unfolding follow
follow_chain width word [] zero w l p r = refl
follow_chain width word [] (suc fuel) w l p r = refl
follow_chain width word (c ∷ cs) zero w l p r = absurd (omega arith)
follow_chain width word (c ∷ cs) (suc fuel) w l p r =
    let n : c.at ≡ 0 → ⊥ = omega (arith, p c.at (omega (arith, bit_same c.at c.at refl))) in
    follow_step fuel (λ i. word i 0) c.at n
    ∙ ap (λ (l : List ℕ). c.at ∷ l)
    (ap (follow fuel (λ i. word i 0)) (r.0 0 w) ∙ follow_chain width word cs fuel w (omega arith) (λ i h. p i (omega arith)) r.1)
