-- A chain that ends (`Ends`), cell by cell: it goes on behind its first cell (`ends_on`), which does not stand in it again (`ends_apart`),
-- and it is the same chain wherever the next words of its cells are the same (`ends_frame`). A loop along it needs no counter: the measure
-- is the length of what is left (`ends_less`).
use mathlib.Core.Path.{◌≡◌, refl, sym, ap, subst, ◌∙◌}
use mathlib.Core.Logic.{⊎_elim}
use mathlib.Core.Bool.{true}
use mathlib.Core.List.{List, [], ◌∷◌}
use Prim.Native.Nat.{ℕ, ◌≤◌, ◌<◌}
use native.Mathlib.Omega.{arith}
use lib.ListN.{length}
use Rattle.rules.proofs.Tests.{both, eq?, lt?}
use Rattle.model.specs.Lists.{between, all}
use Rattle.model.specs.Layout.{last, follow}
use Rattle.model.specs.Meaning.{Leads}
use Rattle.model.proofs.Lists.{between_is}
use Rattle.model.proofs.Sums.{count, bit_same, bit_other}
use Rattle.model.proofs.Each.{all_tally}
use Rattle.model.proofs.Walks.{times_count, in_every, led_follow}
use Rattle.reads.specs.Chains.{Ends}
use Rattle.reads.proofs.AlongLaws.{follow_length}

-- cells among 1 to the limit
led_frame : (next new : ℕ → ℕ) (h : ℕ) (l : List ℕ) → ((i : ℕ) → 0 < count i l → new i ≡ next i) → Leads next h l → Leads new h l
led_frame next new h [] f r = r
led_frame next new h (x ∷ l) f r =
    (r.0, subst (λ (n : ℕ). Leads new n l) (sym (f x (omega (arith, bit_same x x refl)))) (led_frame next new (next x) l (λ i p. f i (omega arith)) r.1))

-- a walk to its end is what `follow` reads, with fuel enough
walked : (limit : ℕ) (next : ℕ → ℕ) (fuel h : ℕ) (l : List ℕ) → Leads next h l → all (between 1 limit) l ≡ true → length l ≤ fuel → follow fuel next h ≡ l
walked limit next fuel h l r a b = led_follow next fuel h l r (in_every (λ i. 1 ≤ i) l (λ i p. (all_tally limit l a i (omega (arith, times_count i l))).0)) b

module _ {limit : ℕ} {next : ℕ → ℕ} {h : ℕ} (e : Ends limit next h) where
  pub ends_in : (i : ℕ) → 0 < count i (follow limit next h) → (1 ≤ i) × (i ≤ limit)
  ends_in = all_tally limit (follow limit next h) e.inside

  -- 0 is no cell of it
  pub ends_zero : count 0 (follow limit next h) ≡ 0
  ends_zero = ⊎_elim (λ (p : 0 < count 0 (follow limit next h)). absurd (omega (arith, ends_in 0 p))) (λ (p : count 0 (follow limit next h) ≤ 0). omega arith) (lt? 0 (count 0 (follow limit next h)))

  -- the same chain by other words
  pub ends_frame : (new : ℕ → ℕ) → ((i : ℕ) → 0 < count i (follow limit next h) → new i ≡ next i) → (follow limit new h ≡ follow limit next h) × Ends limit new h
  ends_frame new f =
      let l = follow limit next h in
      let r : Leads new h l = led_frame next new h l f e.leads in
      let s : follow limit new h ≡ l = walked limit new limit h l r e.inside (follow_length limit next h) in
      (s, record { leads = rw s r; inside = rw s e.inside })

  module _ (some : h ≡ 0 → ⊥) where
    pub ends_on : (follow limit next h ≡ h ∷ follow limit next (next h)) × Ends limit next (next h)
    ends_on = go (follow limit next h) refl e.leads e.inside
      where
        go : (l : List ℕ) → follow limit next h ≡ l → Leads next h l → all (between 1 limit) l ≡ true → (follow limit next h ≡ h ∷ follow limit next (next h)) × Ends limit next (next h)
        go [] q r a = absurd (some r)
        go (x ∷ l) q r a =
            let b = (both (between 1 limit x) (all (between 1 limit) l) a).1 in
            let s : Leads next (next h) l = rw r.0 r.1 in
            let t : follow limit next (next h) ≡ l =
            walked limit next limit (next h) l s b (omega (arith, follow_length limit next h, ap length q)) in
            (q ∙ (λ j. sym r.0 j ∷ sym t j), record { leads = rw t s; inside = rw t b })

    pub ends_here : (1 ≤ h) × (h ≤ limit)
    ends_here = ends_in h (omega (arith, ap (count h) ends_on.0, bit_same h h refl))

    -- the last cell is one of them
    pub ends_last : {j : ℕ} → j ≡ last (follow limit next h) → (1 ≤ j) × (j ≤ limit)
    unfolding last
    ends_last q = rw (q, ends_on.0) (go h (follow limit next (next h)) (subst (λ (l : List ℕ). all (between 1 limit) l ≡ true) ends_on.0 e.inside))
      where
        go : (x : ℕ) (l : List ℕ) → all (between 1 limit) (x ∷ l) ≡ true → (1 ≤ last (x ∷ l)) × (last (x ∷ l) ≤ limit)
        go x [] a = (between_is 1 limit x).0 (both (between 1 limit x) (all (between 1 limit) []) a).0
        go x (y ∷ l) a = go y l (both (between 1 limit x) (all (between 1 limit) (y ∷ l)) a).1

    -- the measure
    pub ends_less : length (follow limit next (next h)) < length (follow limit next h)
    ends_less = omega (arith, ap length ends_on.0)

-- each cell of a chain has a chain that is no longer
not_longer : (limit : ℕ) (next : ℕ → ℕ) (l : List ℕ) (h : ℕ) → follow limit next h ≡ l → Ends limit next h → (i : ℕ) → 0 < count i l
    → length (follow limit next i) ≤ length (follow limit next h)
not_longer limit next [] h q e i p = absurd (omega arith)
not_longer limit next (x ∷ l) h q e i p =
    let here : h ≡ x = (subst (Leads next h) q e.leads).0 in
    let some : h ≡ 0 → ⊥ = λ z. omega (arith, ends_in e x (omega (arith, ap (count x) q, bit_same x x refl))) in
    let on = ends_on e some in
    let tail : follow limit next (next h) ≡ l = ap rest (sym on.0 ∙ q) in
    ⊎_elim (λ (d : i ≡ x). omega (arith, ap (λ (j : ℕ). length (follow limit next j)) (d ∙ sym here)))
    (λ (d : i ≡ x → ⊥). omega (arith, not_longer limit next l (next h) tail on.1 i (omega (arith, bit_other i x d)), ends_less e some)) (eq? i x)
  where
    rest : List ℕ → List ℕ
    rest [] = []
    rest (x ∷ l) = l

-- so its first cell does not come again
pub ends_apart : {limit : ℕ} {next : ℕ → ℕ} {h : ℕ} → Ends limit next h → (h ≡ 0 → ⊥) → count h (follow limit next (next h)) ≡ 0
ends_apart {limit} {next} {h} e some =
    let l = follow limit next (next h) in
    ⊎_elim (λ (p : 0 < count h l). absurd (omega (arith, not_longer limit next l (next h) refl (ends_on e some).1 h p, ends_less e some)))
    (λ (p : count h l ≤ 0). omega arith) (lt? 0 (count h l))
