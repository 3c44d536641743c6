-- A history given back to the free fault cells. Cell by cell the day and the code are set to zero, which moves no cell (`cleared`); then
-- the last cell leads to what was the first free one, so that the two chains are one, and the history is empty (`joined`).
use mathlib.Core.Path.{◌≡◌, refl, sym, ap, ◌∙◌, subst}
use mathlib.Core.List.{List, [], ◌∷◌, ◌++◌, map, append-nil}
use Prim.Native.Nat.{ℕ, zero, suc, ◌+◌, ◌-◌, ◌≤◌, ◌<◌}
use native.Mathlib.Omega.{arith}
use lib.Dec.{eqb, lit<}
use lib.ListN.{length, get_or, set, length-set}
use lib.Seq.{append_snoc, set-set, get_or-set_same}
use borrow.Author.Tests.{ne_eqb}
use Rattle.model.specs.Lists.{join}
use Rattle.model.specs.Model.{Fault, fault_cells_of}
use Rattle.model.specs.Shape.{Shape}
use Rattle.model.specs.Layout.{to_next, to_day, to_code}
use Rattle.model.specs.Layout.{Cell, chained, fault_width, faults_at, fault_cell, free_cell, first}
use Rattle.model.specs.Words.{fault_at, clear_words}
use Rattle.model.proofs.Lists.{map_append}
use Rattle.model.proofs.Sums.{bit, bit_same, total_append, total_set, total_one}
use Rattle.model.proofs.Each.{many}
use Rattle.model.proofs.Chains.{Stand}
use Rattle.model.proofs.Part.{cell_in}
use Rattle.model.proofs.Writes.{Apart}
use Rattle.model.proofs.Decode.{head_faults, head_free}
use Rattle.model.proofs.Readings.{stand_at}
use Rattle.model.proofs.Whole.{Whole, fault_chain, fault_cut, fault_in_lem, fault_word_lem, apart_less}

-- a walk from no cell
pub clear_none : (fuel : ℕ) (sh : Shape) (u : List ℕ) → clear_words fuel sh u 0 ≡ u
unfolding clear_words
clear_none zero sh u = refl
clear_none (suc fuel) sh u = refl

pub clear_step : (fuel : ℕ) (sh : Shape) (u : List ℕ) (i : ℕ) → 1 ≤ i
    → clear_words (suc fuel) sh u i ≡ clear_words fuel sh (set (set u (fault_at sh i to_day) 0) (fault_at sh i to_code) 0) (get_or u (fault_at sh i to_next) 0)
unfolding clear_words
clear_step fuel sh u i h = rw (ne_eqb i 0 (omega arith))

module _ (sh : Shape) (fr : List ℕ) (cs gs : List (List Cell)) (n : ℕ) (below : n < length gs) where
  -- chain n replaced
  abbrev chains : List Cell → List (List Cell)
  chains ch = set gs n ch

  -- one word of one of its cells
  reword : (u : List ℕ) (xs : List Cell) (y : Cell) (ys : List Cell) (k v : ℕ) → suc k < fault_width → k < length y.words
      → Whole u sh fr cs (chains (xs ++ (y ∷ []) ++ ys))
      → (1 ≤ y.at) × Whole (set u (fault_at sh y.at (suc k)) v) sh fr cs (chains (xs ++ (record { at = y.at; words = set y.words k v } ∷ []) ++ ys))
  reword u xs y ys k v l b r =
      let h : n < length (chains (xs ++ (y ∷ []) ++ ys)) = omega (arith, length-set gs n (xs ++ (y ∷ []) ++ ys)) in
      let g = get_or-set_same gs n (xs ++ (y ∷ []) ++ ys) [] below in (
        (fault_in_lem u sh fr cs _ r n xs y ys h g).0,
        subst (λ (l : List (List Cell)). Whole (set u (fault_at sh y.at (suc k)) v) sh fr cs l) (set-set gs n _ _) (fault_word_lem u sh fr cs _ r n xs y ys h g k v l b),
      )

  -- a cell set to zero, and what its next word leads to
  cleared_one : (x : Fault) (rest : List Fault) (done u : List ℕ) → Whole u sh fr cs (chains (map (free_cell fault_width) done ++ (fault_cell x ∷ map fault_cell rest)))
      → (1 ≤ x.at) × (get_or u (fault_at sh x.at to_next) 0 ≡ first (fault_cells_of rest))
      × Whole (set (set u (fault_at sh x.at to_day) 0) (fault_at sh x.at to_code) 0) sh fr cs (chains (map (free_cell fault_width) (done ++ (x.at ∷ [])) ++ map fault_cell rest))
  unfolding fault_cell free_cell
  cleared_one x rest done u r =
      let D = map (free_cell fault_width) done in
      let ys = map fault_cell rest in
      let q = reword u D (fault_cell x) ys (to_day - 1) 0 (lit< tt) (lit< tt) (subst (λ (l : List Cell). Whole u sh fr cs (chains l)) (sym (append_snoc D (fault_cell x) ys)) r) in
      let q' = reword (set u (fault_at sh x.at to_day) 0) D (record { at = x.at; words = 0 ∷ x.code ∷ [] }) ys (to_code - 1) 0 (lit< tt) (lit< tt) q.1 in (
        q.0,
        stand_at fault_width (cell_in u (faults_at sh) fault_width) D (fault_cell x) ys (subst (λ (l : List Cell). Stand (cell_in u (faults_at sh) fault_width) fault_width (chained 0 l)) (get_or-set_same gs n _ [] below) (r.faults n)) to_next (lit< tt)
            ∙ sym (head_faults rest),
        subst (λ (l : List Cell). Whole (set (set u (fault_at sh x.at to_day) 0) (fault_at sh x.at to_code) 0) sh fr cs (chains (l ++ ys))) (sym (map_append (free_cell fault_width) done (x.at ∷ []))) q'.1,
      )

  pub cleared : (fuel : ℕ) (rest : List Fault) (done u : List ℕ) → length rest ≤ fuel
      → Whole u sh fr cs (chains (map (free_cell fault_width) done ++ map fault_cell rest))
      → Whole (clear_words fuel sh u (first (fault_cells_of rest))) sh fr cs (chains (map (free_cell fault_width) (done ++ fault_cells_of rest)))
  cleared fuel [] done u l r =
      subst (λ (v : List ℕ). Whole v sh fr cs (chains (map (free_cell fault_width) (done ++ [])))) (sym (clear_none fuel sh u))
      (subst (λ (l : List Cell). Whole u sh fr cs (chains l)) (append-nil (map (free_cell fault_width) done) ∙ ap (map (free_cell fault_width)) (sym (append-nil done))) r)
  cleared zero (x ∷ rest) done u l r = absurd (omega arith)
  cleared (suc fuel) (x ∷ rest) done u l r =
      let (i, next, q) = cleared_one x rest done u r in
      let v = set (set u (fault_at sh x.at to_day) 0) (fault_at sh x.at to_code) 0 in
      subst (λ (z : List ℕ). Whole z sh fr cs (chains (map (free_cell fault_width) (done ++ (x.at ∷ fault_cells_of rest))))) (sym (clear_step fuel sh u x.at i ∙ ap (clear_words fuel sh v) next))
      (subst (λ (l : List ℕ). Whole (clear_words fuel sh v (first (fault_cells_of rest))) sh fr cs (chains (map (free_cell fault_width) l))) (append_snoc done x.at (fault_cells_of rest))
      (cleared fuel rest (done ++ (x.at ∷ [])) v (omega arith) q))

-- a chain of free cells joined before the free ones
module _ (sh : Shape) (fr : List ℕ) (cs hs : List (List Cell)) (m : ℕ) (below : m < length hs) (free xs : List ℕ) (z : ℕ) where
  abbrev F : ℕ → Cell
  F = free_cell fault_width

  abbrev ch : List Cell
  ch = map F xs ++ (F z ∷ [])

  -- what is counted of the chains, whatever chain m is
  weighed : (i : ℕ) (l : List Cell) → many i (join (set hs m l)) + many i (get_or hs m []) ≡ many i (join hs) + many i l
  weighed i l = total_set (λ (x : Cell). bit (eqb i x.at)) hs m l below

  joined_count : (i : ℕ) → many i (ch ++ map F free) ≡ many i ch + many i (map F free)
  joined_count i = total_append (λ (x : Cell). bit (eqb i x.at)) ch (map F free)

  all_count : (i : ℕ) (l : List Cell) (ls : List (List Cell)) → many i (join (l ∷ ls)) ≡ many i l + many i (join ls)
  all_count i l ls = total_append (λ (x : Cell). bit (eqb i x.at)) l (join ls)

  module _ (u : List ℕ) (r : Whole u sh fr cs (map F free ∷ set hs m ch)) where
    less : (ls : List (List Cell)) → ((i : ℕ) → many i (join ls) ≤ many i (map F free) + many i (join (set hs m ch))) → Apart sh.fault_limit (join ls)
    less ls h = apart_less (λ i. omega (arith, h i, all_count i (map F free) (set hs m ch))) r.faults_apart

    here : get_or (set hs m ch) m [] ≡ ch
    here = get_or-set_same hs m ch [] below

    apart : many z (map F free) ≡ 0
    unfolding free_cell
    apart =
        omega (
          arith,
          r.faults_apart.once z,
          all_count z (map F free) (set hs m ch),
          total_one (λ (x : Cell). bit (eqb z x.at)) (set hs m ch) m,
          ap (many z) here,
          total_append (λ (x : Cell). bit (eqb z x.at)) (map F xs) (F z ∷ []),
          bit_same z z refl,
        )

    -- the free cells are left out, the last cell leads to the first of them
    led : Whole (set u (fault_at sh z to_next) (first free)) sh fr cs ([] ∷ set hs m (ch ++ map F free))
    unfolding free_cell
    led =
        subst (λ (l : List (List Cell)). Whole (set u (fault_at sh z to_next) (first free)) sh fr cs ([] ∷ l)) (set-set hs m ch (ch ++ map F free))
        (subst (λ (v : ℕ). Whole (set u (fault_at sh z to_next) v) sh fr cs ([] ∷ set (set hs m ch) m (ch ++ map F free))) (sym (head_free fault_width free))
        (fault_cut u sh fr cs ([] ∷ set hs m ch)
        (fault_chain u sh fr cs (map F free ∷ set hs m ch) r 0 [] (omega arith) (less ([] ∷ set hs m ch) (λ i. omega arith)) tt)
        (suc m) (map F xs) (F z) [] (omega (arith, length-set hs m ch)) (here ∙ sym (append-nil ch)) (map F free)
        (λ i p. (r.faults_apart.inside i (omega (arith, all_count i (map F free) (set hs m ch)))).0) apart (r.faults 0)
        (less ([] ∷ set (set hs m ch) m (ch ++ map F free)) (λ i. omega (
          arith,
          ap (λ (l : List (List Cell)). many i (join l)) (set-set hs m ch (ch ++ map F free)),
          weighed i (ch ++ map F free),
          weighed i ch,
          joined_count i,
        )))))

    -- and the chain is seen as the free one
    pub joined : Whole (set u (fault_at sh z to_next) (first free)) sh fr cs ((ch ++ map F free) ∷ set hs m [])
    joined =
        let v = set u (fault_at sh z to_next) (first free) in
        fault_chain v sh fr cs ([] ∷ set hs m [])
        (subst (λ (l : List (List Cell)). Whole v sh fr cs ([] ∷ l)) (set-set hs m (ch ++ map F free) [])
        (fault_chain v sh fr cs ([] ∷ set hs m (ch ++ map F free)) led (suc m) [] (omega (arith, length-set hs m (ch ++ map F free)))
        (less ([] ∷ set (set hs m (ch ++ map F free)) m []) (λ i. omega (arith, ap (λ (l : List (List Cell)). many i (join l)) (set-set hs m (ch ++ map F free) []), weighed i [], weighed i ch))) tt))
        0 (ch ++ map F free) (omega arith)
        (less ((ch ++ map F free) ∷ set hs m []) (λ i. omega (arith, all_count i (ch ++ map F free) (set hs m []), weighed i [], weighed i ch, joined_count i)))
        (subst (λ (l : List Cell). Stand (cell_in v (faults_at sh) fault_width) fault_width (chained 0 l)) (get_or-set_same hs m (ch ++ map F free) [] below) (led.faults (suc m)))
