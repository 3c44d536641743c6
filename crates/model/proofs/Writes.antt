-- What a write to words does to the cells that stand in them, and the changes of chains that code makes.
use mathlib.Core.Path.{◌≡◌, refl, sym, ap, ◌∙◌, subst}
use mathlib.Core.Logic.{◌⊎◌, inl, inr, ⊎_elim}
use mathlib.Core.List.{List, [], ◌∷◌, ◌++◌, append-nil}
use Prim.Native.Nat.{ℕ, zero, suc, ◌+◌, ◌*◌, ◌≤◌, ◌<◌}
use native.Mathlib.Omega.{arith}
use lib.Dec.{eqb}
use lib.ListN.{length, get_or, set, take, length-set}
use lib.Seq.{get_or-set_same, get_or-set_other, take-set-le, sets}
use Rattle.model.specs.Lists.{join}
use Rattle.model.specs.Layout.{Cell, head_or, chained, cell_at}
use Rattle.rules.proofs.Tests.{eq?}
use Rattle.model.proofs.Sums.{bit, bit_same, bit_other, total_append, total_one, total_two}
use Rattle.model.proofs.Each.{many}
use Rattle.model.proofs.Places.{cell_at_below, cell_at_word, cell_at_cell, cell_at_outside, cell_at_plus}
use Rattle.model.proofs.Chains.{Stands, Stand, stand_frame, stand_append, stand_parts, many_chained, chained_append, chain_retarget}
use Rattle.model.proofs.Part.{cell_in, Held}

-- a run of stores

pub sets_out : (vs l : List ℕ) (i j : ℕ) → (j < i) ⊎ (i + length vs ≤ j) → get_or (sets l i vs) j 0 ≡ get_or l j 0
sets_out [] l i j h = refl
sets_out (v ∷ vs) l i j (inl h) = sets_out vs (set l i v) (suc i) j (inl (omega arith)) ∙ get_or-set_other l i j v 0 (omega arith)
sets_out (v ∷ vs) l i j (inr h) = sets_out vs (set l i v) (suc i) j (inr (omega arith)) ∙ get_or-set_other l i j v 0 (omega arith)

pub sets_in : (vs l : List ℕ) (i k : ℕ) → i + length vs ≤ length l → k < length vs → get_or (sets l i vs) (i + k) 0 ≡ get_or vs k 0
sets_in [] l i k h b = absurd (omega arith)
sets_in (v ∷ vs) l i zero h b =
    let e : i + 0 ≡ i = omega arith in
    ap (λ (m : ℕ). get_or (sets (set l i v) (suc i) vs) m 0) e ∙ sets_out vs (set l i v) (suc i) i (inl (omega arith)) ∙ get_or-set_same l i v 0 (omega arith)
sets_in (v ∷ vs) l i (suc k) h b =
    let e : i + suc k ≡ suc i + k = omega arith in
    ap (λ (m : ℕ). get_or (sets (set l i v) (suc i) vs) m 0) e ∙ sets_in vs (set l i v) (suc i) k (omega (arith, length-set l i v)) (omega arith)

pub take_sets : (n : ℕ) (vs l : List ℕ) (i : ℕ) → n ≤ i → take n (sets l i vs) ≡ take n l
take_sets n [] l i h = refl
take_sets n (v ∷ vs) l i h = take_sets n vs (set l i v) (suc i) (omega arith) ∙ take-set-le n l i v h

-- reading after a write

module _ (w : List ℕ) (base width : ℕ) where
  pub write_here : (i k v : ℕ) → cell_at base width i k < length w → cell_in (set w (cell_at base width i k) v) base width i k ≡ v
  write_here i k v h = get_or-set_same w (cell_at base width i k) v 0 h

  pub write_word : (i k l v : ℕ) → (l ≡ k → ⊥) → cell_in (set w (cell_at base width i k) v) base width i l ≡ cell_in w base width i l
  write_word i k l v n = get_or-set_other w (cell_at base width i k) (cell_at base width i l) v 0 (cell_at_word base width i i l k refl n)

  pub write_cell : (i j k l v : ℕ) → 1 ≤ i → 1 ≤ j → k < width → l < width → (j ≡ i → ⊥) → cell_in (set w (cell_at base width i k) v) base width j l ≡ cell_in w base width j l
  write_cell i j k l v a b p q n = get_or-set_other w (cell_at base width i k) (cell_at base width j l) v 0 (cell_at_cell base width j i l k b a q p n)

  -- a whole cell
  pub cell_here : (i k : ℕ) (vs : List ℕ) → cell_at base width i 0 + length vs ≤ length w → k < length vs → cell_in (sets w (cell_at base width i 0) vs) base width i k ≡ get_or vs k 0
  cell_here i k vs h b =
      ap (λ (m : ℕ). get_or (sets w (cell_at base width i 0) vs) m 0) (sym (cell_at_plus base width i k)) ∙ sets_in vs w (cell_at base width i 0) k h b

  pub cell_other : (i j l : ℕ) (vs : List ℕ) → 1 ≤ i → 1 ≤ j → l < width → length vs ≡ width → (j ≡ i → ⊥)
      → cell_in (sets w (cell_at base width i 0) vs) base width j l ≡ cell_in w base width j l
  cell_other i j l vs a b q e n =
      sets_out vs w (cell_at base width i 0) (cell_at base width j l)
      (⊎_elim (λ (h : cell_at base width j l < cell_at base width i 0). inl h) (λ (h : cell_at base width i 0 + width ≤ cell_at base width j l). inr (omega arith)) (cell_at_outside base width i j l a b q n))

-- chains after a write

-- all cells of the chains are cells of the part, and none stands twice: Each without the count
pub record Apart (n : ℕ) (cs : List Cell) : Type 0 where
  pub once : (i : ℕ) → many i cs ≤ 1
  pub inside : (i : ℕ) → 0 < many i cs → (1 ≤ i) × (i ≤ n)

-- one chain is replaced: the others are framed
pub held_set : (new : List ℕ) (base width : ℕ) (chains : List (List Cell)) (a : ℕ) (c : List Cell) → a < length chains
    → ((j : ℕ) → (j ≡ a → ⊥) → Stand (cell_in new base width) width (chained 0 (get_or chains j [])))
    → Stand (cell_in new base width) width (chained 0 c) → Held new base width (set chains a c)
held_set new base width chains a c h f r j =
    ⊎_elim (λ (e : j ≡ a). subst (λ (j : ℕ). Stand (cell_in new base width) width (chained 0 (get_or (set chains a c) j []))) (sym e) (rw (get_or-set_same chains a c []) r))
    (λ (d : j ≡ a → ⊥). rw (get_or-set_other chains a j c [] d) (f j d)) (eq? j a)

module _ (w : List ℕ) (base width n : ℕ) (chains : List (List Cell)) (fits : base + width * n ≤ length w) (e : Apart n (join chains)) (r : Held w base width chains) where
  -- a cell that stands in no chain is written
  pub held_write : (i : ℕ) (vs : List ℕ) → 1 ≤ i → length vs ≡ width → many i (join chains) ≡ 0 → Held (sets w (cell_at base width i 0) vs) base width chains
  held_write i vs a l z j =
      stand_frame width (cell_in (sets w (cell_at base width i 0) vs) base width) (cell_in w base width) (chained 0 (get_or chains j []))
      (λ x k p q. let m : 0 < many x (join chains) = omega (arith, many_chained 0 x (get_or chains j []), total_one (λ c. bit (eqb x c.at)) chains j) in
      cell_other w base width i x k vs a (e.inside x m).0 q l (λ d. let g : many x (join chains) ≡ 0 = ap (λ (y : ℕ). many y (join chains)) d ∙ z in omega arith)) (r j)

  -- a write to a cell y of chain a
  module _ (a : ℕ) (xs : List Cell) (y : Cell) (ys : List Cell) (h : a < length chains) (g : get_or chains a [] ≡ xs ++ (y ∷ []) ++ ys) where
    count_y : (i : ℕ) → many i (get_or chains a []) ≡ many i xs + bit (eqb i y.at) + many i ys
    count_y i =
        ap (many i) g ∙ omega (arith, total_append (λ c. bit (eqb i c.at)) (xs ++ (y ∷ [])) ys, total_append (λ c. bit (eqb i c.at)) xs (y ∷ []))

    y_here : 0 < many y.at (get_or chains a [])
    y_here = omega (arith, count_y y.at, bit_same y.at y.at refl)

    y_once : many y.at xs + many y.at ys ≡ 0
    y_once = omega (arith, e.once y.at, total_one (λ c. bit (eqb y.at c.at)) chains a, count_y y.at, bit_same y.at y.at refl)

    pub y_in : (1 ≤ y.at) × (y.at ≤ n)
    y_in = e.inside y.at (omega (arith, y_here, total_one (λ c. bit (eqb y.at c.at)) chains a))

    in_chain : (j x : ℕ) → 0 < many x (get_or chains j []) → 1 ≤ x
    in_chain j x p = (e.inside x (omega (arith, total_one (λ c. bit (eqb x c.at)) chains j))).0

    not_here : (j : ℕ) → (j ≡ a → ⊥) → (x : ℕ) → 0 < many x (get_or chains j []) → x ≡ y.at → ⊥
    not_here j d x p u =
        let v : 0 < many x (get_or chains a []) = subst (λ (k : ℕ). 0 < many k (get_or chains a [])) (sym u) y_here in
        omega (arith, total_two (λ c. bit (eqb x c.at)) chains j a d, e.once x)

    module _ (k v : ℕ) (l : k < width) where
      new : List ℕ
      new = set w (cell_at base width y.at k) v

      other : (x m : ℕ) → 1 ≤ x → m < width → (x ≡ y.at → ⊥) → cell_in new base width x m ≡ cell_in w base width x m
      unfolding new
      other x m x₁ b d = write_cell w base width y.at x k m v y_in.0 x₁ l b d

      same : (m : ℕ) → (m ≡ k → ⊥) → cell_in new base width y.at m ≡ cell_in w base width y.at m
      unfolding new
      same m d = write_word w base width y.at k m v d

      here : cell_in new base width y.at k ≡ v
      unfolding new
      here = write_here w base width y.at k v (omega (arith, cell_at_below base width n y.at k y_in.0 y_in.1 l))

      -- the other chains stand as they did, and so does any run of cells without y
      others : (j : ℕ) → (j ≡ a → ⊥) → Stand (cell_in new base width) width (chained 0 (get_or chains j []))
      others j d =
          stand_frame width (cell_in new base width) (cell_in w base width) (chained 0 (get_or chains j []))
          (λ x m p b. let q : 0 < many x (get_or chains j []) = omega (arith, many_chained 0 x (get_or chains j [])) in other x m (in_chain j x q) b (not_here j d x q)) (r j)

      without : (cs : List Cell) → ((x : ℕ) → 0 < many x cs → 1 ≤ x) → many y.at cs ≡ 0 → Stand (cell_in w base width) width cs → Stand (cell_in new base width) width cs
      without cs f z =
          stand_frame width (cell_in new base width) (cell_in w base width) cs
          (λ x m p b. other x m (f x p) b (λ u. let q : many x cs ≡ 0 = ap (λ (i : ℕ). many i cs) u ∙ z in omega arith))

    -- CUT: the next word of y leads to another run of cells: to put behind, take out, join and split
    pub held_cut : (zs : List Cell) → 0 < width → ((x : ℕ) → 0 < many x zs → 1 ≤ x) → many y.at zs ≡ 0 → Stand (cell_in w base width) width (chained 0 zs)
        → Held (set w (cell_at base width y.at 0) (head_or 0 zs)) base width (set chains a (xs ++ (y ∷ []) ++ zs))
    unfolding new
    held_cut zs z f o q =
        let t = head_or 0 zs in
        let old = stand_parts width (cell_in w base width) (chained (head_or 0 ys) (xs ++ (y ∷ []))) (chained 0 ys)
        (rw (← (chained_append 0 (xs ++ (y ∷ [])) ys)) (subst (λ (l : List Cell). Stand (cell_in w base width) width (chained 0 l)) g (r a))) in
        held_set (new 0 t z) base width chains a (xs ++ (y ∷ []) ++ zs) h (others 0 t z)
        (rw (chained_append 0 (xs ++ (y ∷ [])) zs)
        (stand_append width (cell_in (new 0 t z) base width) (chained t (xs ++ (y ∷ []))) (chained 0 zs)
        (chain_retarget width (cell_in (new 0 t z) base width) (cell_in w base width) (head_or 0 ys) t xs y (omega (arith, y_once)) (here 0 t z) agrees old.0)
        (without 0 t z (chained 0 zs) (λ x p. f x (omega (arith, many_chained 0 x zs))) (omega (arith, many_chained 0 y.at zs)) q)))
      where
        agrees : (i m : ℕ) → (i ≡ y.at → ⊥) ⊎ (0 < m) → 0 < many i (xs ++ (y ∷ [])) → m < width → cell_in (new 0 (head_or 0 zs) z) base width i m ≡ cell_in w base width i m
        agrees i m c p b =
            ⊎_elim (λ (u : i ≡ y.at). subst (λ (i : ℕ). cell_in (new 0 (head_or 0 zs) z) base width i m ≡ cell_in w base width i m) (sym u) (same 0 (head_or 0 zs) z m (pos u c)))
            (λ (d : i ≡ y.at → ⊥). other 0 (head_or 0 zs) z i m (in_chain a i (omega (arith, count_y i, total_append (λ c. bit (eqb i c.at)) xs (y ∷ [])))) b d) (eq? i y.at)
          where
            pos : i ≡ y.at → (i ≡ y.at → ⊥) ⊎ (0 < m) → m ≡ 0 → ⊥
            pos u (inl d) = absurd (d u)
            pos u (inr h) = omega arith

    -- WORD: a word of y past the next word is set
    pub held_word_lem : (k v : ℕ) → suc k < width → k < length y.words
        → Held (set w (cell_at base width y.at (suc k)) v) base width (set chains a (xs ++ (record { at = y.at; words = set y.words k v } ∷ []) ++ ys))
    unfolding new
    held_word_lem k v l b =
        let t = head_or 0 ys in
        let y' : Cell = record { at = y.at; words = set y.words k v } in
        let W = cell_in w base width in
        let N = cell_in (new (suc k) v l) base width in
        let p = stand_parts width W (chained t (xs ++ (y ∷ []))) (chained 0 ys)
        (rw (← (chained_append 0 (xs ++ (y ∷ [])) ys)) (subst (λ (l : List Cell). Stand (cell_in w base width) width (chained 0 l)) g (r a))) in
        let q = stand_parts width W (chained y.at xs) (chained t (y ∷ [])) (rw (← (chained_append t xs (y ∷ []))) p.0) in
        held_set (new (suc k) v l) base width chains a (xs ++ (y' ∷ []) ++ ys) h (others (suc k) v l)
        (rw (chained_append 0 (xs ++ (y' ∷ [])) ys)
        (stand_append width N (chained t (xs ++ (y' ∷ []))) (chained 0 ys)
        (rw (chained_append t xs (y' ∷ []))
        (stand_append width N (chained y.at xs) (chained t (y' ∷ []))
        (without (suc k) v l (chained y.at xs) (λ x c. in_chain a x (omega (arith, count_y x, many_chained y.at x xs))) (omega (arith, y_once, many_chained y.at y.at xs)) q.0)
        (λ m c. at m c (q.1.0 m c), tt)))
        (without (suc k) v l (chained 0 ys) (λ x c. in_chain a x (omega (arith, count_y x, many_chained 0 x ys))) (omega (arith, y_once, many_chained 0 y.at ys)) p.1)))
      where
        at : (m : ℕ) → m < width → cell_in w base width y.at m ≡ get_or (head_or 0 ys ∷ y.words) m 0
            → cell_in (new (suc k) v l) base width y.at m ≡ get_or (head_or 0 ys ∷ set y.words k v) m 0
        at zero c o = same (suc k) v l 0 (omega arith) ∙ o
        at (suc m) c o =
            ⊎_elim (λ (u : m ≡ k). subst (λ (m : ℕ). cell_in (new (suc k) v l) base width y.at (suc m) ≡ get_or (set y.words k v) m 0) (sym u) (here (suc k) v l ∙ sym (get_or-set_same y.words k v 0 b)))
            (λ (d : m ≡ k → ⊥). same (suc k) v l (suc m) (omega arith) ∙ o ∙ sym (get_or-set_other y.words k m v 0 d)) (eq? m k)

  -- behind the last cell y of chain a, whose next word is set
  pub held_behind : (a : ℕ) (xs : List Cell) (y c : Cell) → a < length chains → 0 < width → get_or chains a [] ≡ xs ++ (y ∷ [])
      → many c.at (join chains) ≡ 0 → 1 ≤ c.at
      → Stands (cell_in w base width) width (record { at = c.at; words = 0 ∷ c.words })
      → Held (set w (cell_at base width y.at 0) c.at) base width (set chains a (xs ++ (y ∷ []) ++ (c ∷ [])))
  held_behind a xs y c h z g m i₁ q =
      let g' : get_or chains a [] ≡ xs ++ (y ∷ []) ++ [] = g ∙ sym (append-nil (xs ++ (y ∷ []))) in
      let d : y.at ≡ c.at → ⊥ = λ u.
      let v : 0 < many c.at (get_or chains a []) = subst (λ (k : ℕ). 0 < many k (get_or chains a [])) u (y_here a xs y [] h g') in
      omega (arith, total_one (λ x. bit (eqb c.at x.at)) chains a) in
      held_cut a xs y [] h g' (c ∷ []) z (λ x p. ⊎_elim (λ (u : x ≡ c.at). omega arith) (λ (u : x ≡ c.at → ⊥). absurd (omega (arith, bit_other x c.at u))) (eq? x c.at))
      (omega (arith, bit_other y.at c.at d)) (q, tt)
