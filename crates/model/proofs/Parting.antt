-- A chain on its way into two. Its cells from the first on are strung behind one of two buckets' words, K behind that of b and G behind
-- that of d; X are those still to come. The word behind a string's last cell is what the next step writes, so it may name anything: a
-- string has an open end, t for K and u for G. One write sets an open end (`end_set`); a cell that it names goes over from X with none
-- (`cell_over`). Both are said of K, and of G by turning the two round (`turned`).
use mathlib.Core.Path.{◌≡◌, refl, sym, ap, ◌∙◌, subst}
use mathlib.Core.Logic.{◌⊎◌, inl, inr, ⊎_elim}
use mathlib.Core.List.{List, [], ◌∷◌, ◌++◌}
use Prim.Native.Nat.{ℕ, ◌+◌, ◌≤◌, ◌<◌}
use native.Mathlib.Omega.{arith}
use lib.Dec.{eqb, lit<}
use lib.ListN.{length, get_or, set, length-set}
use lib.Seq.{get_or-set_same, get_or-set_other}
use Rattle.rules.proofs.Tests.{eq?}
use Rattle.model.specs.Lists.{join}
use Rattle.model.specs.Shape.{Shape, entries, top_of, card_width}
use Rattle.model.specs.Layout.{to_next, Cell, head_or, chained, ats_of, cell_at, segments_at, cards_at, last}
use Rattle.model.specs.Words.{card_at, link_at}
use Rattle.model.proofs.Sums.{bit, bit_same, total_append}
use Rattle.model.proofs.Shapes.{in_card}
use Rattle.model.proofs.Each.{many}
use Rattle.model.proofs.Places.{cell_at_from, cell_at_below}
use Rattle.model.proofs.Chains.{Memory, Stand, stand_frame, stand_append, many_chained, head_append, chained_append, chain_retarget}
use Rattle.model.proofs.Part.{cell_in}
use Rattle.model.proofs.Writes.{write_here, write_word, write_cell}
use Rattle.model.proofs.Whole.{Whole, cards_fit, front_write, card_loose, fronted, fronted_bucket, ends, link_none, link_last}

-- the words apart from the two chains: limits, counts, free cells, directory, and the other chains
module _ (sh : Shape) (m p n k i j : ℕ) (dir : List ℕ) (fits : length dir ≡ entries sh) (others faults : List (List Cell)) (segs : List ℕ) where
  pub record Parting (b d : ℕ) (w g : List ℕ) (K G X : List Cell) (t u : ℕ) : Type 0 where
    pub whole : Whole w sh (fronted sh m p n k i j dir g) others faults
    pub long : length g ≡ top_of sh
    pub same : (e : ℕ) → (e ≡ b → ⊥) → (e ≡ d → ⊥) → get_or g e 0 ≡ get_or segs e 0
    pub head_k : get_or g b 0 ≡ head_or t K
    pub cells_k : Stand (cell_in w (cards_at sh) (card_width sh)) (card_width sh) (chained t K)
    pub head_g : get_or g d 0 ≡ head_or u G
    pub cells_g : Stand (cell_in w (cards_at sh) (card_width sh)) (card_width sh) (chained u G)
    pub cells_x : Stand (cell_in w (cards_at sh) (card_width sh)) (card_width sh) (chained 0 X)
    pub once : (x : ℕ) → many x (join others) + many x K + many x G + many x X ≤ 1
    pub inside : (x : ℕ) → 0 < many x K + many x G + many x X → (1 ≤ x) × (x ≤ sh.limit)

  pub turned : {b d : ℕ} {w g : List ℕ} {K G X : List Cell} {t u : ℕ} → Parting b d w g K G X t u → Parting d b w g G K X u t
  turned r = record {
    whole = r.whole;
    long = r.long;
    same = λ e x y. r.same e y x;
    head_k = r.head_g;
    cells_k = r.cells_g;
    head_g = r.head_k;
    cells_g = r.cells_k;
    cells_x = r.cells_x;
    once = λ x. omega (arith, r.once x);
    inside = λ x h. r.inside x (omega arith);
  }

  -- a cell of X that the open end of K names goes over to K
  pub cell_over : {b d : ℕ} {w g : List ℕ} {K G X : List Cell} {u : ℕ} (x : Cell) → Parting b d w g K G (x ∷ X) x.at u → Parting b d w g (K ++ (x ∷ [])) G X (head_or 0 X) u
  cell_over {w = w} {K = K} {X = X} x r =
      let count : (y : ℕ) → many y (K ++ (x ∷ [])) ≡ many y K + bit (eqb y x.at) = λ y. omega (arith, total_append (λ (c : Cell). bit (eqb y c.at)) K (x ∷ [])) in
      record {
        whole = r.whole;
        long = r.long;
        same = r.same;
        head_k = r.head_k ∙ sym (head_append (head_or 0 X) K (x ∷ []));
        cells_k = rw (chained_append (head_or 0 X) K (x ∷ [])) (stand_append (card_width sh) (cell_in w (cards_at sh) (card_width sh)) (chained x.at K) (chained (head_or 0 X) (x ∷ [])) r.cells_k (r.cells_x.0, tt));
        head_g = r.head_g;
        cells_g = r.cells_g;
        cells_x = r.cells_x.1;
        once = λ y. omega (arith, r.once y, count y);
        inside = λ y h. r.inside y (omega (arith, count y));
      }

  module _ (b d : ℕ) (apart : b ≡ d → ⊥) (low : b < top_of sh) (w g : List ℕ) (K G X : List Cell) (t u : ℕ) (r : Parting b d w g K G X t u) (v : ℕ) where
    abbrev After : ℕ → List ℕ → Type 0
    After q h = Parting b d (set w q v) h K G X v u

    -- no cell yet: the bucket's word is set
    end_first : K ≡ [] → After (segments_at sh + b) (set g b v)
    unfolding cards_at
    end_first e =
        let keeps : (L : List Cell) → Stand (cell_in w (cards_at sh) (card_width sh)) (card_width sh) L → Stand (cell_in (set w (segments_at sh + b) v) (cards_at sh) (card_width sh)) (card_width sh) L = λ L.
        stand_frame (card_width sh) (cell_in (set w (segments_at sh + b) v) (cards_at sh) (card_width sh)) (cell_in w (cards_at sh) (card_width sh)) L
        (λ x l p q. get_or-set_other w (segments_at sh + b) (cell_at (cards_at sh) (card_width sh) x l) v 0 (omega (arith, cell_at_from (cards_at sh) (card_width sh) x l))) in
        record {
          whole = subst (λ (fr : List ℕ). Whole (set w (segments_at sh + b) v) sh fr others faults) (fronted_bucket sh m p n k i j dir g b v fits)
              (front_write w sh _ others faults r.whole (segments_at sh + b) v (omega arith));
          long = length-set g b v ∙ r.long;
          same = λ x y z. get_or-set_other g b x v 0 y ∙ r.same x y z;
          head_k = get_or-set_same g b v 0 (omega (arith, r.long)) ∙ ap (head_or v) (sym e);
          cells_k = subst (λ (l : List Cell). Stand (cell_in (set w (segments_at sh + b) v) (cards_at sh) (card_width sh)) (card_width sh) (chained v l)) (sym e) tt;
          head_g = get_or-set_other g b d v 0 (λ z. apart (sym z)) ∙ r.head_g;
          cells_g = keeps (chained u G) r.cells_g;
          cells_x = keeps (chained 0 X) r.cells_x;
          once = r.once;
          inside = r.inside;
        }

    -- the last cell's next word is set
    end_behind : (xs : List Cell) (y : Cell) → K ≡ xs ++ (y ∷ []) → (1 ≤ y.at) × After (card_at sh y.at to_next) g
    end_behind xs y e = (
      y_in.0,
      record {
        whole = card_loose w sh _ others faults r.whole y.at to_next v y_in.0 y_in.1 (in_card sh (lit< tt)) (omega (arith, r.once y.at, count y.at, bit_same y.at y.at refl));
        long = r.long;
        same = r.same;
        head_k = r.head_k ∙ ap (head_or t) e ∙ heads xs ∙ ap (head_or v) (sym e);
        cells_k = subst (λ (l : List Cell). Stand new (card_width sh) (chained v l)) (sym e)
            (chain_retarget (card_width sh) new old t v xs y (omega (arith, r.once y.at, count y.at, bit_same y.at y.at refl))
            (write_here w (cards_at sh) (card_width sh) y.at to_next v (omega (arith, cards_fit w sh _ others faults r.whole, cell_at_below (cards_at sh) (card_width sh) sh.limit y.at to_next y_in.0 y_in.1 (in_card sh (lit< tt)))))
            agrees (subst (λ (l : List Cell). Stand old (card_width sh) (chained t l)) e r.cells_k));
        head_g = r.head_g;
        cells_g = keeps u G (λ x h. (r.inside x (omega arith)).0) (omega (arith, r.once y.at, count y.at, bit_same y.at y.at refl)) r.cells_g;
        cells_x = keeps 0 X (λ x h. (r.inside x (omega arith)).0) (omega (arith, r.once y.at, count y.at, bit_same y.at y.at refl)) r.cells_x;
        once = r.once;
        inside = r.inside;
      },
    )
      where
        new : Memory
        new = cell_in (set w (card_at sh y.at to_next) v) (cards_at sh) (card_width sh)

        old : Memory
        old = cell_in w (cards_at sh) (card_width sh)

        count : (x : ℕ) → many x K ≡ many x xs + bit (eqb x y.at)
        count x = ap (many x) e ∙ omega (arith, total_append (λ (c : Cell). bit (eqb x c.at)) xs (y ∷ []))

        y_in : (1 ≤ y.at) × (y.at ≤ sh.limit)
        y_in = r.inside y.at (omega (arith, count y.at, bit_same y.at y.at refl))

        heads : (l : List Cell) → head_or t (l ++ (y ∷ [])) ≡ head_or v (l ++ (y ∷ []))
        heads [] = refl
        heads (x ∷ l) = refl

        other : (x l : ℕ) → 1 ≤ x → l < (card_width sh) → (x ≡ y.at → ⊥) → new x l ≡ old x l
        other x l a q z = write_cell w (cards_at sh) (card_width sh) y.at x to_next l v y_in.0 a (in_card sh (lit< tt)) q z

        agrees : (x l : ℕ) → (x ≡ y.at → ⊥) ⊎ (0 < l) → 0 < many x (xs ++ (y ∷ [])) → l < (card_width sh) → new x l ≡ old x l
        agrees x l z h q =
            let a : 1 ≤ x = (r.inside x (omega (arith, ap (many x) e))).0 in
            ⊎_elim (λ (h : x ≡ y.at). subst (λ (x : ℕ). new x l ≡ old x l) (sym h) (write_word w (cards_at sh) (card_width sh) y.at 0 l v (past h z)))
            (λ (h : x ≡ y.at → ⊥). other x l a q h) (eq? x y.at)
          where
            past : x ≡ y.at → (x ≡ y.at → ⊥) ⊎ (0 < l) → l ≡ 0 → ⊥
            past h (inl z) = absurd (z h)
            past h (inr z) = omega arith

        keeps : (o : ℕ) (L : List Cell) → ((x : ℕ) → 0 < many x L → 1 ≤ x) → many y.at L ≡ 0 → Stand old (card_width sh) (chained o L) → Stand new (card_width sh) (chained o L)
        keeps o L a z =
            stand_frame (card_width sh) new old (chained o L)
            (λ x l h q. let h₁ : 0 < many x L = omega (arith, many_chained o x L) in
            other x l (a x h₁) q (λ s. let z₁ : many x L ≡ 0 = ap (λ (x : ℕ). many x L) s ∙ z in omega arith))

    pub end_set : (h : List ℕ) × After (link_at sh b (last (ats_of K))) h
    end_set = go (ends K)
      where
        go : (K ≡ []) ⊎ ((xs : List Cell) × (y : Cell) × (K ≡ xs ++ (y ∷ []))) → (h : List ℕ) × After (link_at sh b (last (ats_of K))) h
        go (inl e) = (set g b v, subst (λ (q : ℕ). After q (set g b v)) (sym (link_none (λ (c : Cell). c.at) K sh b e)) (end_first e))
        go (inr (xs, y, e)) = let q = end_behind xs y e in (g, subst (λ (q : ℕ). After q g) (sym (link_last (λ (c : Cell). c.at) K sh b xs y e q.0)) q.1)
