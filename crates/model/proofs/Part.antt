-- The words of a part: what `part` writes stands, and nothing else does.
use mathlib.Core.Path.{◌≡◌, refl, sym, ap, ◌∙◌, subst}
use mathlib.Core.Logic.{⊎_elim}
use mathlib.Core.List.{List, [], ◌∷◌, ◌++◌, map}
use mathlib.Core.Bool.{Bool, cond}
use Prim.Native.Nat.{ℕ, zero, suc, ◌+◌, ◌-◌, ◌*◌, ◌≤◌, ◌<◌}
use native.Mathlib.Nat.{add-zero}
use native.Mathlib.Omega.{arith}
use lib.Dec.{eqb}
use lib.ListN.{length, get_or, length-append, get_or-append}
use lib.Seq.{get_or-append-add}
use borrow.Author.Tests.{ne_eqb, eq-eqb}
use Rattle.model.specs.Lists.{join, from}
use Rattle.model.specs.Layout.{Cell, head_or, chained, words_of, part, cell_at, ats_of, follow}
use Rattle.rules.proofs.Tests.{eq?}
use Rattle.model.proofs.Sums.{bit, bit_same, bit_other, total_append, total_join, total_one, length_total}
use Rattle.model.proofs.Each.{many, Each, cover}
use Rattle.model.proofs.Places.{cell_at_cover, cell_at_below}
use Rattle.model.proofs.Chains.{Memory, Stand, stand_frame, stand_same, stand_parts, many_chained, follow_chain}

-- the memory of a part of a store's words
abbrev pub cell_in : List ℕ → ℕ → ℕ → Memory
cell_in w base width i k = get_or w (cell_at base width i k) 0

-- the chains of a part stand in the words
abbrev pub Held : List ℕ → ℕ → ℕ → List (List Cell) → Type 0
Held w base width chains = (j : ℕ) → Stand (cell_in w base width) width (chained 0 (get_or chains j []))

-- two runs of words in which the same chains of all cells stand are equal there
pub held_same : (w v : List ℕ) (base width n : ℕ) (chains : List (List Cell)) → 0 < width → Each n (join chains)
    → Held w base width chains → Held v base width chains → (m : ℕ) → base ≤ m → m < base + width * n → get_or w m 0 ≡ get_or v m 0
held_same w v base width n chains z e p q m a b =
    let (i, k, i₁, iₙ, l, at) = cell_at_cover base width n m z a b in
    let (j, j₁, h) = total_join (λ c. bit (eqb i c.at)) chains (omega (arith, cover e i i₁ iₙ)) in
    subst (λ (m : ℕ). get_or w m 0 ≡ get_or v m 0) at
    (stand_same width (cell_in w base width) (cell_in v base width) (chained 0 (get_or chains j [])) (p j) (q j) i k (omega (arith, many_chained 0 i (get_or chains j []))) l)

-- all cells of a list have m words
abbrev pub Wide : ℕ → List Cell → Type 0
Wide m [] = Unit {0}
Wide m (c ∷ cs) = (length c.words ≡ m) × Wide m cs

wide_chained : (m t : ℕ) (cs : List Cell) → Wide m cs → Wide (suc m) (chained t cs)
wide_chained m t [] h = tt
wide_chained m t (c ∷ cs) h = (ap suc h.0, wide_chained m t cs h.1)

wide_append : (m : ℕ) (xs ys : List Cell) → Wide m xs → Wide m ys → Wide m (xs ++ ys)
wide_append m [] ys p q = q
wide_append m (x ∷ xs) ys p q = (p.0, wide_append m xs ys p.1 q)

wide_join : (m : ℕ) (chains : List (List Cell)) → ((j : ℕ) → Wide m (get_or chains j [])) → Wide (suc m) (join (map (chained 0) chains))
wide_join m [] h = tt
wide_join m (c ∷ cs) h = wide_append (suc m) (chained 0 c) (join (map (chained 0) cs)) (wide_chained m 0 c (h 0)) (wide_join m cs (λ j. h (suc j)))

many_join : (i : ℕ) (chains : List (List Cell)) → many i (join (map (chained 0) chains)) ≡ many i (join chains)
many_join i [] = refl
many_join i (c ∷ cs) =
    omega (arith, total_append (λ c. bit (eqb i c.at)) (chained 0 c) (join (map (chained 0) cs)), total_append (λ c. bit (eqb i c.at)) c (join cs), many_chained 0 i c, many_join i cs)

stand_join : (word : Memory) (width : ℕ) (chains : List (List Cell)) → Stand word width (join (map (chained 0) chains))
    → (j : ℕ) → Stand word width (chained 0 (get_or chains j []))
stand_join word width [] r j = tt
stand_join word width (c ∷ cs) r zero = (stand_parts width word (chained 0 c) (join (map (chained 0) cs)) r).0
stand_join word width (c ∷ cs) r (suc j) = stand_join word width cs (stand_parts width word (chained 0 c) (join (map (chained 0) cs)) r).1 j

-- what `words_of` finds

words_head : (c : Cell) (cs : List Cell) (i : ℕ) → c.at ≡ i → words_of (c ∷ cs) i ≡ c.words
words_head c cs i e = ap (λ (t : Bool). cond t c.words (words_of cs i)) (eq-eqb c.at i e)

words_tail : (c : Cell) (cs : List Cell) (i : ℕ) → (c.at ≡ i → ⊥) → words_of (c ∷ cs) i ≡ words_of cs i
words_tail c cs i e = ap (λ (t : Bool). cond t c.words (words_of cs i)) (ne_eqb c.at i e)

words_length : (m : ℕ) (cs : List Cell) (i : ℕ) → Wide m cs → 0 < many i cs → length (words_of cs i) ≡ m
words_length m [] i h p = absurd (omega arith)
words_length m (c ∷ cs) i h p =
    ⊎_elim (λ (e : c.at ≡ i). ap length (words_head c cs i e) ∙ h.0)
    (λ (d : c.at ≡ i → ⊥). ap length (words_tail c cs i d) ∙ words_length m cs i h.1 (omega (arith, bit_other i c.at (λ e. d (sym e))))) (eq? c.at i)

words_stand : (width : ℕ) (cs : List Cell) → ((i : ℕ) → many i cs ≤ 1) → Stand (λ i k. get_or (words_of cs i) k 0) width cs
words_stand width [] h = tt
words_stand width (c ∷ cs) h = (
  λ k l. ap (λ (r : List ℕ). get_or r k 0) (words_head c cs c.at refl),
  stand_frame width (λ i k. get_or (words_of (c ∷ cs) i) k 0) (λ i k. get_or (words_of cs i) k 0) cs
      (λ i k p l. ap (λ (r : List ℕ). get_or r k 0) (words_tail c cs i (λ e. omega (arith, h i, bit_same i c.at (sym e)))))
      (words_stand width cs (λ i. omega (arith, h i))),
)

-- pieces of one width, one behind another

join_length : (width : ℕ) (f : ℕ → List ℕ) (a n : ℕ) → ((i : ℕ) → a ≤ i → i < a + n → length (f i) ≡ width) → length (join (map f (from a n))) ≡ width * n
join_length width f a zero h = omega arith
join_length width f a (suc n) h =
    length-append (f a) (join (map f (from (suc a) n)))
    ∙ omega (arith, h a (omega arith) (omega arith), join_length width f (suc a) n (λ i p q. h i (omega arith) (omega arith)))

join_at : (width : ℕ) (f : ℕ → List ℕ) (a n : ℕ) → ((i : ℕ) → a ≤ i → i < a + n → length (f i) ≡ width)
    → (d k : ℕ) → d < n → k < width → get_or (join (map f (from a n))) (width * d + k) 0 ≡ get_or (f (a + d)) k 0
join_at width f a zero h d k p l = absurd (omega arith)
join_at width f a (suc n) h zero k p l =
    let e : width * 0 + k ≡ k = omega arith in
    let w = h a (omega arith) (omega arith) in
    ap (λ (m : ℕ). get_or (f a ++ join (map f (from (suc a) n))) m 0) e
    ∙ get_or-append (f a) (join (map f (from (suc a) n))) 0 k (omega arith)
    ∙ ap (λ (m : ℕ). get_or (f m) k 0) (sym (add-zero a))
join_at width f a (suc n) h (suc d) k p l =
    let w = h a (omega arith) (omega arith) in
    let e : width * suc d + k ≡ length (f a) + (width * d + k) = omega arith in
    let g : suc a + d ≡ a + suc d = omega arith in
    ap (λ (m : ℕ). get_or (f a ++ join (map f (from (suc a) n))) m 0) e
    ∙ get_or-append-add (f a) (join (map f (from (suc a) n))) (width * d + k) 0
    ∙ join_at width f (suc a) n (λ i p q. h i (omega arith) (omega arith)) d k (omega arith) l
    ∙ ap (λ (m : ℕ). get_or (f m) k 0) g

module _ (m n : ℕ) (chains : List (List Cell)) (e : Each n (join chains)) (h : (j : ℕ) → Wide m (get_or chains j [])) where
  wide_at : (i : ℕ) → 1 ≤ i → i < 1 + n → length (words_of (join (map (chained 0) chains)) i) ≡ suc m
  wide_at i a b = words_length (suc m) (join (map (chained 0) chains)) i (wide_join m chains h) (omega (arith, many_join i chains, cover e i a (omega arith)))

  pub part_length : length (part chains n) ≡ suc m * n
  unfolding part
  part_length = join_length (suc m) (words_of (join (map (chained 0) chains))) 1 n wide_at

  pub part_held : Held (part chains n) 0 (suc m) chains
  unfolding part cell_at
  part_held =
      stand_join (cell_in (part chains n) 0 (suc m)) (suc m) chains
      (stand_frame (suc m) (cell_in (part chains n) 0 (suc m)) (λ i k. get_or (words_of (join (map (chained 0) chains)) i) k 0) (join (map (chained 0) chains))
      at (words_stand (suc m) (join (map (chained 0) chains)) (λ i. omega (arith, many_join i chains, e.once i))))
    where
      at : (i k : ℕ) → 0 < many i (join (map (chained 0) chains)) → k < suc m → cell_in (part chains n) 0 (suc m) i k ≡ get_or (words_of (join (map (chained 0) chains)) i) k 0
      at i k p l =
          let r = e.inside i (omega (arith, many_join i chains)) in
          let i₁ = r.0 in
          let iₙ = r.1 in
          let f = words_of (join (map (chained 0) chains)) in
          let s : 0 + suc m * (i - 1) + k ≡ suc m * (i - 1) + k = omega arith in
          let g : 1 + (i - 1) ≡ i = omega arith in
          ap (λ (x : ℕ). get_or (join (map f (from 1 n))) x 0) s ∙ join_at (suc m) f 1 n wide_at (i - 1) k (omega arith) l ∙ ap (λ (x : ℕ). get_or (f x) k 0) g

-- chains that stand in one run of words stand in another that has the same words in the part
pub held_move : (w v : List ℕ) (a b width n : ℕ) (chains : List (List Cell)) → Each n (join chains)
    → ((m : ℕ) → m < width * n → get_or w (a + m) 0 ≡ get_or v (b + m) 0) → Held v b width chains → Held w a width chains
unfolding cell_at
held_move w v a b width n chains e f r j =
    stand_frame width (cell_in w a width) (cell_in v b width) (chained 0 (get_or chains j []))
    (λ i k p l. at i k l (e.inside i (omega (arith, many_chained 0 i (get_or chains j []), total_one (λ c. bit (eqb i c.at)) chains j)))) (r j)
  where
    at : (i k : ℕ) → k < width → (1 ≤ i) × (i ≤ n) → cell_in w a width i k ≡ cell_in v b width i k
    at i k l r =
        let x : a + width * (i - 1) + k ≡ a + (width * (i - 1) + k) = omega arith in
        let y : b + (width * (i - 1) + k) ≡ b + width * (i - 1) + k = omega arith in
        ap (λ (m : ℕ). get_or w m 0) x
        ∙ f (width * (i - 1) + k) (omega (arith, cell_at_below 0 width n i k r.0 r.1 l))
        ∙ ap (λ (m : ℕ). get_or v m 0) y

-- a chain is read back by its next words
pub held_follow : (w : List ℕ) (base width n : ℕ) (chains : List (List Cell)) → 0 < width → Each n (join chains) → Held w base width chains
    → (j : ℕ) → follow n (λ i. cell_in w base width i 0) (head_or 0 (get_or chains j [])) ≡ ats_of (get_or chains j [])
held_follow w base width n chains z e r j =
    follow_chain width (cell_in w base width) (get_or chains j []) n z
    (omega (arith, total_one (λ c. 1) chains j, length_total (get_or chains j []), length_total (join chains), e.count))
    (λ i h. (e.inside i (omega (arith, total_one (λ c. bit (eqb i c.at)) chains j))).0) (r j)
