-- Laws of a fresh store's words. Parts that are lent come back one behind another (`Laid`, `lay`), and so do the cells of a part
-- (`cell_laid`); free cells one behind another are the part that `encode` writes, and all parts together are the encoding of a fresh store
-- (`fresh_words`).
use mathlib.Core.Path.{◌≡◌, refl, sym, ap, ◌∙◌, subst}
use mathlib.Core.Logic.{⊎_elim}
use mathlib.Core.Bool.{Bool, true, cond}
use mathlib.Core.List.{List, [], ◌∷◌, ◌++◌, map, append-nil, append_assoc}
use Prim.Native.Nat.{ℕ, zero, suc, ◌+◌, ◌-◌, ◌*◌, ◌≤◌, ◌<◌}
use native.Mathlib.Nat.{mul-le-mul, mul-le-mul_left}
use native.Mathlib.Omega.{arith}
use native.Mathlib.Numerals.{add-one}
use borrow.Author.Tests.{eq-eqb, ne_eqb, lt-ltb, le-ltb}
use borrow.Rule.Slice.PartMut.{mid_of, post_of, put_mid, mid_len, same_len_mid}
use lib.Dec.{ltb}
use lib.ListN.{length, get_or, set, take, replicate, length-append, length-replicate, replicate-append-replicate}
use lib.Seq.{take_all, take_at, length-take-le}
use Rattle.rules.specs.Table.{least}
use Rattle.rules.proofs.Tests.{eq?}
use Rattle.model.specs.Bounds.{most_width, least_entries, cards_ever, farthest}
use Rattle.model.specs.Lists.{join, from}
use Rattle.model.specs.Shape.{Shape, segment_size, entries, top_of, card_width}
use Rattle.model.specs.Model.{Card, Store, fresh}
use Rattle.model.specs.Layout.{Cell, directory_at, segments_at, shape_ok, bounds_word, rule_word, fault_width, free_cell, card_cell, fault_cell, chained, head_or, words_of, part, card_chains, fault_chains, cards_at, faults_at, length_for, header, directory, segments, front, encode}
use Rattle.model.proofs.Shapes.{shaped, entries_some, width_least, width_most, top_most, few_cards, few_faults}
use Rattle.model.proofs.Rep.{directory_length}
use Rattle.writer.specs.Fresh.{behind, leading, cells_to}

-- there are n words, and those before e are x
pub record Laid (w : List ℕ) (n e : ℕ) (x : List ℕ) : Type 0 where
  pub long : length w ≡ n
  pub front : take e w ≡ x

pub none_laid : (w : List ℕ) (n : ℕ) → length w ≡ n → Laid w n 0 []
none_laid w n e = record { long = e; front = refl }

-- how long the part from a to e is
pub mid_laid : {w x : List ℕ} {n : ℕ} (a e k : ℕ) → Laid w n a x → e ≤ n → k ≡ e - a → length (mid_of a k w) ≡ e - a
mid_laid {w} a e k r b z = ap (λ (m : ℕ). length (mid_of a m w)) z ∙ mid_len a e w (omega (arith, r.long))

-- the part from a to e comes back as q, behind what stands before it
pub lay : {w x : List ℕ} {n : ℕ} (a e k : ℕ) → Laid w n a x → (p q : List ℕ) → p ≡ q → a ≤ e → e ≤ n → k ≡ e - a → length q ≡ e - a → Laid (put_mid a k w p) n e (x ++ q)
lay {w} {x} {n} a e k r p q g h b z l = record {
  long = same_len_mid a k w p (ap length g ∙ l ∙ sym (mid_laid a e k r b z)) ∙ r.long;
  front =
      ap (take e) (sym (append_assoc (take a w) p (post_of a k w)))
      ∙ take_at (take a w ++ p) (post_of a k w) e (length-append (take a w) p ∙ omega (arith, ap length g, length-take-le a w (omega (arith, r.long))))
      ∙ (λ i. r.front i ++ g i);
}

pub laid_whole : {w x : List ℕ} {n e : ℕ} → Laid w n e x → e ≡ n → w ≡ x
laid_whole {w} {x} {n} {e} r z = sym (take_all e w (omega (arith, r.long))) ∙ r.front

-- one word in front of zeros
pub lead_set : (n v : ℕ) → 0 < n → set (replicate n 0) 0 v ≡ leading n v
unfolding leading
lead_set zero v h = absurd (omega arith)
lead_set (suc n) v h = let e : suc n - 1 ≡ n = omega arith in rw e

pub length_lead : (n v : ℕ) → 0 < n → length (leading n v) ≡ n
unfolding leading
length_lead n v h = omega (arith, length-replicate {A = ℕ} (n - 1) 0)

-- one cell more
module _ (f : ℕ → List ℕ) where
  join_snoc : (a i : ℕ) → join (map f (from a (suc i))) ≡ join (map f (from a i)) ++ f (a + i)
  join_snoc a zero = let e : a + 0 ≡ a = omega arith in rw e (append-nil (f a))
  join_snoc a (suc i) =
      let e : suc a + i ≡ a + suc i = omega arith in
      ap (λ (r : List ℕ). f a ++ r) (join_snoc (suc a) i ∙ ap (λ (m : ℕ). join (map f (from (suc a) i)) ++ f m) e)
      ∙ sym (append_assoc (f a) (join (map f (from (suc a) i))) (f (a + suc i)))

join_length : (width : ℕ) (f : ℕ → List ℕ) (a n : ℕ) → ((i : ℕ) → length (f i) ≡ width) → length (join (map f (from a n))) ≡ width * n
join_length width f a zero h = omega arith
join_length width f a (suc n) h = length-append (f a) (join (map f (from (suc a) n))) ∙ omega (arith, h a, join_length width f (suc a) n h)

pub cells_none : (width n : ℕ) → cells_to width n 0 ≡ []
unfolding cells_to
cells_none width n = refl

pub cells_more : (width n i : ℕ) → cells_to width n (i + 1) ≡ cells_to width n i ++ leading width (behind n (i + 1))
unfolding cells_to
cells_more width n i =
    let e : 1 + i ≡ i + 1 = omega arith in
    ap (λ (m : ℕ). join (map (λ k. leading width (behind n k)) (from 1 m))) (add-one i)
    ∙ join_snoc (λ k. leading width (behind n k)) 1 i ∙ ap (λ (m : ℕ). cells_to width n i ++ leading width (behind n m)) e

-- cell i + 1 of n ends within the part
pub cell_end : (width n i : ℕ) → i < n → width * i + width ≤ width * n
cell_end width n i h = let r : width * (i + 1) ≤ width * n = mul-le-mul_left width (omega arith) in omega arith

-- a cell that comes back behind the first i cells
pub cell_laid : {w : List ℕ} {long at : ℕ} (width n i : ℕ) → Laid w long at (cells_to width n i) → 0 < width → at + width ≤ long → (p : List ℕ) (next : ℕ)
    → next ≡ behind n (i + 1) → p ≡ leading (length (mid_of at (at + width - at) w)) next → Laid (put_mid at (at + width - at) w p) long (at + width) (cells_to width n (i + 1))
cell_laid {w} {long} {at} width n i r z h p next b e =
    let l : length (mid_of at (at + width - at) w) ≡ width = mid_len at (at + width) w (omega (arith, r.long)) ∙ omega arith in
    subst (Laid (put_mid at (at + width - at) w p) long (at + width)) (sym (cells_more width n i))
    (lay at (at + width) (at + width - at) r p (leading width (behind n (i + 1))) (e ∙ (λ k. leading (l k) (b k))) (omega arith) h refl
    (length_lead width (behind n (i + 1)) z ∙ omega arith))

-- words 0 to 15
pub header_fresh : (sh : Shape) → shape_ok sh ≡ true
    → header (fresh sh) ≡ sh.format ∷ sh.limit ∷ sh.fault_limit ∷ least ∷ 0 ∷ 0 ∷ 0 ∷ 1 ∷ 1 ∷ directory_at ∷ segments_at sh ∷ cards_at sh ∷ faults_at sh ∷ length_for sh ∷ bounds_word sh ∷ rule_word sh ∷ []
unfolding header fresh
header_fresh sh t =
    let l = shaped sh t in
    λ k. sh.format ∷ sh.limit ∷ sh.fault_limit ∷ least ∷ 0 ∷ 0 ∷ 0 ∷ first_of sh.limit l.some k ∷ first_of sh.fault_limit l.some_faults k ∷ directory_at ∷ segments_at sh ∷ cards_at sh ∷ faults_at sh ∷ length_for sh ∷ bounds_word sh ∷ rule_word sh ∷ []
  where
    first_of : (n : ℕ) → 1 ≤ n → get_or (from 1 n) 0 0 ≡ 1
    first_of zero h = absurd (omega arith)
    first_of (suc n) h = refl

pub header_length : (s : Store) → length (header s) ≡ directory_at
unfolding header
header_length s = refl

-- the directory and the segments: one segment is in use
table_zeros : (f : ℕ → ℕ) (a n : ℕ) → ((k : ℕ) → a ≤ k → f k ≡ 0) → map f (from a n) ≡ replicate n 0
table_zeros f a zero h = refl
table_zeros f a (suc n) h = λ i. h a (omega arith) i ∷ table_zeros f (suc a) n (λ k l. h k (omega arith)) i

pub directory_fresh : (sh : Shape) → leading (entries sh) (segments_at sh) ≡ directory (fresh sh)
unfolding leading directory fresh
directory_fresh sh =
    let g = entries_some sh in
    let e : entries sh ≡ suc (entries sh - 1) = omega arith in
    let z : segments_at sh + segment_size * 0 ≡ segments_at sh = omega arith in
    sym (ap (λ (n : ℕ). map (λ k. cond (ltb (segment_size * k) least) (segments_at sh + segment_size * k) 0) (from 0 n)) e
    ∙ (λ i. z i ∷ table_zeros (λ k. cond (ltb (segment_size * k) least) (segments_at sh + segment_size * k) 0) 1 (entries sh - 1) (λ k l. rw (le-ltb (segment_size * k) least (omega arith))) i))

pub segments_fresh : (sh : Shape) (n : ℕ) → n ≡ top_of sh → replicate n 0 ≡ segments (fresh sh)
unfolding segments fresh
segments_fresh sh n e =
    let g = entries_some sh in
    let z : n ≡ least + (top_of sh - least) = omega (arith, e) in
    ap (λ (m : ℕ). replicate {A = ℕ} m 0) z ∙ sym (replicate-append-replicate {A = ℕ} least (top_of sh - least) 0)

pub head_length : (s : Store) → length (header s ++ directory s) ≡ segments_at s.shape
head_length s = length-append (header s) (directory s) ∙ omega (arith, header_length s, directory_length s)

-- cell i of the free cells a to n, in a chain and behind it other cells
words_at : (width n a m i : ℕ) (xs : List Cell) → a + m ≡ n + 1 → a ≤ i → i ≤ n
    → words_of (chained 0 (map (free_cell width) (from a m)) ++ xs) i ≡ leading width (behind n i)
unfolding free_cell leading behind
words_at width n a zero i xs e h l = absurd (omega arith)
words_at width n a (suc m) i xs e h l =
    ⊎_elim (λ (q : a ≡ i). ap pick (eq-eqb a i q) ∙ ap (λ (x : ℕ). x ∷ replicate (width - 1) 0) (next_is m q e))
    (λ (d : a ≡ i → ⊥). ap pick (ne_eqb a i d) ∙ words_at width n (suc a) m i xs (omega arith) (omega arith) l) (eq? a i)
  where
    pick : Bool → List ℕ
    pick t = cond t (head_or 0 (map (free_cell width) (from (suc a) m)) ∷ replicate (width - 1) 0) (words_of (chained 0 (map (free_cell width) (from (suc a) m)) ++ xs) i)

    next_is : (m : ℕ) → a ≡ i → a + suc m ≡ n + 1 → head_or 0 (map (free_cell width) (from (suc a) m)) ≡ cond (ltb i n) (i + 1) 0
    next_is zero q g = ap (λ (t : Bool). cond t (i + 1) 0) (sym (le-ltb i n (omega arith)))
    next_is (suc m) q g =
        let z : suc a ≡ i + 1 = omega arith in
        z ∙ ap (λ (t : Bool). cond t (i + 1) 0) (sym (lt-ltb i n (omega arith)))

-- two functions that agree on the numbers from a on
map_same : (f g : ℕ → List ℕ) (a n : ℕ) → ((i : ℕ) → a ≤ i → i < a + n → f i ≡ g i) → map f (from a n) ≡ map g (from a n)
map_same f g a zero h = refl
map_same f g a (suc n) h = (λ k. h a (omega arith) (omega arith) k ∷ map_same f g (suc a) n (λ i p q. h i (omega arith) (omega arith)) k)

-- the part whose cells are all free, in its first chain
cells_part : (width n : ℕ) (rest : List (List Cell)) → cells_to width n n ≡ part (map (free_cell width) (from 1 n) ∷ rest) n
unfolding cells_to part
cells_part width n rest =
    ap join
    (map_same (λ i. leading width (behind n i)) (words_of (chained 0 (map (free_cell width) (from 1 n)) ++ join (map (chained 0) rest))) 1 n
    (λ i p q. sym (words_at width n 1 n i (join (map (chained 0) rest)) (omega arith) p (omega arith))))

card_cells : (sh : Shape) → cells_to (card_width sh) sh.limit sh.limit ≡ part (card_chains (fresh sh)) sh.limit
unfolding fresh
card_cells sh = cells_part (card_width sh) sh.limit (map (map card_cell) (fresh sh).buckets)

fault_cells : (sh : Shape) → cells_to fault_width sh.fault_limit sh.fault_limit ≡ part (fault_chains (fresh sh)) sh.fault_limit
unfolding fresh
fault_cells sh = cells_part fault_width sh.fault_limit (map (λ (x : Card). map fault_cell x.faults) (join (fresh sh).buckets))

pub cells_length : (width n i : ℕ) → 0 < width → length (cells_to width n i) ≡ width * i
unfolding cells_to
cells_length width n i h = join_length width (λ k. leading width (behind n k)) 1 i (λ k. length_lead width (behind n k) h)

-- the parts one behind another are the encoding of a fresh store
pub fresh_words : (sh : Shape)
    → (((header (fresh sh) ++ directory (fresh sh)) ++ segments (fresh sh)) ++ cells_to (card_width sh) sh.limit sh.limit) ++ cells_to fault_width sh.fault_limit sh.fault_limit
    ≡ encode (fresh sh)
unfolding encode front fresh
fresh_words sh =
    let s = fresh sh in
    append_assoc ((header s ++ directory s) ++ segments s) (cells_to (card_width sh) sh.limit sh.limit) (cells_to fault_width sh.fault_limit sh.fault_limit)
    ∙ (λ k. append_assoc (header s) (directory s) (segments s) k ++ (card_cells sh k ++ fault_cells sh k))

-- where the parts of a shape begin, and that they are few words
pub record Spans (sh : Shape) : Type 0 where
  pub head : segments_at sh ≡ directory_at + entries sh
  pub some : least_entries ≤ entries sh
  pub table : cards_at sh ≡ segments_at sh + top_of sh
  pub cards : faults_at sh ≡ cards_at sh + card_width sh * sh.limit
  pub faults : length_for sh ≡ faults_at sh + fault_width * sh.fault_limit
  pub few : length_for sh < farthest
  pub wide : 0 < card_width sh

pub spans : (sh : Shape) → shape_ok sh ≡ true → Spans sh
unfolding length_for faults_at cards_at
spans sh t =
    let m : card_width sh * sh.limit ≤ most_width * cards_ever = mul-le-mul {n₂ = most_width} {m₂ = cards_ever} (width_most sh) (few_cards sh t) in
    record {
      head = refl;
      some = entries_some sh;
      table = refl;
      cards = refl;
      faults = refl;
      few = omega (arith, m, top_most sh, few_faults sh t);
      wide = omega (arith, width_least sh);
    }

pub fresh_shape : (sh : Shape) → (fresh sh).shape ≡ sh
unfolding fresh
fresh_shape sh = refl
