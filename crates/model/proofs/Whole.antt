-- Words in the middle of a change: a front and chains that need not be a store's, each cell in one chain at most. A step is one write, or
-- none: a word of the front, a cell that stands in no chain, a next word that leads elsewhere, another word of a cell, or chains seen
-- otherwise where nothing is written. What is not written stays, so each law has one part that changes, and a change of a store is such
-- steps from `rep_whole` to `whole_rep`. Behind the steps: the front with one word set, the histories of cards, the first free cell taken
-- out of its chain, and where the end of a chain is written.
use mathlib.Core.Path.{◌≡◌, refl, sym, ap, ◌∙◌, subst}
use mathlib.Core.Logic.{◌⊎◌, inl, inr}
use mathlib.Core.List.{List, [], ◌∷◌, ◌++◌, map, append-nil, append_assoc}
use Prim.Native.Nat.{ℕ, zero, suc, ◌+◌, ◌-◌, ◌*◌, ◌≤◌, ◌<◌}
use native.Mathlib.Omega.{arith}
use lib.Dec.{eqb, lit<}
use lib.ListN.{length, get_or, set, take, drop, replicate, length-set, length-map, length-append}
use lib.Seq.{drop-cons, get_or_at, set_at, map-set_same, set-append_left, take-set-lt, take-set-le, get_or-set_other, sets, length-sets}
use borrow.Author.Tests.{ne_eqb}
use Rattle.model.specs.Lists.{join, total}
use Rattle.model.specs.Shape.{Shape, entries, top_of, card_width}
use Rattle.model.specs.Model.{Store, Card, cards, size, bucket, with_chain, cells_of}
use Rattle.model.specs.Layout.{to_next, Cell, head_or, chained, cell_at, fault_width, cards_at, faults_at, length_for, bounds_word, rule_word, directory_at, segments_at, first, last, fault_cell, free_cell, front, segments, card_chains, fault_chains}
use Rattle.model.specs.Words.{card_at, link_at}
use Rattle.model.proofs.Lists.{join_set, map_append, map_set, set_append_add, Every, every_at, at_every, every_map, map_every}
use Rattle.model.proofs.Sums.{bit, bit_same, total_append, total_set, total_one}
use Rattle.model.proofs.Each.{many, Each}
use Rattle.model.proofs.Places.{cell_at_from, cell_at_below, cell_at_end}
use Rattle.model.proofs.Chains.{Stands, Stand, stand_frame, many_chained}
use Rattle.model.proofs.Part.{cell_in, Held}
use Rattle.model.proofs.Writes.{Apart, sets_out, write_cell, take_sets, held_set, held_write, held_cut, held_word_lem, held_behind, y_in}
use Rattle.model.proofs.Shapes.{in_card}
use Rattle.model.proofs.Fair.{Fair}
use Rattle.model.proofs.Rep.{Rep}
use Rattle.model.proofs.Decode.{head_free}

pub record Whole (w : List ℕ) (sh : Shape) (fr : List ℕ) (cs fs : List (List Cell)) : Type 0 where
  pub long : length w ≡ length_for sh
  pub front : take (cards_at sh) w ≡ fr
  pub cards_apart : Apart sh.limit (join cs)
  pub cards : Held w (cards_at sh) (card_width sh) cs
  pub faults_apart : Apart sh.fault_limit (join fs)
  pub faults : Held w (faults_at sh) fault_width fs

pub each_apart : {n : ℕ} {cs : List Cell} → Each n cs → Apart n cs
each_apart e = record { once = e.once; inside = e.inside }

pub rep_whole : {w : List ℕ} {s : Store} → Rep w s → Whole w s.shape (front s) (card_chains s) (fault_chains s)
rep_whole r = record {
  long = r.long;
  front = r.front;
  cards_apart = each_apart r.fair.cells;
  cards = r.cards;
  faults_apart = each_apart r.fair.fault_cells;
  faults = r.faults;
}

pub whole_rep : {w : List ℕ} {s : Store} {fr : List ℕ} {cs fs : List (List Cell)} → Fair s → fr ≡ front s → cs ≡ card_chains s
    → (Held w (faults_at s.shape) fault_width fs → Held w (faults_at s.shape) fault_width (fault_chains s))
    → Whole w s.shape fr cs fs → Rep w s
whole_rep {w} {s} fair e d g r = record { fair = fair; long = r.long; front = r.front ∙ e; cards = subst (Held w (cards_at s.shape) (card_width s.shape)) d r.cards; faults = g r.faults }

-- fewer cells are apart too
pub apart_less : {n : ℕ} {cs ds : List Cell} → ((i : ℕ) → many i ds ≤ many i cs) → Apart n cs → Apart n ds
apart_less h r = record { once = λ i. omega (arith, h i, r.once i); inside = λ i p. r.inside i (omega (arith, h i)) }

-- another word in a cell moves none
many_word : (i : ℕ) (cs : List (List Cell)) (a : ℕ) (xs : List Cell) (y : Cell) (ys : List Cell) (ws : List ℕ) → a < length cs → get_or cs a [] ≡ xs ++ (y ∷ []) ++ ys
    → many i (join (set cs a (xs ++ (record { at = y.at; words = ws } ∷ []) ++ ys))) ≤ many i (join cs)
many_word i cs a xs y ys ws h g =
    let w : Cell → ℕ = λ c. bit (eqb i c.at) in
    let z : Cell = record { at = y.at; words = ws } in
    omega (
      arith,
      total_set w cs a (xs ++ (z ∷ []) ++ ys) h,
      ap (total w) g,
      total_append w (xs ++ (y ∷ [])) ys,
      total_append w xs (y ∷ []),
      total_append w (xs ++ (z ∷ [])) ys,
      total_append w xs (z ∷ []),
    )

-- words that agree in a part
held_frame : (w v : List ℕ) (base width n : ℕ) (chains : List (List Cell)) → Apart n (join chains)
    → ((m : ℕ) → base ≤ m → m < base + width * n → get_or v m 0 ≡ get_or w m 0) → Held w base width chains → Held v base width chains
held_frame w v base width n chains e f r j =
    stand_frame width (cell_in v base width) (cell_in w base width) (chained 0 (get_or chains j []))
    (λ i k p l. let q = e.inside i (omega (arith, many_chained 0 i (get_or chains j []), total_one (λ c. bit (eqb i c.at)) chains j)) in
    f (cell_at base width i k) (cell_at_from base width i k) (cell_at_below base width n i k q.0 q.1 l)) (r j)

module _ (w : List ℕ) (sh : Shape) (fr : List ℕ) (cs fs : List (List Cell)) (r : Whole w sh fr cs fs) where
  pub cards_fit : cards_at sh + card_width sh * sh.limit ≤ length w
  unfolding length_for faults_at
  cards_fit = omega (arith, r.long)

  pub faults_fit : faults_at sh + fault_width * sh.fault_limit ≤ length w
  unfolding length_for
  faults_fit = omega (arith, r.long)

  -- a word of the front
  pub front_write : (i v : ℕ) → i < (cards_at sh) → Whole (set w i v) sh (set fr i v) cs fs
  unfolding faults_at
  front_write i v h = record {
    long = length-set w i v ∙ r.long;
    front = take-set-lt (cards_at sh) w i v h ∙ ap (λ (l : List ℕ). set l i v) r.front;
    cards_apart = r.cards_apart;
    cards = held_frame w (set w i v) (cards_at sh) (card_width sh) sh.limit cs r.cards_apart (λ m a b. get_or-set_other w i m v 0 (omega arith)) r.cards;
    faults_apart = r.faults_apart;
    faults = held_frame w (set w i v) (faults_at sh) fault_width sh.fault_limit fs r.faults_apart (λ m a b. get_or-set_other w i m v 0 (omega arith)) r.faults;
  }

  -- writes to cards leave the front and the faults, and writes to faults leave the front and the cards
  cards_write : (v : List ℕ) (ds : List (List Cell)) → length v ≡ length w → take (cards_at sh) v ≡ take (cards_at sh) w
      → ((m : ℕ) → faults_at sh ≤ m → get_or v m 0 ≡ get_or w m 0) → Apart sh.limit (join ds) → Held v (cards_at sh) (card_width sh) ds → Whole v sh fr ds fs
  cards_write v ds l t o a h = record {
    long = l ∙ r.long;
    front = t ∙ r.front;
    cards_apart = a;
    cards = h;
    faults_apart = r.faults_apart;
    faults = held_frame w v (faults_at sh) fault_width sh.fault_limit fs r.faults_apart (λ m b k. o m b) r.faults;
  }

  faults_write : (v : List ℕ) (gs : List (List Cell)) → length v ≡ length w → take (cards_at sh) v ≡ take (cards_at sh) w
      → ((m : ℕ) → m < faults_at sh → get_or v m 0 ≡ get_or w m 0) → Apart sh.fault_limit (join gs) → Held v (faults_at sh) fault_width gs → Whole v sh fr cs gs
  unfolding faults_at
  faults_write v gs l t o a h = record {
    long = l ∙ r.long;
    front = t ∙ r.front;
    cards_apart = r.cards_apart;
    cards = held_frame w v (cards_at sh) (card_width sh) sh.limit cs r.cards_apart (λ m b k. o m k) r.cards;
    faults_apart = a;
    faults = h;
  }

  card_set : (i k v : ℕ) (ds : List (List Cell)) → 1 ≤ i → i ≤ sh.limit → k < (card_width sh) → Apart sh.limit (join ds)
      → Held (set w (cell_at (cards_at sh) (card_width sh) i k) v) (cards_at sh) (card_width sh) ds → Whole (set w (cell_at (cards_at sh) (card_width sh) i k) v) sh fr ds fs
  unfolding faults_at
  card_set i k v ds a b l =
      let p = cell_at (cards_at sh) (card_width sh) i k in
      cards_write (set w p v) ds (length-set w p v) (take-set-le (cards_at sh) w p v (cell_at_from (cards_at sh) (card_width sh) i k))
      (λ m h. get_or-set_other w p m v 0 (omega (arith, cell_at_below (cards_at sh) (card_width sh) sh.limit i k a b l)))

  fault_set : (i k v : ℕ) (gs : List (List Cell)) → 1 ≤ i → i ≤ sh.fault_limit → k < fault_width → Apart sh.fault_limit (join gs)
      → Held (set w (cell_at (faults_at sh) fault_width i k) v) (faults_at sh) fault_width gs → Whole (set w (cell_at (faults_at sh) fault_width i k) v) sh fr cs gs
  unfolding faults_at
  fault_set i k v gs a b l =
      let p = cell_at (faults_at sh) fault_width i k in
      faults_write (set w p v) gs (length-set w p v) (take-set-le (cards_at sh) w p v (omega (arith, cell_at_from (faults_at sh) fault_width i k)))
      (λ m h. get_or-set_other w p m v 0 (omega (arith, cell_at_from (faults_at sh) fault_width i k)))

  -- a cell that stands in no chain
  pub card_fill : (i : ℕ) (vs : List ℕ) → 1 ≤ i → i ≤ sh.limit → length vs ≡ (card_width sh) → many i (join cs) ≡ 0
      → Whole (sets w (cell_at (cards_at sh) (card_width sh) i 0) vs) sh fr cs fs
  unfolding faults_at
  card_fill i vs a b l z =
      let p = cell_at (cards_at sh) (card_width sh) i 0 in
      cards_write (sets w p vs) cs (length-sets w p vs) (take_sets (cards_at sh) vs w p (cell_at_from (cards_at sh) (card_width sh) i 0))
      (λ m h. sets_out vs w p m (inr (omega (arith, cell_at_end (cards_at sh) (card_width sh) sh.limit i a b)))) r.cards_apart
      (held_write w (cards_at sh) (card_width sh) sh.limit cs cards_fit r.cards_apart r.cards i vs a l z)

  pub fault_fill : (i : ℕ) (vs : List ℕ) → 1 ≤ i → i ≤ sh.fault_limit → length vs ≡ fault_width → many i (join fs) ≡ 0
      → Whole (sets w (cell_at (faults_at sh) fault_width i 0) vs) sh fr cs fs
  unfolding faults_at
  fault_fill i vs a b l z =
      let p = cell_at (faults_at sh) fault_width i 0 in
      faults_write (sets w p vs) fs (length-sets w p vs) (take_sets (cards_at sh) vs w p (omega (arith, cell_at_from (faults_at sh) fault_width i 0)))
      (λ m h. sets_out vs w p m (inl (omega (arith, cell_at_from (faults_at sh) fault_width i 0)))) r.faults_apart
      (held_write w (faults_at sh) fault_width sh.fault_limit fs faults_fit r.faults_apart r.faults i vs a l z)

  -- one word of such a cell
  pub card_loose : (i k v : ℕ) → 1 ≤ i → i ≤ sh.limit → k < (card_width sh) → many i (join cs) ≡ 0 → Whole (set w (cell_at (cards_at sh) (card_width sh) i k) v) sh fr cs fs
  card_loose i k v a b l z =
      card_set i k v cs a b l r.cards_apart λ j.
      stand_frame (card_width sh) (cell_in (set w (cell_at (cards_at sh) (card_width sh) i k) v) (cards_at sh) (card_width sh)) (cell_in w (cards_at sh) (card_width sh)) (chained 0 (get_or cs j []))
      (λ x m p q. let h : 0 < many x (join cs) = omega (arith, many_chained 0 x (get_or cs j []), total_one (λ c. bit (eqb x c.at)) cs j) in
      write_cell w (cards_at sh) (card_width sh) i x k m v a (r.cards_apart.inside x h).0 l q (λ e. let g : many x (join cs) ≡ 0 = ap (λ (y : ℕ). many y (join cs)) e ∙ z in omega arith)) (r.cards j)

  -- nothing is written, and chain a is seen to be another one
  pub card_chain : (a : ℕ) (ch : List Cell) → a < length cs → Apart sh.limit (join (set cs a ch)) → Stand (cell_in w (cards_at sh) (card_width sh)) (card_width sh) (chained 0 ch)
      → Whole w sh fr (set cs a ch) fs
  card_chain a ch h e q =
      cards_write w (set cs a ch) refl refl (λ m b. refl) e (held_set w (cards_at sh) (card_width sh) cs a ch h (λ j d. r.cards j) q)

  pub fault_chain : (a : ℕ) (ch : List Cell) → a < length fs → Apart sh.fault_limit (join (set fs a ch)) → Stand (cell_in w (faults_at sh) fault_width) fault_width (chained 0 ch)
      → Whole w sh fr cs (set fs a ch)
  fault_chain a ch h e q =
      faults_write w (set fs a ch) refl refl (λ m b. refl) e (held_set w (faults_at sh) fault_width fs a ch h (λ j d. r.faults j) q)

  -- a cell that stands in no chain and is written as the end of one is put behind the last cell y of chain a
  module _ (a : ℕ) (xs : List Cell) (y x : Cell) (i : 1 ≤ x.at) where
    pub card_behind : a < length cs → get_or cs a [] ≡ xs ++ (y ∷ []) → many x.at (join cs) ≡ 0
        → Stands (cell_in w (cards_at sh) (card_width sh)) (card_width sh) (record { at = x.at; words = 0 ∷ x.words }) → Apart sh.limit (join (set cs a (xs ++ (y ∷ []) ++ (x ∷ []))))
        → (1 ≤ y.at) × Whole (set w (cell_at (cards_at sh) (card_width sh) y.at 0) x.at) sh fr (set cs a (xs ++ (y ∷ []) ++ (x ∷ []))) fs
    card_behind h g m q e =
        let k = y_in w (cards_at sh) (card_width sh) sh.limit cs cards_fit r.cards_apart r.cards a xs y [] h (g ∙ sym (append-nil (xs ++ (y ∷ [])))) in
        (k.0, card_set y.at to_next x.at _ k.0 k.1 (in_card sh (lit< tt)) e (held_behind w (cards_at sh) (card_width sh) sh.limit cs cards_fit r.cards_apart r.cards a xs y x h (in_card sh (lit< tt)) g m i q))

    pub fault_behind : a < length fs → get_or fs a [] ≡ xs ++ (y ∷ []) → many x.at (join fs) ≡ 0
        → Stands (cell_in w (faults_at sh) fault_width) fault_width (record { at = x.at; words = 0 ∷ x.words }) → Apart sh.fault_limit (join (set fs a (xs ++ (y ∷ []) ++ (x ∷ []))))
        → (1 ≤ y.at) × Whole (set w (cell_at (faults_at sh) fault_width y.at 0) x.at) sh fr cs (set fs a (xs ++ (y ∷ []) ++ (x ∷ [])))
    fault_behind h g m q e =
        let k = y_in w (faults_at sh) fault_width sh.fault_limit fs faults_fit r.faults_apart r.faults a xs y [] h (g ∙ sym (append-nil (xs ++ (y ∷ [])))) in
        (k.0, fault_set y.at to_next x.at _ k.0 k.1 (lit< tt) e (held_behind w (faults_at sh) fault_width sh.fault_limit fs faults_fit r.faults_apart r.faults a xs y x h (lit< tt) g m i q))

  -- a write to the cell y of chain a of the cards
  module _ (a : ℕ) (xs : List Cell) (y : Cell) (ys : List Cell) (h : a < length cs) (g : get_or cs a [] ≡ xs ++ (y ∷ []) ++ ys) where
    pub card_in : (1 ≤ y.at) × (y.at ≤ sh.limit)
    card_in = y_in w (cards_at sh) (card_width sh) sh.limit cs cards_fit r.cards_apart r.cards a xs y ys h g

    -- its next word leads to another run of cells
    pub card_cut : (zs : List Cell) → ((i : ℕ) → 0 < many i zs → 1 ≤ i) → many y.at zs ≡ 0 → Stand (cell_in w (cards_at sh) (card_width sh)) (card_width sh) (chained 0 zs)
        → Apart sh.limit (join (set cs a (xs ++ (y ∷ []) ++ zs)))
        → Whole (set w (cell_at (cards_at sh) (card_width sh) y.at 0) (head_or 0 zs)) sh fr (set cs a (xs ++ (y ∷ []) ++ zs)) fs
    card_cut zs p o q e =
        card_set y.at to_next (head_or 0 zs) (set cs a (xs ++ (y ∷ []) ++ zs)) card_in.0 card_in.1 (in_card sh (lit< tt)) e
        (held_cut w (cards_at sh) (card_width sh) sh.limit cs cards_fit r.cards_apart r.cards a xs y ys h g zs (in_card sh (lit< tt)) p o q)

    -- another word
    pub card_word_lem : (k v : ℕ) → suc k < (card_width sh) → k < length y.words
        → Whole (set w (cell_at (cards_at sh) (card_width sh) y.at (suc k)) v) sh fr (set cs a (xs ++ (record { at = y.at; words = set y.words k v } ∷ []) ++ ys)) fs
    card_word_lem k v l b =
        card_set y.at (suc k) v _ card_in.0 card_in.1 l (apart_less (λ i. many_word i cs a xs y ys (set y.words k v) h g) r.cards_apart)
        (held_word_lem w (cards_at sh) (card_width sh) sh.limit cs cards_fit r.cards_apart r.cards a xs y ys h g k v l b)

  -- and of the faults
  module _ (a : ℕ) (xs : List Cell) (y : Cell) (ys : List Cell) (h : a < length fs) (g : get_or fs a [] ≡ xs ++ (y ∷ []) ++ ys) where
    pub fault_in_lem : (1 ≤ y.at) × (y.at ≤ sh.fault_limit)
    fault_in_lem = y_in w (faults_at sh) fault_width sh.fault_limit fs faults_fit r.faults_apart r.faults a xs y ys h g

    pub fault_cut : (zs : List Cell) → ((i : ℕ) → 0 < many i zs → 1 ≤ i) → many y.at zs ≡ 0 → Stand (cell_in w (faults_at sh) fault_width) fault_width (chained 0 zs)
        → Apart sh.fault_limit (join (set fs a (xs ++ (y ∷ []) ++ zs)))
        → Whole (set w (cell_at (faults_at sh) fault_width y.at 0) (head_or 0 zs)) sh fr cs (set fs a (xs ++ (y ∷ []) ++ zs))
    fault_cut zs p o q e =
        fault_set y.at to_next (head_or 0 zs) (set fs a (xs ++ (y ∷ []) ++ zs)) fault_in_lem.0 fault_in_lem.1 (lit< tt) e
        (held_cut w (faults_at sh) fault_width sh.fault_limit fs faults_fit r.faults_apart r.faults a xs y ys h g zs (lit< tt) p o q)

    pub fault_word_lem : (k v : ℕ) → suc k < fault_width → k < length y.words
        → Whole (set w (cell_at (faults_at sh) fault_width y.at (suc k)) v) sh fr cs (set fs a (xs ++ (record { at = y.at; words = set y.words k v } ∷ []) ++ ys))
    fault_word_lem k v l b =
        fault_set y.at (suc k) v _ fault_in_lem.0 fault_in_lem.1 l (apart_less (λ i. many_word i fs a xs y ys (set y.words k v) h g) r.faults_apart)
        (held_word_lem w (faults_at sh) fault_width sh.fault_limit fs faults_fit r.faults_apart r.faults a xs y ys h g k v l b)

-- the front of words: header, directory, segments

abbrev pub fronted : (sh : Shape) (m p n k fc ff : ℕ) (d g : List ℕ) → List ℕ
fronted sh m p n k fc ff d g =
    sh.format ∷ sh.limit ∷ sh.fault_limit ∷ m ∷ p ∷ n ∷ k ∷ fc ∷ ff ∷ directory_at ∷ segments_at sh ∷ (cards_at sh) ∷ faults_at sh ∷ length_for sh ∷ bounds_word sh ∷ rule_word sh ∷ (d ++ g)

pub fronted_bucket : (sh : Shape) (m p n k fc ff : ℕ) (d g : List ℕ) (b v : ℕ) → length d ≡ entries sh
    → set (fronted sh m p n k fc ff d g) (segments_at sh + b) v ≡ fronted sh m p n k fc ff d (set g b v)
fronted_bucket sh m p n k fc ff d g b v l =
    let h = fronted sh m p n k fc ff [] [] in
    let e : segments_at sh + b ≡ length h + (length d + b) = omega arith in
    ap (λ (i : ℕ). set (h ++ (d ++ g)) i v) e ∙ set_append_add h (d ++ g) (length d + b) v ∙ ap (λ (l : List ℕ). h ++ l) (set_append_add d g b v)

pub fronted_entry : (sh : Shape) (m p n k fc ff : ℕ) (d g : List ℕ) (j v : ℕ) → j < length d
    → set (fronted sh m p n k fc ff d g) (directory_at + j) v ≡ fronted sh m p n k fc ff (set d j v) g
fronted_entry sh m p n k fc ff d g j v l =
    let h = fronted sh m p n k fc ff [] [] in
    set_append_add h (d ++ g) j v ∙ ap (λ (l : List ℕ). h ++ l) (set-append_left d g j v l)

-- the segments of a store with one chain replaced
pub segments_chain : (s : Store) (a : ℕ) (ch : List Card) → a < length s.buckets → set (segments s) a (first (cells_of ch)) ≡ segments (with_chain s a ch)
unfolding segments
segments_chain s a ch h =
    let f : List Card → ℕ = λ b. first (cells_of b) in
    set-append_left (map f s.buckets) (replicate (top_of s.shape - size s) 0) a (f ch) (omega (arith, length-map s.buckets f))
    ∙ ap (λ (l : List ℕ). l ++ replicate (top_of s.shape - size s) 0) (sym (map_set f s.buckets a ch))

pub segments_kept : (s : Store) (a : ℕ) (ch : List Card) → first (cells_of ch) ≡ first (cells_of (bucket s a)) → segments s ≡ segments (with_chain s a ch)
unfolding segments
segments_kept s a ch e =
    let f : List Card → ℕ = λ b. first (cells_of b) in
    ap (λ (l : List ℕ). l ++ replicate (top_of s.shape - size s) 0) (sym (map-set_same f s.buckets a ch [] e))

-- the histories of cards, one by one

abbrev pub history_of : Card → List Cell
history_of card = map fault_cell card.faults

abbrev pub Recorded : List ℕ → Shape → Card → Type 0
Recorded w sh card = Stand (cell_in w (faults_at sh) fault_width) fault_width (chained 0 (history_of card))

module _ (w : List ℕ) (sh : Shape) (free : List Cell) (cs : List Card) where
  pub held_recorded : Held w (faults_at sh) fault_width (free ∷ map history_of cs) → Every (Recorded w sh) cs
  held_recorded h =
      let P : List Cell → Type 0 = λ ch. Stand (cell_in w (faults_at sh) fault_width) fault_width (chained 0 ch) in
      every_map P history_of cs (at_every P (map history_of cs) [] (λ j. h (suc j)))

  pub recorded_held : Stand (cell_in w (faults_at sh) fault_width) fault_width (chained 0 free) → Every (Recorded w sh) cs
      → Held w (faults_at sh) fault_width (free ∷ map history_of cs)
  recorded_held z e zero = z
  recorded_held z e (suc j) =
      let P : List Cell → Type 0 = λ ch. Stand (cell_in w (faults_at sh) fault_width) fault_width (chained 0 ch) in
      every_at P (map history_of cs) [] tt (map_every P history_of cs e) j

-- the cards of a store with one chain replaced, parted in that chain; and the histories parted at a card
pub cards_joined : (s : Store) (a : ℕ) (xs ys : List Card) → a < length s.buckets
    → cards (with_chain s a (xs ++ ys)) ≡ (join (take a s.buckets) ++ xs) ++ (ys ++ join (drop (suc a) s.buckets))
cards_joined s a xs ys h = join_set s.buckets a (xs ++ ys) h ∙ simp append_assoc

module _ (cs left : List Card) (x : Card) (right : List Card) (e : cs ≡ left ++ (x ∷ right)) where
  pub history_get : get_or (map history_of cs) (length left) [] ≡ history_of x
  history_get =
      ap (λ (l : List Card). get_or (map history_of l) (length left) []) e
      ∙ ap (λ (l : List (List Cell)). get_or l (length left) []) (map_append history_of left (x ∷ right))
      ∙ get_or_at (map history_of left) (history_of x) (map history_of right) [] (length left) (length-map left history_of)

  pub history_set : (ch : List Cell) → set (map history_of cs) (length left) ch ≡ map history_of left ++ (ch ∷ map history_of right)
  history_set ch =
      ap (λ (l : List Card). set (map history_of l) (length left) ch) e
      ∙ ap (λ (l : List (List Cell)). set l (length left) ch) (map_append history_of left (x ∷ right))
      ∙ set_at (map history_of left) (history_of x) (map history_of right) ch (length left) (length-map left history_of)

  pub history_below : length left < length (map history_of cs)
  history_below = omega (arith, length-map cs history_of, ap length e, length-append left (x ∷ right))

-- the first cell of a free chain is taken out of it: it stands in no other chain, and its next word names the next free cell
module _ (w : List ℕ) (base width n : ℕ) (free : List ℕ) (others : List (List Cell)) (z : 0 < width) (some : 0 < length free)
    (e : Each n (join (map (free_cell width) free ∷ others))) (h : Held w base width (map (free_cell width) free ∷ others)) where
  free_is : free ≡ first free ∷ drop 1 free
  free_is = drop-cons free 0 0 some

  taken_count : (i : ℕ) → many i (join (map (free_cell width) free ∷ others)) ≡ bit (eqb i (first free)) + many i (join (map (free_cell width) (drop 1 free) ∷ others))
  unfolding free_cell
  taken_count i = ap (λ (l : List ℕ). many i (join (map (free_cell width) l ∷ others))) free_is

  pub taken_in : (1 ≤ first free) × (first free ≤ n)
  taken_in = e.inside (first free) (omega (arith, taken_count (first free), bit_same (first free) (first free) refl))

  pub taken_none : many (first free) (join (map (free_cell width) (drop 1 free) ∷ others)) ≡ 0
  taken_none = omega (arith, taken_count (first free), e.once (first free), bit_same (first free) (first free) refl)

  pub taken_apart : Apart n (join (map (free_cell width) (drop 1 free) ∷ others))
  taken_apart = record { once = λ i. omega (arith, taken_count i, e.once i); inside = λ i p. e.inside i (omega (arith, taken_count i)) }

  taken_stand : Stand (cell_in w base width) width (chained 0 (map (free_cell width) (first free ∷ drop 1 free)))
  taken_stand = subst (λ (l : List ℕ). Stand (cell_in w base width) width (chained 0 (map (free_cell width) l))) free_is (h 0)

  pub taken_rest : Stand (cell_in w base width) width (chained 0 (map (free_cell width) (drop 1 free)))
  taken_rest = taken_stand.1

  pub taken_next : cell_in w base width (first free) 0 ≡ first (drop 1 free)
  unfolding free_cell
  taken_next = taken_stand.0 0 z ∙ sym (head_free width (drop 1 free))

last_snoc : (l : List ℕ) (x : ℕ) → last (l ++ (x ∷ [])) ≡ x
unfolding last
last_snoc [] x = refl
last_snoc (y ∷ []) x = refl
last_snoc (y ∷ z ∷ l) x = last_snoc (z ∷ l) x

-- the end of a chain: none, or a last cell, behind which the next one is linked
module _ {A : Type 0} where
  pub ends : (l : List A) → (l ≡ []) ⊎ ((xs : List A) × (x : A) × (l ≡ xs ++ (x ∷ [])))
  ends [] = inl refl
  ends (x ∷ l) = go (ends l)
    where
      go : (l ≡ []) ⊎ ((xs : List A) × (z : A) × (l ≡ xs ++ (z ∷ []))) → (x ∷ l ≡ []) ⊎ ((xs : List A) × (z : A) × (x ∷ l ≡ xs ++ (z ∷ [])))
      go (inl e) = inr ([], x, ap (λ (m : List A). x ∷ m) e)
      go (inr (xs, z, e)) = inr (x ∷ xs, z, ap (λ (m : List A). x ∷ m) e)

  module _ (at : A → ℕ) (l : List A) where
    pub last_none : l ≡ [] → last (map at l) ≡ 0
    unfolding last
    last_none e = ap (λ (l : List A). last (map at l)) e

    pub last_at : (xs : List A) (x : A) → l ≡ xs ++ (x ∷ []) → last (map at l) ≡ at x
    last_at xs x e = ap (λ (l : List A). last (map at l)) e ∙ ap last (map_append at xs (x ∷ [])) ∙ last_snoc (map at xs) (at x)

    pub link_none : (sh : Shape) (b : ℕ) → l ≡ [] → link_at sh b (last (map at l)) ≡ segments_at sh + b
    unfolding link_at
    link_none sh b e = ap (link_at sh b) (last_none e)

    pub link_last : (sh : Shape) (b : ℕ) (xs : List A) (x : A) → l ≡ xs ++ (x ∷ []) → 1 ≤ at x → link_at sh b (last (map at l)) ≡ card_at sh (at x) to_next
    unfolding link_at
    link_last sh b xs x e h = ap (link_at sh b) (last_at xs x e) ∙ rw (ne_eqb (at x) 0 (omega arith))
