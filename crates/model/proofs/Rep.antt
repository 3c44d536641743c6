-- The tie: `Rep w s`, the words w are those of the store s. It says where each word comes from: the front is the store's front, and
-- every chain of cards and of faults stands in its part. Since each cell stands in one chain, no word is left open: two runs of words
-- of one store are equal (`rep_one`), and `encode` writes such words (`rep_encode`), so they are always the encoding (`rep_words`).
-- The load is not part of it: an entry breaks it until its split.
use mathlib.Core.Path.{◌≡◌, refl, sym, ap, ◌∙◌, subst}
use mathlib.Core.Logic.{◌⊎◌, inl, inr, ⊎_elim}
use mathlib.Core.List.{List, [], ◌∷◌, ◌++◌, map}
use Prim.Native.Nat.{ℕ, zero, suc, ◌+◌, ◌-◌, ◌*◌, ◌≤◌, ◌<◌}
use native.Mathlib.Nat.{zero-add}
use native.Mathlib.Omega.{arith}
use lib.ListN.{length, get_or, take, length-append, get_or-append, length-map, length-replicate}
use lib.Seq.{get_or-append-add, take_at, get_or-take, ext_get_or}
use Rattle.rules.proofs.Tests.{lt?}
use Rattle.rules.proofs.States.{state_of}
use Rattle.model.specs.Shape.{Shape, entries, top_of, card_width}
use Rattle.model.specs.Model.{Store, Card, Fault, cards, size}
use Rattle.model.specs.Layout.{part, fault_width, card_cell, fault_cell, free_cell, card_chains, fault_chains, cards_at, faults_at, length_for, directory_at, header, directory, segments, front, encode}
use Rattle.model.proofs.Part.{Held, held_same, held_move, Wide, part_length, part_held}
use Rattle.model.proofs.Tables.{length_table}
use Rattle.model.proofs.Shapes.{width_least, card_fills}
use Rattle.model.proofs.Fair.{Fair}

-- the words w stand for the store s
pub record Rep (w : List ℕ) (s : Store) : Type 0 where
  pub fair : Fair s
  pub long : length w ≡ length_for s.shape
  pub front : take (cards_at s.shape) w ≡ front s
  pub cards : Held w (cards_at s.shape) (card_width s.shape) (card_chains s)
  pub faults : Held w (faults_at s.shape) fault_width (fault_chains s)

pub size_top : (s : Store) → Fair s → size s ≤ top_of s.shape
size_top s r = (state_of (top_of s.shape) s.maxp s.p r.state).room

-- all cells have the words of their width

-- a width is one more than the words behind the next one
width_some : (sh : Shape) → suc (card_width sh - 1) ≡ card_width sh
width_some sh = omega (arith, width_least sh)

wide_free : (m : ℕ) (l : List ℕ) → Wide m (map (free_cell (suc m)) l)
unfolding free_cell
wide_free m [] = tt
wide_free m (x ∷ xs) = (length-replicate (suc m - 1) 0 ∙ omega arith, wide_free m xs)

wide_cards : (sh : Shape) (l : List Card) → Wide (card_width sh - 1) (map card_cell l)
wide_cards sh [] = tt
wide_cards sh (x ∷ xs) = (card_fills sh x, wide_cards sh xs)

wide_faults : (l : List Fault) → Wide (fault_width - 1) (map fault_cell l)
unfolding fault_cell
wide_faults [] = tt
wide_faults (x ∷ xs) = (refl, wide_faults xs)

wide_card_chains : (s : Store) (j : ℕ) → Wide (card_width s.shape - 1) (get_or (card_chains s) j [])
wide_card_chains s zero = subst (λ (n : ℕ). Wide (card_width s.shape - 1) (map (free_cell n) s.free)) (width_some s.shape) (wide_free (card_width s.shape - 1) s.free)
wide_card_chains s (suc j) = go s.buckets j
  where
    go : (bs : List (List Card)) (j : ℕ) → Wide (card_width s.shape - 1) (get_or (map (map card_cell) bs) j [])
    go [] j = tt
    go (b ∷ bs) zero = wide_cards s.shape b
    go (b ∷ bs) (suc j) = go bs j

wide_fault_chains : (s : Store) (j : ℕ) → Wide (fault_width - 1) (get_or (fault_chains s) j [])
wide_fault_chains s zero = wide_free (fault_width - 1) s.free_faults
wide_fault_chains s (suc j) = go (cards s) j
  where
    go : (cs : List Card) (j : ℕ) → Wide (fault_width - 1) (get_or (map (λ c. map fault_cell c.faults) cs) j [])
    go [] j = tt
    go (c ∷ cs) zero = wide_faults c.faults
    go (c ∷ cs) (suc j) = go cs j

pub segments_length : (s : Store) → Fair s → length (segments s) ≡ top_of s.shape
unfolding segments
segments_length s r = simp (length-append, length-map, length-replicate) (omega (arith, r.number, size_top s r))

pub directory_length : (s : Store) → length (directory s) ≡ entries s.shape
unfolding directory
directory_length s = length_table _ 0 (entries s.shape)

front_length : (s : Store) → Fair s → length (front s) ≡ cards_at s.shape
unfolding front header cards_at
front_length s r =
    length-append (header s) (directory s ++ segments s)
    ∙ omega (arith, length-append (directory s) (segments s), segments_length s r, directory_length s)

-- the encoding stands for the store
pub rep_encode : (s : Store) → Fair s → Rep (encode s) s
unfolding encode length_for faults_at
rep_encode s r =
    let h = front_length s r in
    record {
      fair = r;
      long = simp length-append (omega (arith, cards_long, faults_long));
      front = take_at (front s) (C ++ F) (cards_at s.shape) h;
      cards = held_move (encode s) C (cards_at s.shape) 0 (card_width s.shape) s.shape.limit (card_chains s) r.cells (λ m b. in_cards m (omega (arith, cards_long))) (subst (λ (n : ℕ). Held C 0 n (card_chains s)) (width_some s.shape) (part_held (card_width s.shape - 1) s.shape.limit (card_chains s) r.cells (wide_card_chains s)));
      faults = held_move (encode s) F (faults_at s.shape) 0 fault_width s.shape.fault_limit (fault_chains s) r.fault_cells (λ m b. in_faults m) (part_held (fault_width - 1) s.shape.fault_limit (fault_chains s) r.fault_cells (wide_fault_chains s));
    }
  where
    C : List ℕ
    C = part (card_chains s) s.shape.limit

    F : List ℕ
    F = part (fault_chains s) s.shape.fault_limit

    cards_long : length C ≡ card_width s.shape * s.shape.limit
    cards_long = subst (λ (n : ℕ). length C ≡ n * s.shape.limit) (width_some s.shape) (part_length (card_width s.shape - 1) s.shape.limit (card_chains s) r.cells (wide_card_chains s))

    faults_long : length F ≡ fault_width * s.shape.fault_limit
    faults_long = part_length (fault_width - 1) s.shape.fault_limit (fault_chains s) r.fault_cells (wide_fault_chains s)

    in_cards : (m : ℕ) → m < length C → get_or (front s ++ (C ++ F)) (cards_at s.shape + m) 0 ≡ get_or C (0 + m) 0
    in_cards m b =
        subst (λ (n : ℕ). get_or (front s ++ (C ++ F)) (n + m) 0 ≡ get_or C (0 + m) 0) (front_length s r)
        (get_or-append-add (front s) (C ++ F) m 0 ∙ get_or-append C F 0 m b ∙ ap (λ (n : ℕ). get_or C n 0) (sym (zero-add m)))

    in_faults : (m : ℕ) → get_or (front s ++ (C ++ F)) (cards_at s.shape + card_width s.shape * s.shape.limit + m) 0 ≡ get_or F (0 + m) 0
    in_faults m =
        let e : cards_at s.shape + card_width s.shape * s.shape.limit + m ≡ length (front s) + (length C + m) = omega (arith, front_length s r, cards_long) in
        ap (λ (n : ℕ). get_or (front s ++ (C ++ F)) n 0) e
        ∙ get_or-append-add (front s) (C ++ F) (length C + m) 0 ∙ get_or-append-add C F m 0 ∙ ap (λ (n : ℕ). get_or F n 0) (sym (zero-add m))

-- the words before the cells
pub rep_front : {w : List ℕ} {s : Store} → Rep w s → (i : ℕ) → i < (cards_at s.shape) → get_or w i 0 ≡ get_or (front s) i 0
rep_front {w} {s} r i h = sym (get_or-take (cards_at s.shape) w i 0 h) ∙ ap (λ (l : List ℕ). get_or l i 0) r.front

-- the words of the header
pub rep_head : {w : List ℕ} {s : Store} → Rep w s → (i : ℕ) → i < directory_at → get_or w i 0 ≡ get_or (front s) i 0
unfolding cards_at
rep_head r i h = rep_front r i (omega arith)

-- no other words stand for the store
pub rep_one : (w v : List ℕ) (s : Store) → Rep w s → Rep v s → w ≡ v
unfolding length_for faults_at
rep_one w v s p q = ext_get_or 0 w v (p.long ∙ sym q.long) at
  where
    rest : (i : ℕ) → (cards_at s.shape) ≤ i → i < length w → (i < (cards_at s.shape) + card_width s.shape * s.shape.limit) ⊎ (cards_at s.shape + card_width s.shape * s.shape.limit ≤ i) → get_or w i 0 ≡ get_or v i 0
    rest i a b (inl c) = held_same w v (cards_at s.shape) (card_width s.shape) s.shape.limit (card_chains s) (omega (arith, width_least s.shape)) p.fair.cells p.cards q.cards i a c
    rest i a b (inr c) =
        held_same w v (cards_at s.shape + card_width s.shape * s.shape.limit) fault_width s.shape.fault_limit (fault_chains s) (omega arith) p.fair.fault_cells p.faults q.faults i c (omega (arith, p.long))

    at : (i : ℕ) → i < length w → get_or w i 0 ≡ get_or v i 0
    at i b =
        ⊎_elim (λ (h : i < (cards_at s.shape)). rep_front p i h ∙ sym (rep_front q i h)) (λ (h : (cards_at s.shape) ≤ i). rest i h b (lt? i (cards_at s.shape + card_width s.shape * s.shape.limit))) (lt? i (cards_at s.shape))

-- so the words are the encoding
pub rep_words : (w : List ℕ) (s : Store) → Rep w s → w ≡ encode s
rep_words w s r = rep_one w (encode s) s r (rep_encode s r.fair)
