-- What is read off the words of a store: the header's words, a bucket's word and its chain, and for each card and fault the words of its
-- cell, all as the store has them.
use mathlib.Core.Path.{◌≡◌, refl, sym, ap, ◌∙◌, subst}
use mathlib.Core.List.{List, [], ◌∷◌, ◌++◌, map}
use Prim.Native.Nat.{ℕ, suc, ◌+◌, ◌<◌}
use native.Mathlib.Omega.{arith}
use mathlib.Core.Bool.{true}
use lib.Dec.{lit<}
use lib.ListN.{length, get_or}
use Rattle.model.specs.Serial.{serial_ok}
use Rattle.model.specs.Shape.{Shape, card_width}
use Rattle.model.specs.Model.{Store, Card, held, faults_held, bucket, cells_of, fault_cells_of}
use Rattle.model.specs.Layout.{maxp_at, p_at, held_at, faults_held_at, free_at, free_faults_at, to_next, to_length, to_serial, to_first, to_last, to_count, Cell, head_or, chained, segments_at, cards_at, card_cell, header, front, first, last, card_word, read_card, read_chain}
use Rattle.model.specs.Meaning.{bucket_word, bucket_cells, serial_in, bytes_in}
use Rattle.model.proofs.Lists.{map_append, Every}
use Rattle.model.proofs.Chains.{Memory, Stands, Stand, stand_parts, chained_append}
use Rattle.model.proofs.Part.{cell_in}
use Rattle.model.proofs.Shapes.{in_card}
use Rattle.model.proofs.Serials.{serial_read}
use Rattle.model.proofs.Rep.{Rep, rep_front, rep_head, size_top}
use Rattle.model.proofs.Decode.{head_cards, segment_at, cards_at_lem, read_chain_lem}

-- what is read at a cell, of lists that are read cell by cell
module _ {A : Type 0} (at : A → ℕ) (read : ℕ → A) (numbered : (i : ℕ) → at (read i) ≡ i) where
  ats : (l : List ℕ) → map at (map read l) ≡ l
  ats [] = refl
  ats (i ∷ l) = λ t. numbered i t ∷ ats l t

  back : (l : List ℕ) → Every (λ x. read (at x) ≡ x) (map read l)
  back [] = tt
  back (i ∷ l) = (ap read (numbered i), back l)

  read_back : (l : List ℕ) (xs : List A) → map read l ≡ xs → (map at xs ≡ l) × Every (λ x. read (at x) ≡ x) xs
  read_back l xs e = (ap (map at) (sym e) ∙ ats l, subst (Every (λ x. read (at x) ≡ x)) e (back l))

-- one cell of a chain that stands
pub stand_at : (width : ℕ) (word : Memory) (xs : List Cell) (x : Cell) (ys : List Cell) → Stand word width (chained 0 (xs ++ (x ∷ ys)))
    → Stands word width (record { at = x.at; words = head_or 0 ys ∷ x.words })
stand_at width word xs x ys r = (stand_parts width word (chained x.at xs) (chained 0 (x ∷ ys)) (rw (← (chained_append 0 xs (x ∷ ys))) r)).1.0

-- the serial of a card whose cell stands
pub serial_stands : (sh : Shape) (w : List ℕ) (t : ℕ) (x : Card) → serial_ok x.serial ≡ true
    → Stands (cell_in w (cards_at sh) (card_width sh)) (card_width sh) (record { at = x.at; words = t ∷ (card_cell x).words }) → serial_in sh w x.at ≡ x.serial
unfolding serial_in bytes_in card_word card_cell
serial_stands sh w t x v q = serial_read _ _ _ _ _ x.serial v (q to_length (in_card sh (lit< tt))) (q to_serial (in_card sh (lit< tt))) (q (to_serial + 1) (in_card sh (lit< tt))) (q (to_serial + 2) (in_card sh (lit< tt))) (q (to_serial + 3) (in_card sh (lit< tt)))

module _ (w : List ℕ) (s : Store) (r : Rep w s) where
  -- the header
  pub maxp_at_lem : get_or w maxp_at 0 ≡ s.maxp
  unfolding front header
  maxp_at_lem = rep_head r maxp_at (lit< tt)

  pub p_at_lem : get_or w p_at 0 ≡ s.p
  unfolding front header
  p_at_lem = rep_head r p_at (lit< tt)

  pub held_at_lem : get_or w held_at 0 ≡ held s
  unfolding front header
  held_at_lem = rep_head r held_at (lit< tt)

  pub faults_held_at_lem : get_or w faults_held_at 0 ≡ faults_held s
  unfolding front header
  faults_held_at_lem = rep_head r faults_held_at (lit< tt)

  pub free_at_lem : get_or w free_at 0 ≡ first s.free
  unfolding front header
  free_at_lem = rep_head r free_at (lit< tt)

  pub free_faults_at_lem : get_or w free_faults_at 0 ≡ first s.free_faults
  unfolding front header
  free_faults_at_lem = rep_head r free_faults_at (lit< tt)

  -- a bucket
  pub bucket_at : (b : ℕ) → b < length s.buckets → bucket_word s.shape w b ≡ first (cells_of (bucket s b))
  unfolding cards_at
  bucket_at b h = rep_front r (segments_at s.shape + b) (omega (arith, r.fair.number, size_top s r.fair)) ∙ segment_at s b h ∙ sym (head_cards (bucket s b))

  chain_back : (b : ℕ) → b < length s.buckets → (cells_of (bucket s b) ≡ bucket_cells s.shape w b) × Every (λ c. read_card s.shape w c.at ≡ c) (bucket s b)
  unfolding read_card read_chain bucket_cells
  chain_back b h = read_back (λ c. c.at) (read_card s.shape w) (λ i. refl) (bucket_cells s.shape w b) (bucket s b) (read_chain_lem w s r b h)

  pub chain_at : (b : ℕ) → b < length s.buckets → bucket_cells s.shape w b ≡ cells_of (bucket s b)
  chain_at b h = sym (chain_back b h).0

  -- the card x of bucket b
  module _ (b : ℕ) (xs : List Card) (x : Card) (ys : List Card) (e : bucket s b ≡ xs ++ (x ∷ ys)) where
    card_stands : Stands (cell_in w (cards_at s.shape) (card_width s.shape)) (card_width s.shape) (record { at = (card_cell x).at; words = head_or 0 (map card_cell ys) ∷ (card_cell x).words })
    card_stands =
        stand_at (card_width s.shape) (cell_in w (cards_at s.shape) (card_width s.shape)) (map card_cell xs) (card_cell x) (map card_cell ys)
        (subst (λ (l : List Cell). Stand (cell_in w (cards_at s.shape) (card_width s.shape)) (card_width s.shape) (chained 0 l)) (cards_at_lem w s r b ∙ ap (map card_cell) e ∙ map_append card_cell xs (x ∷ ys)) (r.cards (suc b)))

    pub next_at : card_word s.shape w x.at to_next ≡ first (cells_of ys)
    unfolding card_word card_cell
    next_at = card_stands to_next (in_card s.shape (lit< tt)) ∙ sym (head_cards ys)

    pub first_fault_at : card_word s.shape w x.at to_first ≡ first (fault_cells_of x.faults)
    unfolding card_word card_cell
    first_fault_at = card_stands to_first (in_card s.shape (lit< tt))

    pub last_fault_at : card_word s.shape w x.at to_last ≡ last (fault_cells_of x.faults)
    unfolding card_word card_cell
    last_fault_at = card_stands to_last (in_card s.shape (lit< tt))

    pub fault_count_at : card_word s.shape w x.at to_count ≡ length (fault_cells_of x.faults)
    unfolding card_word card_cell
    fault_count_at = card_stands to_count (in_card s.shape (lit< tt))
