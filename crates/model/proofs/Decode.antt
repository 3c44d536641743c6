-- Words that stand for a store are read back to it (`rep_decode`): the limits and the state are words of the front, each chain is what
-- its next words lead through, within the fuel since no cell stands twice, and each card's and fault's words give it back.
use mathlib.Core.Path.{◌≡◌, refl, sym, ap, ◌∙◌, subst}
use mathlib.Core.List.{List, [], ◌∷◌, ◌++◌, map}
use mathlib.Core.Bool.{true}
use Prim.Native.Nat.{ℕ, suc, ◌+◌, ◌-◌, ◌≤◌, ◌<◌}
use native.Mathlib.Omega.{arith}
use lib.Dec.{lit<}
use lib.ListN.{length, get_or, take, replicate, get_or-replicate, get_or-append, length-map, get_or-map}
use lib.Seq.{get_or-append-add}
use Rattle.rules.proofs.Tests.{both}
use Rattle.model.specs.Lists.{all, from}
use Rattle.model.specs.Serial.{serial_ok}
use Rattle.model.specs.Shape.{Shape, top_of, card_width}
use Rattle.model.specs.Model.{Store, Card, Fault, cards, size, bucket, cells_of, fault_cells_of}
use Rattle.model.specs.Layout.{format_at, limit_at, fault_limit_at, maxp_at, p_at, free_at, free_faults_at, bounds_at, to_next, to_length, to_serial, to_first, to_day, to_code, Cell, head_or, chained, ats_of, fault_width, segments_at, card_cell, fault_cell, free_cell, card_chains, fault_chains, cards_at, faults_at, header, directory, segments, front, first, follow, card_word, fault_word, read_fault, read_card, read_chain, shape_of, decode_as, decode, good_card}
use Rattle.model.proofs.Lists.{Every, every_join, at_every, every_map}
use Rattle.model.proofs.Tables.{table_is}
use Rattle.model.proofs.Chains.{Stands, Stand}
use Rattle.model.proofs.Part.{cell_in, held_follow}
use Rattle.model.proofs.Shapes.{in_card, shape_read}
use Rattle.model.proofs.Fair.{Fair}
use Rattle.model.proofs.Rep.{Rep, rep_front, rep_head, directory_length, size_top}
use Rattle.model.proofs.Serials.{serial_read}

-- heads

pub head_cards : (b : List Card) → first (cells_of b) ≡ head_or 0 (map card_cell b)
unfolding card_cell
head_cards [] = refl
head_cards (c ∷ cs) = refl

pub head_faults : (l : List Fault) → first (fault_cells_of l) ≡ head_or 0 (map fault_cell l)
unfolding fault_cell
head_faults [] = refl
head_faults (f ∷ fs) = refl

pub head_free : (width : ℕ) (l : List ℕ) → first l ≡ head_or 0 (map (free_cell width) l)
unfolding free_cell
head_free width [] = refl
head_free width (x ∷ xs) = refl

ats_free : (width : ℕ) (l : List ℕ) → ats_of (map (free_cell width) l) ≡ l
unfolding free_cell
ats_free width [] = refl
ats_free width (x ∷ xs) = ap (λ (l : List ℕ). x ∷ l) (ats_free width xs)

-- the word of a bucket in use, and of one that is not

pub segments_from : (s : Store) (b : ℕ) → get_or (front s) (segments_at s.shape + b) 0 ≡ get_or (segments s) b 0
unfolding front header
segments_from s b =
    let e : segments_at s.shape + b ≡ length (header s) + (length (directory s) + b) = omega (arith, directory_length s) in
    ap (λ (m : ℕ). get_or (front s) m 0) e
    ∙ get_or-append-add (header s) (directory s ++ segments s) (length (directory s) + b) 0
    ∙ get_or-append-add (directory s) (segments s) b 0

pub segment_at : (s : Store) (b : ℕ) → b < length s.buckets → get_or (front s) (segments_at s.shape + b) 0 ≡ head_or 0 (map card_cell (bucket s b))
unfolding segments
segment_at s b h =
    let f : List Card → ℕ = λ b. first (cells_of b) in
    segments_from s b
    ∙ get_or-append (map f s.buckets) (replicate (top_of s.shape - size s) 0) 0 b (omega (arith, length-map s.buckets f))
    ∙ get_or-map f s.buckets b []
    ∙ head_cards (bucket s b)

pub segment_past : (s : Store) (b : ℕ) → Fair s → size s ≤ b → b < top_of s.shape → get_or (front s) (segments_at s.shape + b) 0 ≡ 0
unfolding segments
segment_past s b r h t =
    let f : List Card → ℕ = λ b. first (cells_of b) in
    let e : b ≡ length (map f s.buckets) + (b - size s) = omega (arith, length-map s.buckets f, r.number) in
    segments_from s b
    ∙ ap (λ (m : ℕ). get_or (segments s) m 0) e
    ∙ get_or-append-add (map f s.buckets) (replicate (top_of s.shape - size s) 0) (b - size s) 0
    ∙ get_or-replicate (top_of s.shape - size s) (b - size s) 0 0 (omega arith)

module _ (w : List ℕ) (s : Store) (r : Rep w s) where
  pub limit_at_lem : get_or w limit_at 0 ≡ s.shape.limit
  unfolding front header
  limit_at_lem = rep_head r limit_at (lit< tt)

  pub fault_limit_at_lem : get_or w fault_limit_at 0 ≡ s.shape.fault_limit
  unfolding front header
  fault_limit_at_lem = rep_head r fault_limit_at (lit< tt)

  -- the shape
  pub shape_at : shape_of w ≡ s.shape
  unfolding front header
  shape_at = shape_read w s.shape r.fair.shape (rep_head r format_at (lit< tt)) limit_at_lem fault_limit_at_lem (rep_head r bounds_at (lit< tt))

  -- faults

  read_faults : (t : ℕ) (l : List Fault) → Stand (cell_in w (faults_at s.shape) fault_width) fault_width (chained t (map fault_cell l)) → map (read_fault s.shape w) (ats_of (map fault_cell l)) ≡ l
  unfolding fault_cell read_fault fault_word
  read_faults t [] q = refl
  read_faults t (f ∷ fs) q =
      let d : fault_word s.shape w f.at to_day ≡ f.day = q.0 to_day (lit< tt) in
      let c : fault_word s.shape w f.at to_code ≡ f.code = q.0 to_code (lit< tt) in
      λ i. record { at = f.at; day = d i; code = c i } ∷ read_faults t fs q.1 i

  -- the history of a card
  Filed : List Cell → Type 0
  Filed ch = Stand (cell_in w (faults_at s.shape) fault_width) fault_width (chained 0 ch) × (follow s.shape.fault_limit (λ k. fault_word s.shape w k to_next) (head_or 0 ch) ≡ ats_of ch)

  filed_at : (j : ℕ) → Filed (get_or (fault_chains s) j [])
  unfolding Filed fault_word
  filed_at j = (r.faults j, (held_follow w (faults_at s.shape) fault_width s.shape.fault_limit (fault_chains s) (lit< tt) r.fair.fault_cells r.faults j))

  filed_all : Every (λ c. Filed (map fault_cell c.faults)) (cards s)
  filed_all =
      let g : Card → List Cell = λ c. map fault_cell c.faults in
      every_map Filed g (cards s) (at_every Filed (map g (cards s)) [] (λ j. filed_at (suc j)))

  -- cards

  read_card_lem : (t : ℕ) (c : Card) → serial_ok c.serial ≡ true → Filed (map fault_cell c.faults)
      → Stands (cell_in w (cards_at s.shape) (card_width s.shape)) (card_width s.shape) (record { at = c.at; words = t ∷ (card_cell c).words }) → read_card s.shape w c.at ≡ c
  unfolding card_cell read_card card_word Filed
  read_card_lem t c v f q =
      let e : take (card_word s.shape w c.at to_length) _ ≡ c.serial = serial_read _ _ _ _ _ c.serial v (q to_length (in_card s.shape (lit< tt))) (q to_serial (in_card s.shape (lit< tt))) (q (to_serial + 1) (in_card s.shape (lit< tt))) (q (to_serial + 2) (in_card s.shape (lit< tt))) (q (to_serial + 3) (in_card s.shape (lit< tt))) in
      let g : map (read_fault s.shape w) (follow s.shape.fault_limit (λ k. fault_word s.shape w k to_next) (card_word s.shape w c.at to_first)) ≡ c.faults =
      ap (λ (h : ℕ). map (read_fault s.shape w) (follow s.shape.fault_limit (λ k. fault_word s.shape w k to_next) h)) (q to_first (in_card s.shape (lit< tt)) ∙ head_faults c.faults)
      ∙ ap (map (read_fault s.shape w)) f.1 ∙ read_faults 0 c.faults f.0 in
      λ i. record { at = c.at; serial = e i; faults = g i }

  read_cards : (m p b t : ℕ) (cs : List Card) → all (good_card m p b) cs ≡ true → Every (λ c. Filed (map fault_cell c.faults)) cs
      → Stand (cell_in w (cards_at s.shape) (card_width s.shape)) (card_width s.shape) (chained t (map card_cell cs)) → map (read_card s.shape w) (ats_of (map card_cell cs)) ≡ cs
  unfolding good_card card_cell
  read_cards m p b t [] g f q = refl
  read_cards m p b t (c ∷ cs) g f q =
      let h = both (good_card m p b c) (all (good_card m p b) cs) g in
      let v = both (serial_ok c.serial) _ h.0 in
      λ i. read_card_lem (head_or t (map card_cell cs)) c v.0 f.0 q.0 i ∷ read_cards m p b t cs h.1 f.1 q.1 i

  -- bucket b is chain b + 1 of the part
  pub cards_at_lem : (b : ℕ) → get_or (map (map card_cell) s.buckets) b [] ≡ map card_cell (bucket s b)
  cards_at_lem b = get_or-map (map card_cell) s.buckets b []

  pub read_chain_lem : (b : ℕ) → b < length s.buckets → read_chain s.shape w b ≡ bucket s b
  unfolding read_chain card_word cards_at
  read_chain_lem b h =
      let head : get_or w (segments_at s.shape + b) 0 ≡ head_or 0 (get_or (card_chains s) (suc b) []) =
      rep_front r (segments_at s.shape + b) (omega (arith, r.fair.number, size_top s r.fair)) ∙ segment_at s b h ∙ ap (head_or 0) (sym (cards_at_lem b)) in
      let cells = held_follow w (cards_at s.shape) (card_width s.shape) s.shape.limit (card_chains s) (in_card s.shape (lit< tt)) r.fair.cells r.cards (suc b) in
      ap (map (read_card s.shape w)) (ap (follow s.shape.limit (λ k. card_word s.shape w k to_next)) head ∙ cells ∙ ap ats_of (cards_at_lem b))
      ∙ read_cards s.maxp s.p b 0 (bucket s b) (r.fair.addressed b)
      (every_join (λ c. Filed (map fault_cell c.faults)) s.buckets filed_all b)
      (subst (λ (l : List Cell). Stand (cell_in w (cards_at s.shape) (card_width s.shape)) (card_width s.shape) (chained 0 l)) (cards_at_lem b) (r.cards (suc b)))

  pub rep_decode_as : decode_as s.shape w ≡ s
  unfolding decode_as card_word fault_word front header Filed cards_at
  rep_decode_as =
      let m = rep_head r maxp_at (lit< tt) in
      let p = rep_head r p_at (lit< tt) in
      let bs = ap (λ (n : ℕ). map (read_chain s.shape w) (from 0 n)) (λ i. m i + p i) ∙ table_is (read_chain s.shape w) (size s) [] s.buckets r.fair.number (λ b h. read_chain_lem b (omega (arith, r.fair.number))) in
      let fc = ap (follow s.shape.limit (λ k. card_word s.shape w k to_next)) (rep_head r free_at (lit< tt) ∙ head_free (card_width s.shape) s.free)
      ∙ held_follow w (cards_at s.shape) (card_width s.shape) s.shape.limit (card_chains s) (in_card s.shape (lit< tt)) r.fair.cells r.cards 0 ∙ ats_free (card_width s.shape) s.free in
      let ff = ap (follow s.shape.fault_limit (λ k. fault_word s.shape w k to_next)) (rep_head r free_faults_at (lit< tt) ∙ head_free fault_width s.free_faults) ∙ (filed_at 0).1 ∙ ats_free fault_width s.free_faults in
      λ i. record { shape = s.shape; maxp = m i; p = p i; buckets = bs i; free = fc i; free_faults = ff i }

  pub rep_decode : decode w ≡ s
  rep_decode = ap (λ (sh : Shape). decode_as sh w) shape_at ∙ rep_decode_as
