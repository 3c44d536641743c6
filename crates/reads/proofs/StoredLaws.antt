-- What a reader of words that stand for a store (`Rep w s`) finds there: every bucket's chain to its end (`bucket_ends`, `bucket_cells_lem`),
-- and each card of a chain with its cell's words and its history (`Stored`, by `stored`).
use mathlib.Core.Path.{◌≡◌, refl, sym, ap, subst, ◌∙◌}
use mathlib.Core.Bool.{true}
use mathlib.Core.List.{List, [], ◌∷◌, ◌++◌, map}
use Prim.Native.Nat.{ℕ, suc, ◌+◌, ◌≤◌, ◌<◌}
use native.Mathlib.Omega.{arith}
use lib.Dec.{eqb, lit<}
use lib.ListN.{length, get_or, length-map}
use Rattle.rules.proofs.Tests.{all_of}
use Rattle.model.specs.Lists.{between, all, join, total}
use Rattle.model.specs.Model.{Fault, Card, Store, cards, bucket, cells_of, fault_cells_of}
use Rattle.model.specs.Layout.{to_first, to_last, to_count, Cell, ats_of, head_or, chained, fault_width, segments_at, cards_at, faults_at, first, last, follow, card_cell, fault_cell, card_chains, fault_chains, front, card_word, fault_word, read_card, read_chain, decode_as, decode}
use Rattle.model.specs.Meaning.{Leads, next_card, next_fault}
use Rattle.model.proofs.Lists.{between_is, map_append, Every, every_parts, every_join}
use Rattle.model.proofs.Sums.{bit, bit_same, total_append, total_one}
use Rattle.model.proofs.Each.{many, Each}
use Rattle.model.proofs.Chains.{Memory, Stand, stand_parts, chained_append}
use Rattle.model.proofs.Part.{cell_in, Held, held_follow}
use Rattle.model.proofs.Fair.{in_cell, card_cells}
use Rattle.model.proofs.Rep.{Rep, rep_front, size_top}
use Rattle.model.proofs.Decode.{head_faults, segment_at, cards_at_lem, read_chain_lem}
use Rattle.model.proofs.Shapes.{in_card}
use Rattle.model.proofs.Split.{ats_cards}
use Rattle.reads.specs.declared.header.Header.{Header}
use Rattle.reads.specs.Cells.{shape_in, Read}
use Rattle.reads.specs.Chains.{Ends, faults_from}
use Rattle.model.specs.Shape.{card_width}

-- chains of any cells

ats_inside : (n : ℕ) (cs : List Cell) → ((i : ℕ) → 0 < many i cs → (1 ≤ i) × (i ≤ n)) → all (between 1 n) (ats_of cs) ≡ true
ats_inside n [] h = refl
ats_inside n (c ∷ cs) h =
    all_of ((between_is 1 n c.at).1 (h c.at (omega (arith, bit_same c.at c.at refl)))) (ats_inside n cs (λ i p. h i (omega arith)))

stand_leads : (word : Memory) (width : ℕ) → 0 < width → (cs : List Cell) → Stand word width (chained 0 cs) → Leads (λ i. word i 0) (head_or 0 cs) (ats_of cs)
stand_leads word width z [] q = refl
stand_leads word width z (c ∷ cs) q = (refl, subst (λ (h : ℕ). Leads (λ i. word i 0) h (ats_of cs)) (sym (q.0 0 z)) (stand_leads word width z cs q.1))

-- each chain of a part ends
held_ends : (w : List ℕ) (base width n : ℕ) (chains : List (List Cell)) → 0 < width → Each n (join chains) → Held w base width chains
    → (j : ℕ) → Ends n (λ i. cell_in w base width i 0) (head_or 0 (get_or chains j []))
held_ends w base width n chains z e r j =
    let f = held_follow w base width n chains z e r j in
    record {
      leads = rw f (stand_leads (cell_in w base width) width z (get_or chains j []) (r j));
      inside = rw f (ats_inside n (get_or chains j []) (λ i h. e.inside i (omega (arith, total_one (λ c. bit (eqb i c.at)) chains j))));
    }

-- a card of a chain, with the cards behind it, as its cell stands in the words
pub record Stored (w : List ℕ) (s : Store) (c : Card) (after : List Card) : Type 0 where
  pub from_one : 1 ≤ c.at
  pub in_limit : c.at ≤ s.shape.limit
  pub last_word : card_word s.shape w c.at to_last ≡ last (fault_cells_of c.faults)
  pub count_word : card_word s.shape w c.at to_count ≡ length c.faults
  pub history : faults_from s.shape w (card_word s.shape w c.at to_first) ≡ c.faults
  pub history_ends : Ends s.shape.fault_limit (next_fault s.shape w) (card_word s.shape w c.at to_first)

module _ {w : List ℕ} {s : Store} (r : Rep w s) where
  -- buckets

  module _ (b : ℕ) (h : b < length s.buckets) where
    bucket_head : get_or w (segments_at s.shape + b) 0 ≡ head_or 0 (get_or (card_chains s) (suc b) [])
    unfolding cards_at
    bucket_head =
        rep_front r (segments_at s.shape + b) (omega (arith, r.fair.number, size_top s r.fair)) ∙ segment_at s b h ∙ ap (head_or 0) (sym (cards_at_lem w s r b))

    pub bucket_ends : Ends s.shape.limit (next_card s.shape w) (get_or w (segments_at s.shape + b) 0)
    unfolding card_word
    bucket_ends = rw bucket_head (held_ends w (cards_at s.shape) (card_width s.shape) s.shape.limit (card_chains s) (in_card s.shape (lit< tt)) r.fair.cells r.cards (suc b))

    pub bucket_cells_lem : follow s.shape.limit (next_card s.shape w) (get_or w (segments_at s.shape + b) 0) ≡ cells_of (bucket s b)
    unfolding card_word
    bucket_cells_lem =
        rw bucket_head
        (held_follow w (cards_at s.shape) (card_width s.shape) s.shape.limit (card_chains s) (in_card s.shape (lit< tt)) r.fair.cells r.cards (suc b) ∙ ap ats_of (cards_at_lem w s r b) ∙ ats_cards (bucket s b))

  -- the cells of a bucket stand as a chain
  pub bucket_stand : (b : ℕ) → Stand (cell_in w (cards_at s.shape) (card_width s.shape)) (card_width s.shape) (chained 0 (map card_cell (bucket s b)))
  bucket_stand b = subst (λ (l : List Cell). Stand (cell_in w (cards_at s.shape) (card_width s.shape)) (card_width s.shape) (chained 0 l)) (cards_at_lem w s r b) (r.cards (suc b))

  -- histories

  filed_ends : Every (λ c. Ends s.shape.fault_limit (next_fault s.shape w) (first (fault_cells_of c.faults))) (cards s)
  unfolding fault_word
  filed_ends =
      go (cards s)
      (λ j. held_ends w (faults_at s.shape) fault_width s.shape.fault_limit (fault_chains s) (lit< tt) r.fair.fault_cells r.faults (suc j))
    where
      go : (cs : List Card) → ((j : ℕ) → Ends s.shape.fault_limit (next_fault s.shape w) (head_or 0 (get_or (map (λ c. map fault_cell c.faults) cs) j [])))
          → Every (λ c. Ends s.shape.fault_limit (next_fault s.shape w) (first (fault_cells_of c.faults))) cs
      go [] f = tt
      go (c ∷ cs) f = (rw (head_faults c.faults) (f 0), go cs (λ j. f (suc j)))

  filed_read : (b : ℕ) → b < length s.buckets → Every (λ c. faults_from s.shape w (card_word s.shape w c.at to_first) ≡ c.faults) (bucket s b)
  unfolding read_chain read_card faults_from
  filed_read b h =
      subst (Every (λ (c : Card). faults_from s.shape w (card_word s.shape w c.at to_first) ≡ c.faults)) (read_chain_lem w s r b h)
      (go (follow s.shape.limit (next_card s.shape w) (get_or w (segments_at s.shape + b) 0)))
    where
      go : (l : List ℕ) → Every (λ (c : Card). faults_from s.shape w (card_word s.shape w c.at to_first) ≡ c.faults) (map (read_card s.shape w) l)
      go [] = tt
      go (i ∷ l) = (refl, go l)

  -- a card with the cards before it and behind it
  pub stored : (b : ℕ) → b < length s.buckets → (front : List Card) (c : Card) (after : List Card) → bucket s b ≡ front ++ (c ∷ after) → Stored w s c after
  unfolding card_cell card_word
  stored b h front c after e =
      let q = (stand_parts (card_width s.shape) (cell_in w (cards_at s.shape) (card_width s.shape)) (chained c.at (map card_cell front)) (chained 0 (map card_cell (c ∷ after)))
      (subst (Stand (cell_in w (cards_at s.shape) (card_width s.shape)) (card_width s.shape)) (ap (λ (l : List Card). chained 0 (map card_cell l)) e ∙ ap (chained 0) (map_append card_cell front (c ∷ after)) ∙ chained_append 0 (map card_cell front) (map card_cell (c ∷ after))) (bucket_stand b))).1.0 in
      let f = one (λ c. Ends s.shape.fault_limit (next_fault s.shape w) (first (fault_cells_of c.faults))) (every_join _ s.buckets filed_ends b) in
      let g = one (λ c. faults_from s.shape w (card_word s.shape w c.at to_first) ≡ c.faults) (filed_read b h) in
      let i = inside in
      record {
        from_one = i.0;
        in_limit = i.1;
        last_word = q to_last (in_card s.shape (lit< tt));
        count_word = q to_count (in_card s.shape (lit< tt)) ∙ length-map c.faults (λ (f : Fault). f.at);
        history = g;
        history_ends = rw (q to_first (in_card s.shape (lit< tt))) f;
      }
    where
      one : (P : Card → Type 0) → Every P (bucket s b) → P c
      one P p = (every_parts P front (c ∷ after) (subst (Every P) e p)).1.0

      inside : (1 ≤ c.at) × (c.at ≤ s.shape.limit)
      inside =
          r.fair.cells.inside c.at
          (omega (arith, card_cells s c.at, total_one (in_cell c.at) s.buckets b, ap (total (in_cell c.at)) e, total_append (in_cell c.at) front (c ∷ after), bit_same c.at c.at refl))

-- the shape and the state of the store read from words are those of its header
pub read_store : {w : List ℕ} {h : Header} → Read w h → ((decode w).shape ≡ shape_in h) × ((decode w).maxp ≡ h.maxp) × ((decode w).p ≡ h.p)
unfolding decode_as
read_store h = (h.shape, h.maxp, h.state)
