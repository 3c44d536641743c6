-- A new card's writes (`rep_placed`): the first free cell leaves the free chain, so that it stands in no chain and may be filled; then
-- the end of the bucket's chain leads to it: its last cell's next word, or the bucket's word where the chain is empty. The counts follow.
use mathlib.Core.Path.{◌≡◌, refl, sym, ap, ◌∙◌, subst}
use mathlib.Core.Logic.{◌⊎◌, inl, inr}
use mathlib.Core.List.{List, [], ◌∷◌, ◌++◌, map}
use mathlib.Core.Bool.{true}
use Prim.Native.Nat.{ℕ, suc, ◌+◌, ◌≤◌, ◌<◌}
use native.Mathlib.Omega.{arith}
use lib.Dec.{lit<}
use lib.ListN.{length, set, drop, length-map, get_or-map}
use lib.Seq.{sets}
use Rattle.model.specs.Lists.{join}
use Rattle.model.specs.Serial.{serial_ok}
use Rattle.model.specs.Model.{Store, Card, cards, held, faults_held, address_in, chain_for, cells_of, new_card, placed}
use Rattle.model.specs.Layout.{held_at, free_at, to_next, Cell, fault_width, segments_at, cards_at, faults_at, card_cell, free_cell, card_chains, fault_chains, header, directory, segments, front, first, last, card_word}
use Rattle.model.specs.Words.{card_at, link_at, new_words, place_words}
use Rattle.model.proofs.Lists.{map_append, map_set, every_set, every_append, every_join}
use Rattle.model.proofs.Sums.{length_total}
use Rattle.model.proofs.Each.{many}
use Rattle.model.proofs.Places.{cell_at_end}
use Rattle.model.proofs.Chains.{Stands}
use Rattle.model.proofs.Part.{cell_in, Held}
use Rattle.model.proofs.Writes.{Apart, cell_here}
use Rattle.model.proofs.Shapes.{in_card, new_fills}
use Rattle.model.proofs.Fair.{one, filings, card_count, faults_total}
use Rattle.model.proofs.Rep.{Rep, directory_length, size_top}
use Rattle.model.proofs.Readings.{held_at_lem, free_at_lem}
use Rattle.model.proofs.Look.{look, address_in_lem}
use Rattle.model.proofs.Steps.{placed_total, placed_fair}
use Rattle.model.proofs.Whole.{Whole, rep_whole, whole_rep, each_apart, front_write, card_fill, card_chain, card_behind, cards_fit, fronted, fronted_bucket, segments_chain, segments_kept, Recorded, held_recorded, recorded_held, taken_in, taken_none, taken_apart, taken_rest, taken_next, ends, link_none, link_last}
use Rattle.model.specs.Shape.{card_width}

module _ (w : List ℕ) (s : Store) (r : Rep w s) (y : List ℕ) (v : serial_ok y ≡ true) (none : look s y ≡ []) (room : held s < s.shape.limit) where
  abbrev a : ℕ
  a = address_in s y

  abbrev new : ℕ
  new = first s.free

  abbrev later : List ℕ
  later = drop 1 s.free

  abbrev buckets : List (List Cell)
  buckets = map (map card_cell) s.buckets

  some : 0 < length s.free
  some = omega (arith, r.fair.cells.count, card_count s)

  next_free : card_word s.shape w new to_next ≡ first later
  unfolding card_word
  next_free = taken_next w (cards_at s.shape) (card_width s.shape) s.shape.limit s.free buckets (in_card s.shape (lit< tt)) some r.fair.cells r.cards

  new_in : (1 ≤ new) × (new ≤ s.shape.limit)
  new_in = taken_in w (cards_at s.shape) (card_width s.shape) s.shape.limit s.free buckets (in_card s.shape (lit< tt)) some r.fair.cells r.cards

  new_none : many new (join (map (free_cell (card_width s.shape)) later ∷ buckets)) ≡ 0
  new_none = taken_none w (cards_at s.shape) (card_width s.shape) s.shape.limit s.free buckets (in_card s.shape (lit< tt)) some r.fair.cells r.cards

  -- the cell is taken and filled
  taken : List ℕ
  taken = set w free_at (first later)

  filled : List ℕ
  filled = sets taken (card_at s.shape new to_next) (new_words y)

  abbrev fronts : ℕ → List ℕ → List ℕ
  fronts n g = fronted s.shape s.maxp s.p n (faults_held s) (first later) (first s.free_faults) (directory s) g

  taken_whole : Whole taken s.shape (fronts (held s) (segments s)) (map (free_cell (card_width s.shape)) later ∷ buckets) (fault_chains s)
  unfolding taken front header cards_at
  taken_whole =
      front_write w s.shape (front s) (map (free_cell (card_width s.shape)) later ∷ buckets) (fault_chains s)
      (card_chain w s.shape (front s) (card_chains s) (fault_chains s) (rep_whole r) 0 (map (free_cell (card_width s.shape)) later) (omega arith)
      (taken_apart w (cards_at s.shape) (card_width s.shape) s.shape.limit s.free buckets (in_card s.shape (lit< tt)) some r.fair.cells r.cards)
      (taken_rest w (cards_at s.shape) (card_width s.shape) s.shape.limit s.free buckets (in_card s.shape (lit< tt)) some r.fair.cells r.cards)) free_at (first later) (omega arith)

  filled_whole : Whole filled s.shape (fronts (held s) (segments s)) (map (free_cell (card_width s.shape)) later ∷ buckets) (fault_chains s)
  unfolding filled
  filled_whole = card_fill taken s.shape _ _ _ taken_whole new (new_words y) new_in.0 new_in.1 (new_fills s.shape y) new_none

  new_stands : Stands (cell_in filled (cards_at s.shape) (card_width s.shape)) (card_width s.shape) (record { at = new; words = 0 ∷ (card_cell (new_card s y)).words })
  unfolding filled new_words card_cell last
  new_stands k l =
      let f = new_fills s.shape y in
      cell_here taken (cards_at s.shape) (card_width s.shape) new k (new_words y)
      (omega (arith, f, cards_fit taken s.shape _ _ _ taken_whole, cell_at_end (cards_at s.shape) (card_width s.shape) s.shape.limit new new_in.0 new_in.1)) (omega (arith, f, l))

  -- the chains and the front afterwards

  below : a < length s.buckets
  below = address_in_lem s r.fair y

  chains_placed : (ch : List Cell) → map card_cell (chain_for s y ++ (new_card s y ∷ [])) ≡ ch → map (free_cell (card_width s.shape)) later ∷ set buckets a ch ≡ card_chains (placed s y)
  unfolding placed
  chains_placed ch e =
      ap (λ (l : List (List Cell)). map (free_cell (card_width s.shape)) later ∷ l) (ap (set buckets a) (sym e) ∙ sym (map_set (map card_cell) s.buckets a (chain_for s y ++ (new_card s y ∷ []))))

  chains_apart : (ch : List Cell) → map card_cell (chain_for s y ++ (new_card s y ∷ [])) ≡ ch → Apart s.shape.limit (join (map (free_cell (card_width s.shape)) later ∷ set buckets a ch))
  unfolding placed
  chains_apart ch e = subst (λ (l : List (List Cell)). Apart s.shape.limit (join l)) (sym (chains_placed ch e)) (each_apart (placed_fair s r.fair y v none room).cells)

  -- the end of the bucket's chain leads to the cell

  abbrev Linked : ℕ → Type 0
  Linked p = Whole (set filled p new) s.shape (fronts (held s) (segments (placed s y))) (card_chains (placed s y)) (fault_chains s)

  linked_first : chain_for s y ≡ [] → Linked (segments_at s.shape + a)
  unfolding placed cards_at directory card_cell segments
  linked_first e =
      let ch : map card_cell (chain_for s y ++ (new_card s y ∷ [])) ≡ card_cell (new_card s y) ∷ [] = ap (λ (l : List Card). map card_cell (l ++ (new_card s y ∷ []))) e in
      let head : first (cells_of (chain_for s y ++ (new_card s y ∷ []))) ≡ new = ap (λ (l : List Card). first (cells_of (l ++ (new_card s y ∷ [])))) e in
      subst (λ (fr : List ℕ). Whole (set filled (segments_at s.shape + a) new) s.shape fr (card_chains (placed s y)) (fault_chains s))
      (fronted_bucket _ _ _ _ _ _ _ (directory s) (segments s) a new (directory_length s)
      ∙ ap (fronts (held s)) (ap (set (segments s) a) (sym head) ∙ segments_chain s a (chain_for s y ++ (new_card s y ∷ [])) below))
      (front_write filled s.shape _ _ _
      (subst (λ (cs : List (List Cell)). Whole filled s.shape (fronts (held s) (segments s)) cs (fault_chains s)) (chains_placed (card_cell (new_card s y) ∷ []) ch)
      (card_chain filled s.shape _ _ _ filled_whole (suc a) (card_cell (new_card s y) ∷ []) (omega (arith, below, length-map s.buckets (map card_cell))) (chains_apart (card_cell (new_card s y) ∷ []) ch) (new_stands, tt)))
      (segments_at s.shape + a) new (omega (arith, below, r.fair.number, size_top s r.fair)))

  linked_behind : (xs : List Card) (x : Card) → chain_for s y ≡ xs ++ (x ∷ []) → (1 ≤ x.at) × Linked (card_at s.shape x.at to_next)
  unfolding placed card_cell segments
  linked_behind xs x e =
      let cs = map (free_cell (card_width s.shape)) later ∷ buckets in
      let old : map card_cell (chain_for s y) ≡ map card_cell xs ++ (card_cell x ∷ []) = ap (map card_cell) e ∙ map_append card_cell xs (x ∷ []) in
      let ch : map card_cell (chain_for s y ++ (new_card s y ∷ [])) ≡ map card_cell xs ++ (card_cell x ∷ []) ++ (card_cell (new_card s y) ∷ []) =
      map_append card_cell (chain_for s y) (new_card s y ∷ []) ∙ ap (λ (l : List Cell). l ++ (card_cell (new_card s y) ∷ [])) old in
      let q = card_behind filled s.shape _ cs _ filled_whole (suc a) (map card_cell xs) (card_cell x) (card_cell (new_card s y)) new_in.0
      (omega (arith, below, length-map s.buckets (map card_cell))) (get_or-map (map card_cell) s.buckets a [] ∙ old) new_none new_stands (chains_apart _ ch) in (
        q.0,
        subst (λ (fr : List ℕ). Whole (set filled (card_at s.shape x.at to_next) new) s.shape fr (card_chains (placed s y)) (fault_chains s))
            (ap (fronts (held s)) (segments_kept s a (chain_for s y ++ (new_card s y ∷ [])) (ap (λ (l : List Card). first (cells_of (l ++ (new_card s y ∷ [])))) e ∙ keeps xs ∙ ap (λ (l : List Card). first (cells_of l)) (sym e))))
            (subst (λ (cs : List (List Cell)). Whole (set filled (card_at s.shape x.at to_next) new) s.shape (fronts (held s) (segments s)) cs (fault_chains s)) (chains_placed _ ch) q.1),
      )
    where
      keeps : (l : List Card) → first (cells_of (l ++ (x ∷ []) ++ (new_card s y ∷ []))) ≡ first (cells_of (l ++ (x ∷ [])))
      keeps [] = refl
      keeps (c ∷ cs) = refl

  linked : Linked (link_at s.shape a (last (cells_of (chain_for s y))))
  linked = go (ends (chain_for s y))
    where
      go : (chain_for s y ≡ []) ⊎ ((xs : List Card) × (x : Card) × (chain_for s y ≡ xs ++ (x ∷ []))) → Linked (link_at s.shape a (last (cells_of (chain_for s y))))
      go (inl e) = subst Linked (sym (link_none (λ (c : Card). c.at) (chain_for s y) s.shape a e)) (linked_first e)
      go (inr (xs, x, e)) = let q = linked_behind xs x e in subst Linked (sym (link_last (λ (c : Card). c.at) (chain_for s y) s.shape a xs x e q.0)) q.1

  -- the counts, and the histories with the new card's, which is empty

  held_placed : held s + 1 ≡ held (placed s y)
  held_placed = omega (arith, length_total (cards (placed s y)), length_total (cards s), placed_total s r.fair y one)

  faults_placed : faults_held s ≡ faults_held (placed s y)
  faults_placed = omega (arith, faults_total (cards (placed s y)), faults_total (cards s), placed_total s r.fair y filings)

  recorded_placed : (u : List ℕ) → Held u (faults_at s.shape) fault_width (fault_chains s) → Held u (faults_at s.shape) fault_width (fault_chains (placed s y))
  unfolding placed
  recorded_placed u h =
      let old = held_recorded u s.shape (map (free_cell fault_width) s.free_faults) (cards s) h in
      recorded_held u s.shape (map (free_cell fault_width) s.free_faults) (cards (placed s y)) (h 0)
      (every_set (Recorded u s.shape) s.buckets a (chain_for s y ++ (new_card s y ∷ [])) old
      (every_append (Recorded u s.shape) (chain_for s y) (new_card s y ∷ []) (every_join (Recorded u s.shape) s.buckets old a) (tt, tt)))

  written : place_words s.shape w a (last (cells_of (chain_for s y))) y ≡ set (set filled (link_at s.shape a (last (cells_of (chain_for s y)))) new) held_at (held s + 1)
  unfolding place_words taken filled
  written =
      let i = free_at_lem w s r in
      let next = ap (λ (i : ℕ). card_word s.shape w i to_next) i ∙ next_free in
      let n = held_at_lem w s r in
      λ t. set (set (sets (set w free_at (next t)) (card_at s.shape (i t) to_next) (new_words y)) (link_at s.shape a (last (cells_of (chain_for s y)))) (i t)) held_at (n t + 1)

  pub rep_placed : Rep (place_words s.shape w a (last (cells_of (chain_for s y))) y) (placed s y)
  unfolding placed front header directory cards_at
  rep_placed =
      let u = set filled (link_at s.shape a (last (cells_of (chain_for s y)))) new in
      subst (λ (u : List ℕ). Rep u (placed s y)) (sym written)
      (whole_rep (placed_fair s r.fair y v none room)
      (λ t. fronted s.shape s.maxp s.p (held_placed t) (faults_placed t) (first later) (first s.free_faults) (directory s) (segments (placed s y)))
      refl (recorded_placed (set u held_at (held s + 1)))
      (front_write u s.shape _ _ _ linked held_at (held s + 1) (omega arith)))
