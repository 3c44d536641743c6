-- A fault's writes (`rep_filed`): the first free fault cell leaves the free chain and is filled; then the end of the card's history leads
-- to it: its last fault's next word, or the card's first-fault word where there is none. The card's other two fault words follow, and the
-- counts; the card itself stays in its place.
use mathlib.Core.Path.{◌≡◌, refl, sym, ap, ◌∙◌, subst}
use mathlib.Core.Logic.{◌⊎◌, inl, inr}
use mathlib.Core.List.{List, [], ◌∷◌, ◌++◌, map}
use mathlib.Core.Bool.{true, cond}
use Prim.Native.Nat.{ℕ, suc, ◌+◌, ◌-◌, ◌≤◌, ◌<◌}
use native.Mathlib.Omega.{arith}
use lib.Dec.{eqb, lit<}
use lib.ListN.{length, set, take, drop, length-set, length-map, length-append}
use lib.Seq.{sets, append_snoc, set-get_or, set-set, get_or-set_same}
use borrow.Author.Tests.{ne_eqb}
use Rattle.model.specs.Lists.{join}
use Rattle.model.specs.Serial.{valid_fault}
use Rattle.model.specs.Model.{Store, Card, Fault, cards, held, faults_held, address_in, chain_for, before, cells_of, fault_cells_of, new_fault, with_fault, filed}
use Rattle.model.specs.Layout.{faults_held_at, free_faults_at, to_next, to_first, to_last, to_count, Cell, fault_width, cards_at, faults_at, card_cell, fault_cell, free_cell, card_chains, fault_chains, header, directory, segments, front, first, last, packed, fault_word}
use Rattle.model.specs.Words.{card_at, fault_at, file_words}
use Rattle.model.proofs.Lists.{map_append, map_set}
use Rattle.model.proofs.Sums.{length_total}
use Rattle.model.proofs.Each.{many}
use Rattle.model.proofs.Places.{cell_at_end}
use Rattle.model.proofs.Chains.{Stands}
use Rattle.model.proofs.Part.{cell_in}
use Rattle.model.proofs.Writes.{Apart, cell_here}
use Rattle.model.proofs.Shapes.{in_card}
use Rattle.model.proofs.Fair.{one, filings, Fair, fault_count, faults_total}
use Rattle.model.proofs.Rep.{Rep}
use Rattle.model.proofs.Decode.{cards_at_lem}
use Rattle.model.proofs.Readings.{faults_held_at_lem, free_faults_at_lem, last_fault_at, fault_count_at}
use Rattle.model.proofs.Look.{address_in_lem}
use Rattle.model.proofs.Steps.{filed_total, filed_fair}
use Rattle.model.proofs.Cut.{Present}
use Rattle.model.proofs.Whole.{Whole, rep_whole, whole_rep, each_apart, front_write, fault_fill, fault_chain, fault_behind, card_word_lem, faults_fit, fronted, segments_kept, history_of, cards_joined, history_get, history_set, history_below, taken_in, taken_none, taken_apart, taken_rest, taken_next, ends, last_none, last_at}
use Rattle.model.specs.Shape.{card_width}

module _ (w : List ℕ) (s : Store) (r : Rep w s) (y : List ℕ) (day code : ℕ) (valid : valid_fault day code ≡ true) (p : Present y (chain_for s y)) (room : faults_held s < s.shape.fault_limit) where
  abbrev a : ℕ
  a = address_in s y

  abbrev new : ℕ
  new = first s.free_faults

  abbrev later : List ℕ
  later = drop 1 s.free_faults

  abbrev fault : Fault
  fault = new_fault s day code

  abbrev card : Card
  card = p.card

  abbrev prior : List Card
  prior = before y (chain_for s y)

  abbrev left : List Card
  left = join (take a s.buckets) ++ prior

  abbrev right : List Card
  right = p.after ++ join (drop (suc a) s.buckets)

  some : 0 < length s.free_faults
  some = omega (arith, r.fair.fault_cells.count, fault_count s)

  fair : Fair (filed s y day code)
  fair = filed_fair s r.fair y day code valid (ap length p.only) room

  below : a < length s.buckets
  below = address_in_lem s r.fair y

  -- the cards, parted at the card
  cards_is : cards s ≡ left ++ (card ∷ right)
  cards_is = ap join (sym (set-get_or s.buckets a [])) ∙ ap (λ (ch : List Card). join (set s.buckets a ch)) p.parts ∙ cards_joined s a prior (card ∷ p.after) below

  cards_filed : cards (filed s y day code) ≡ left ++ (with_fault fault card ∷ right)
  unfolding filed
  cards_filed = ap (λ (ch : List Card). join (set s.buckets a ch)) (p.noted_it fault) ∙ cards_joined s a prior (with_fault fault card ∷ p.after) below

  -- the chains of faults with the new cell taken, and those afterwards
  abbrev records : List (List Cell)
  records = map history_of (cards s)

  faults_filed : (ch : List Cell) → history_of (with_fault fault card) ≡ ch → map (free_cell fault_width) later ∷ set records (length left) ch ≡ fault_chains (filed s y day code)
  unfolding filed
  faults_filed ch e =
      ap (λ (l : List (List Cell)). map (free_cell fault_width) later ∷ l)
      (ap (set records (length left)) (sym e) ∙ history_set (cards s) left card right cards_is (history_of (with_fault fault card))
      ∙ sym (map_append history_of left (with_fault fault card ∷ right)) ∙ ap (map history_of) (sym cards_filed))

  faults_apart : (ch : List Cell) → history_of (with_fault fault card) ≡ ch → Apart s.shape.fault_limit (join (map (free_cell fault_width) later ∷ set records (length left) ch))
  unfolding filed
  faults_apart ch e = subst (λ (l : List (List Cell)). Apart s.shape.fault_limit (join l)) (sym (faults_filed ch e)) (each_apart fair.fault_cells)

  new_in : (1 ≤ new) × (new ≤ s.shape.fault_limit)
  new_in = taken_in w (faults_at s.shape) fault_width s.shape.fault_limit s.free_faults records (lit< tt) some r.fair.fault_cells r.faults

  new_none : many new (join (map (free_cell fault_width) later ∷ records)) ≡ 0
  new_none = taken_none w (faults_at s.shape) fault_width s.shape.fault_limit s.free_faults records (lit< tt) some r.fair.fault_cells r.faults

  -- the cell is taken and filled
  taken : List ℕ
  taken = set w free_faults_at (first later)

  filled : List ℕ
  filled = sets taken (fault_at s.shape new to_next) (0 ∷ day ∷ code ∷ [])

  abbrev fronts : ℕ → List ℕ
  fronts k = fronted s.shape s.maxp s.p (held s) k (first s.free) (first later) (directory s) (segments s)

  taken_whole : Whole taken s.shape (fronts (faults_held s)) (card_chains s) (map (free_cell fault_width) later ∷ records)
  unfolding taken front header cards_at
  taken_whole =
      front_write w s.shape (front s) (card_chains s) (map (free_cell fault_width) later ∷ records)
      (fault_chain w s.shape (front s) (card_chains s) (fault_chains s) (rep_whole r) 0 (map (free_cell fault_width) later) (omega arith)
      (taken_apart w (faults_at s.shape) fault_width s.shape.fault_limit s.free_faults records (lit< tt) some r.fair.fault_cells r.faults)
      (taken_rest w (faults_at s.shape) fault_width s.shape.fault_limit s.free_faults records (lit< tt) some r.fair.fault_cells r.faults)) free_faults_at (first later) (omega arith)

  filled_whole : Whole filled s.shape (fronts (faults_held s)) (card_chains s) (map (free_cell fault_width) later ∷ records)
  unfolding filled
  filled_whole = fault_fill taken s.shape _ _ _ taken_whole new (0 ∷ day ∷ code ∷ []) new_in.0 new_in.1 refl new_none

  new_stands : Stands (cell_in filled (faults_at s.shape) fault_width) fault_width (record { at = new; words = 0 ∷ (fault_cell fault).words })
  unfolding filled fault_cell
  new_stands k l =
      cell_here taken (faults_at s.shape) fault_width new k (0 ∷ day ∷ code ∷ [])
      (omega (arith, faults_fit taken s.shape _ _ _ taken_whole, cell_at_end (faults_at s.shape) fault_width s.shape.fault_limit new new_in.0 new_in.1)) l

  -- the card's chain with another cell in the card's place

  abbrev chains : Cell → List (List Cell)
  chains k = set (card_chains s) (suc a) (map card_cell prior ++ (k ∷ []) ++ map card_cell p.after)

  chains_is : chains (card_cell card) ≡ card_chains s
  chains_is =
      ap (set (card_chains s) (suc a)) (append_snoc (map card_cell prior) (card_cell card) (map card_cell p.after) ∙ sym (map_append card_cell prior (card ∷ p.after)) ∙ ap (map card_cell) (sym p.parts) ∙ sym (cards_at_lem w s r a))
      ∙ set-get_or (card_chains s) (suc a) []

  chains_filed : chains (card_cell (with_fault fault card)) ≡ card_chains (filed s y day code)
  unfolding filed
  chains_filed =
      ap (λ (l : List (List Cell)). map (free_cell (card_width s.shape)) s.free ∷ l)
      (ap (set (map (map card_cell) s.buckets) a)
      (append_snoc (map card_cell prior) (card_cell (with_fault fault card)) (map card_cell p.after) ∙ sym (map_append card_cell prior (with_fault fault card ∷ p.after)) ∙ ap (map card_cell) (sym (p.noted_it fault)))
      ∙ sym (map_set (map card_cell) s.buckets a _))

  below_chains : suc a < length (card_chains s)
  below_chains = omega (arith, below, length-map s.buckets (map card_cell))

  reword : (u fr : List ℕ) (fs : List (List Cell)) (k : Cell) (j v : ℕ) → suc j < (card_width s.shape) → j < length k.words
      → Whole u s.shape fr (chains k) fs
      → Whole (set u (card_at s.shape k.at (suc j)) v) s.shape fr (chains (record { at = k.at; words = set k.words j v })) fs
  reword u fr fs k j v l b r =
      subst (λ (cs : List (List Cell)). Whole (set u (card_at s.shape k.at (suc j)) v) s.shape fr cs fs) (set-set (card_chains s) (suc a) _ _)
      (card_word_lem u s.shape fr (chains k) fs r (suc a) (map card_cell prior) k (map card_cell p.after) (omega (arith, below_chains, length-set (card_chains s) (suc a) (map card_cell prior ++ (k ∷ []) ++ map card_cell p.after)))
      (get_or-set_same (card_chains s) (suc a) _ [] below_chains) j v l b)

  -- the end of the history leads to the cell

  abbrev fs : List ℕ
  fs = fault_cells_of card.faults

  -- the card's cell with its three fault words
  abbrev cell_with : ℕ → ℕ → ℕ → Cell
  cell_with i j n =
      let x = card.serial in
      record { at = card.at; words = length x ∷ packed x 0 ∷ packed x 4 ∷ packed x 8 ∷ packed x 12 ∷ i ∷ j ∷ n ∷ [] }

  fs_filed : fault_cells_of (with_fault fault card).faults ≡ fs ++ (new ∷ [])
  fs_filed = map_append (λ (f : Fault). f.at) card.faults (fault ∷ [])

  abbrev Linked : ℕ → Type 0
  Linked q = Whole (set filled q new) s.shape (fronts (faults_held s)) (chains (cell_with (first (fs ++ (new ∷ []))) (last fs) (length fs))) (fault_chains (filed s y day code))

  linked_first : card.faults ≡ [] → Linked (card_at s.shape card.at to_first)
  unfolding card_cell fault_cell
  linked_first e =
      let ch : history_of (with_fault fault card) ≡ fault_cell fault ∷ [] = ap (λ (l : List Fault). map fault_cell (l ++ (fault ∷ []))) e in
      let head : new ≡ first (fs ++ (new ∷ [])) = ap (λ (l : List Fault). first (fault_cells_of l ++ (new ∷ []))) (sym e) in
      subst (λ (i : ℕ). Whole (set filled (card_at s.shape card.at to_first) new) s.shape (fronts (faults_held s)) (chains (cell_with i (last fs) (length fs))) (fault_chains (filed s y day code))) head
      (reword filled (fronts (faults_held s)) (fault_chains (filed s y day code)) (card_cell card) (to_first - 1) new (in_card s.shape (lit< tt)) (lit< tt)
      (subst (λ (cs : List (List Cell)). Whole filled s.shape (fronts (faults_held s)) cs (fault_chains (filed s y day code))) (sym chains_is)
      (subst (λ (l : List (List Cell)). Whole filled s.shape (fronts (faults_held s)) (card_chains s) l) (faults_filed (fault_cell fault ∷ []) ch)
      (fault_chain filled s.shape _ _ _ filled_whole (suc (length left)) (fault_cell fault ∷ []) (omega (arith, history_below (cards s) left card right cards_is)) (faults_apart (fault_cell fault ∷ []) ch) (new_stands, tt)))))

  linked_behind : (xs : List Fault) (z : Fault) → card.faults ≡ xs ++ (z ∷ []) → (1 ≤ z.at) × Linked (fault_at s.shape z.at to_next)
  unfolding card_cell fault_cell
  linked_behind xs z e =
      let gs = map (free_cell fault_width) later ∷ records in
      let old : history_of card ≡ map fault_cell xs ++ (fault_cell z ∷ []) = ap (map fault_cell) e ∙ map_append fault_cell xs (z ∷ []) in
      let ch : history_of (with_fault fault card) ≡ map fault_cell xs ++ (fault_cell z ∷ []) ++ (fault_cell fault ∷ []) =
      map_append fault_cell card.faults (fault ∷ []) ∙ ap (λ (l : List Cell). l ++ (fault_cell fault ∷ [])) old in
      let head : first fs ≡ first (fs ++ (new ∷ [])) = ap (λ (l : List Fault). first (fault_cells_of l)) e ∙ keeps xs ∙ ap (λ (l : List Fault). first (fault_cells_of l ++ (new ∷ []))) (sym e) in
      let q = fault_behind filled s.shape _ _ gs filled_whole (suc (length left)) (map fault_cell xs) (fault_cell z) (fault_cell fault) new_in.0
      (omega (arith, history_below (cards s) left card right cards_is)) (history_get (cards s) left card right cards_is ∙ old) new_none new_stands (faults_apart _ ch) in (
        q.0,
        subst (λ (cs : List (List Cell)). Whole (set filled (fault_at s.shape z.at to_next) new) s.shape (fronts (faults_held s)) cs (fault_chains (filed s y day code)))
            (sym chains_is ∙ ap (λ (i : ℕ). chains (cell_with i (last fs) (length fs))) head)
            (subst (λ (l : List (List Cell)). Whole (set filled (fault_at s.shape z.at to_next) new) s.shape (fronts (faults_held s)) (card_chains s) l) (faults_filed _ ch) q.1),
      )
    where
      keeps : (l : List Fault) → first (fault_cells_of (l ++ (z ∷ []))) ≡ first (fault_cells_of (l ++ (z ∷ [])) ++ (new ∷ []))
      keeps [] = refl
      keeps (c ∷ cs) = refl

  link_for : ℕ → ℕ
  link_for end = cond (eqb end 0) (card_at s.shape card.at to_first) (fault_at s.shape end to_next)

  linked : Linked (link_for (last fs))
  unfolding link_for
  linked = go (ends card.faults)
    where
      go : (card.faults ≡ []) ⊎ ((xs : List Fault) × (z : Fault) × (card.faults ≡ xs ++ (z ∷ []))) → Linked (link_for (last fs))
      go (inl e) = subst Linked (sym (ap link_for (last_none (λ (f : Fault). f.at) card.faults e))) (linked_first e)
      go (inr (xs, z, e)) =
          let q = linked_behind xs z e in
          subst Linked (sym (ap link_for (last_at (λ (f : Fault). f.at) card.faults xs z e) ∙ rw (ne_eqb z.at 0 (omega (arith, q.0))))) q.1

  -- the card's other fault words and the counts

  card_filed : cell_with (first (fs ++ (new ∷ []))) new (length fs + 1) ≡ card_cell (with_fault fault card)
  unfolding card_cell
  card_filed =
      let e = sym fs_filed in
      let i = ap first e in
      let j = sym (last_at (λ (f : Fault). f.at) (with_fault fault card).faults card.faults fault refl) in
      let n = sym (length-append fs (new ∷ [])) ∙ ap length e in
      λ t. cell_with (i t) (j t) (n t)

  ended : List ℕ
  ended = set (set filled (link_for (last fs)) new) (card_at s.shape card.at to_last) new

  counted : List ℕ
  counted = set ended (card_at s.shape card.at to_count) (length fs + 1)

  counted_whole : Whole counted s.shape (fronts (faults_held s)) (card_chains (filed s y day code)) (fault_chains (filed s y day code))
  unfolding ended counted
  counted_whole =
      subst (λ (cs : List (List Cell)). Whole counted s.shape (fronts (faults_held s)) cs (fault_chains (filed s y day code))) (ap chains card_filed ∙ chains_filed)
      (reword ended (fronts (faults_held s)) _ (cell_with (first (fs ++ (new ∷ []))) new (length fs)) (to_count - 1) (length fs + 1) (in_card s.shape (lit< tt)) (lit< tt)
      (reword (set filled (link_for (last fs)) new) (fronts (faults_held s)) _ (cell_with (first (fs ++ (new ∷ []))) (last fs) (length fs)) (to_last - 1) new (in_card s.shape (lit< tt)) (lit< tt) linked))

  held_filed : held s ≡ held (filed s y day code)
  held_filed = omega (arith, length_total (cards (filed s y day code)), length_total (cards s), filed_total s r.fair y day code one 0 (λ c. omega arith) (ap length p.only))

  faults_held_filed : faults_held s + 1 ≡ faults_held (filed s y day code)
  faults_held_filed =
      omega (
        arith,
        faults_total (cards (filed s y day code)),
        faults_total (cards s),
        filed_total s r.fair y day code filings 1 (λ c. length-append c.faults (fault ∷ [])) (ap length p.only),
      )

  segments_filed : segments s ≡ segments (filed s y day code)
  unfolding filed segments
  segments_filed = segments_kept s a _ (ap (λ (l : List Card). first (cells_of l)) (p.noted_it fault) ∙ heads prior ∙ ap (λ (l : List Card). first (cells_of l)) (sym p.parts))
    where
      heads : (l : List Card) → first (cells_of (l ++ (with_fault fault card ∷ p.after))) ≡ first (cells_of (l ++ (card ∷ p.after)))
      heads [] = refl
      heads (c ∷ cs) = refl

  next_free : fault_word s.shape w new to_next ≡ first later
  unfolding fault_word
  next_free = taken_next w (faults_at s.shape) fault_width s.shape.fault_limit s.free_faults records (lit< tt) some r.fair.fault_cells r.faults

  written : file_words s.shape w card.at day code ≡ set counted faults_held_at (faults_held s + 1)
  unfolding file_words taken filled link_for ended counted
  written =
      let f = free_faults_at_lem w s r in
      let e = last_fault_at w s r a prior card p.after p.parts in
      let n = fault_count_at w s r a prior card p.after p.parts in
      let k = faults_held_at_lem w s r in
      let next = ap (λ (i : ℕ). fault_word s.shape w i to_next) f ∙ next_free in
      λ t. set (set (set (set (sets (set w free_faults_at (next t)) (fault_at s.shape (f t) to_next) (0 ∷ day ∷ code ∷ [])) (cond (eqb (e t) 0) (card_at s.shape card.at to_first) (fault_at s.shape (e t) to_next)) (f t)) (card_at s.shape card.at to_last) (f t)) (card_at s.shape card.at to_count) (n t + 1)) faults_held_at (k t + 1)

  pub rep_filed : Rep (file_words s.shape w card.at day code) (filed s y day code)
  unfolding filed front header directory cards_at
  rep_filed =
      subst (λ (u : List ℕ). Rep u (filed s y day code)) (sym written)
      (whole_rep fair
      (λ t. fronted s.shape s.maxp s.p (held_filed t) (faults_held_filed t) (first s.free) (first later) (directory s) (segments_filed t))
      refl (λ h. h)
      (front_write counted s.shape _ _ _ counted_whole faults_held_at (faults_held s + 1) (omega arith)))
