-- The writes that take a card out (`rep_removed`): its history is given back to the free fault cells; the word that led to the card, the
-- next word of the cell before it or the bucket's word, leads to the cell behind it; its own cell, now in no chain, is set to zero and put
-- before the free ones. The counts follow.
use mathlib.Core.Path.{◌≡◌, refl, sym, ap, ◌∙◌, subst}
use mathlib.Core.Logic.{◌⊎◌, inl, inr}
use mathlib.Core.List.{List, [], ◌∷◌, ◌++◌, map, append-nil}
use Prim.Native.Nat.{ℕ, suc, ◌+◌, ◌-◌, ◌≤◌, ◌<◌}
use native.Mathlib.Omega.{arith}
use lib.Dec.{eqb}
use lib.ListN.{length, get_or, set, take, drop, replicate, length-map, length-append, length-replicate}
use lib.Seq.{sets, set-get_or}
use borrow.Author.Tests.{ne_eqb}
use Rattle.model.specs.Lists.{join, total}
use Rattle.model.specs.Model.{Store, Card, Fault, cards, histories, held, faults_held, address_in, chain_for, before, without, cells_of, fault_cells_of, removed}
use Rattle.model.specs.Layout.{held_at, faults_held_at, free_at, free_faults_at, to_next, Cell, head_or, chained, fault_width, segments_at, cards_at, faults_at, card_cell, fault_cell, free_cell, card_chains, fault_chains, header, directory, segments, front, first, last}
use Rattle.model.specs.Words.{card_at, fault_at, link_at, clear_words, give_words, remove_words}
use Rattle.model.proofs.Lists.{map_append, map_set, Every, every_append, every_parts, at_every, every_map}
use Rattle.model.proofs.Sums.{bit, bit_same, total_append, total_set, total_one, total_first, length_total}
use Rattle.model.proofs.Each.{many}
use Rattle.model.proofs.Places.{cell_at_end}
use Rattle.model.proofs.Chains.{Stands, Stand, stand_parts, chained_append}
use Rattle.model.proofs.Part.{cell_in, Held}
use Rattle.model.proofs.Writes.{Apart, cell_here}
use Rattle.model.proofs.Shapes.{width_least}
use Rattle.model.proofs.Fair.{one, filings, fault_in, fault_cells, fault_count, faults_total}
use Rattle.model.proofs.Rep.{directory_length, Rep, size_top}
use Rattle.model.proofs.Decode.{cards_at_lem, head_cards, head_free}
use Rattle.model.proofs.Readings.{held_at_lem, faults_held_at_lem, free_at_lem, free_faults_at_lem, next_at, first_fault_at, last_fault_at, fault_count_at}
use Rattle.model.proofs.Look.{look, address_in_lem}
use Rattle.model.proofs.Steps.{removed_total, removed_fair}
use Rattle.model.proofs.Cut.{Present}
use Rattle.model.proofs.Whole.{Whole, rep_whole, whole_rep, each_apart, apart_less, front_write, card_fill, card_chain, card_cut, cards_fit, fronted, fronted_bucket, segments_chain, segments_kept, history_of, cards_joined, history_get, history_set, history_below, Recorded, recorded_held, ends, last_at, link_none, link_last}
use Rattle.model.proofs.Give.{cleared, joined}
use Rattle.model.specs.Shape.{card_width}

module _ (w : List ℕ) (s : Store) (r : Rep w s) (y : List ℕ) (p : Present y (chain_for s y)) where
  abbrev a : ℕ
  a = address_in s y

  abbrev card : Card
  card = p.card

  abbrev prior : List Card
  prior = before y (chain_for s y)

  abbrev left : List Card
  left = join (take a s.buckets) ++ prior

  abbrev right : List Card
  right = p.after ++ join (drop (suc a) s.buckets)

  abbrev fs : List ℕ
  fs = fault_cells_of card.faults

  abbrev records : List (List Cell)
  records = map history_of (cards s)

  below : a < length s.buckets
  below = address_in_lem s r.fair y

  cards_is : cards s ≡ left ++ (card ∷ right)
  cards_is = ap join (sym (set-get_or s.buckets a [])) ∙ ap (λ (ch : List Card). join (set s.buckets a ch)) p.parts ∙ cards_joined s a prior (card ∷ p.after) below

  -- the history is given back

  -- with these counts, first free cells and segments
  abbrev fronts : ℕ → ℕ → ℕ → ℕ → List ℕ → List ℕ
  fronts n k i j g = fronted s.shape s.maxp s.p n k i j (directory s) g

  abbrev Given : List ℕ → Type 0
  Given u = Whole u s.shape (fronts (held s) (faults_held s) (first s.free) (first (fs ++ s.free_faults)) (segments s)) (card_chains s) (map (free_cell fault_width) (fs ++ s.free_faults) ∷ set records (length left) [])

  given_none : card.faults ≡ [] → Given w
  unfolding front header
  given_none e =
      subst (λ (l : List ℕ). Whole w s.shape (fronts (held s) (faults_held s) (first s.free) (first (l ++ s.free_faults)) (segments s)) (card_chains s) (map (free_cell fault_width) (l ++ s.free_faults) ∷ set records (length left) [])) (ap fault_cells_of (sym e))
      (subst (λ (l : List (List Cell)). Whole w s.shape (front s) (card_chains s) (map (free_cell fault_width) s.free_faults ∷ l))
      (sym (ap (set records (length left)) (ap (map fault_cell) (sym e) ∙ sym (history_get (cards s) left card right cards_is)) ∙ set-get_or records (length left) [])) (rep_whole r))

  history_fits : length card.faults ≤ s.shape.fault_limit
  history_fits =
      omega (
        arith,
        r.fair.fault_cells.count,
        fault_count s,
        faults_total (cards s),
        ap (total filings) cards_is,
        total_append filings left (card ∷ right),
      )

  cleared_whole : Whole (clear_words s.shape.fault_limit s.shape w (first fs)) s.shape (front s) (card_chains s) (map (free_cell fault_width) s.free_faults ∷ set records (length left) (map (free_cell fault_width) fs))
  cleared_whole =
      cleared s.shape (front s) (card_chains s) (fault_chains s) (suc (length left)) (omega (arith, history_below (cards s) left card right cards_is)) s.shape.fault_limit card.faults [] w history_fits
      (subst (λ (l : List (List Cell)). Whole w s.shape (front s) (card_chains s) (map (free_cell fault_width) s.free_faults ∷ l))
      (sym (ap (set records (length left)) (sym (history_get (cards s) left card right cards_is)) ∙ set-get_or records (length left) [])) (rep_whole r))

  given_some : (xs : List ℕ) (z : ℕ) → fs ≡ xs ++ (z ∷ []) → Given (set (set (clear_words s.shape.fault_limit s.shape w (first fs)) (fault_at s.shape z to_next) (first s.free_faults)) free_faults_at (first fs))
  unfolding front header cards_at
  given_some xs z e =
      let F = free_cell fault_width in
      let u = clear_words s.shape.fault_limit s.shape w (first fs) in
      let v = set u (fault_at s.shape z to_next) (first s.free_faults) in
      let ch : map F fs ≡ map F xs ++ (F z ∷ []) = ap (map F) e ∙ map_append F xs (z ∷ []) in
      let all : map F xs ++ (F z ∷ []) ++ map F s.free_faults ≡ map F (fs ++ s.free_faults) = ap (λ (l : List Cell). l ++ map F s.free_faults) (sym ch) ∙ sym (map_append F fs s.free_faults) in
      let head : first fs ≡ first (fs ++ s.free_faults) = ap first e ∙ keeps xs ∙ ap (λ (l : List ℕ). first (l ++ s.free_faults)) (sym e) in
      subst (λ (i : ℕ). Whole (set v free_faults_at (first fs)) s.shape (fronts (held s) (faults_held s) (first s.free) i (segments s)) (card_chains s) (map F (fs ++ s.free_faults) ∷ set records (length left) [])) head
      (front_write v s.shape (front s) (card_chains s) _
      (subst (λ (l : List Cell). Whole v s.shape (front s) (card_chains s) (l ∷ set records (length left) [])) all
      (joined s.shape (front s) (card_chains s) records (length left) (history_below (cards s) left card right cards_is) s.free_faults xs z u
      (subst (λ (l : List Cell). Whole u s.shape (front s) (card_chains s) (map F s.free_faults ∷ set records (length left) l)) ch cleared_whole)))
      free_faults_at (first fs) (omega arith))
    where
      keeps : (l : List ℕ) → first (l ++ (z ∷ [])) ≡ first (l ++ (z ∷ []) ++ s.free_faults)
      keeps [] = refl
      keeps (x ∷ xs) = refl

  -- as `give_words` does it
  given : List ℕ
  given = give_words s.shape w (first fs) (last fs)

  first_fault : (xs : List ℕ) (z : ℕ) → fs ≡ xs ++ (z ∷ []) → 1 ≤ first fs
  first_fault xs z e =
      let x = first fs in
      (r.fair.fault_cells.inside x
      (omega (
        arith,
        fault_cells s x,
        ap (total (fault_in x)) cards_is,
        total_append (fault_in x) left (card ∷ right),
        total_first (λ (i : ℕ). bit (eqb x i)) fs (omega (arith, ap length e, length-append xs (z ∷ []))),
        bit_same x x refl,
      ))).0

  given_whole : Given given
  unfolding given give_words
  given_whole = go (ends card.faults)
    where
      go : (card.faults ≡ []) ⊎ ((xs : List Fault) × (z : Fault) × (card.faults ≡ xs ++ (z ∷ []))) → Given (give_words s.shape w (first fs) (last fs))
      go (inl e) = subst (λ (l : List Fault). Given (give_words s.shape w (first (fault_cells_of l)) (last (fault_cells_of l)))) (sym e) (given_none e)
      go (inr (xs, z, e)) =
          let e₁ : fs ≡ fault_cells_of xs ++ (z.at ∷ []) = ap fault_cells_of e ∙ map_append (λ (f : Fault). f.at) xs (z ∷ []) in
          let l : last fs ≡ z.at = last_at (λ (f : Fault). f.at) card.faults xs z e in
          let i = free_faults_at_lem w s r in
          subst Given (sym (rw (ne_eqb (first fs) 0 (omega (arith, first_fault (fault_cells_of xs) z.at e₁)))
          (λ t. set (set (clear_words s.shape.fault_limit s.shape w (first fs)) (fault_at s.shape (l t) to_next) (i t)) free_faults_at (first fs)))) (given_some (fault_cells_of xs) z.at e₁)

  -- the card is left out of its chain

  abbrev rest : List Cell
  rest = map card_cell (prior ++ p.after)

  abbrev faults₁ : List (List Cell)
  faults₁ = map (free_cell fault_width) (fs ++ s.free_faults) ∷ set records (length left) []

  chain_is : get_or (card_chains s) (suc a) [] ≡ map card_cell prior ++ (card_cell card ∷ map card_cell p.after)
  chain_is = cards_at_lem w s r a ∙ ap (map card_cell) p.parts ∙ map_append card_cell prior (card ∷ p.after)

  below_chains : suc a < length (card_chains s)
  below_chains = omega (arith, below, length-map s.buckets (map card_cell))

  -- what is counted of the chains without it
  rest_count : (i : ℕ) → many i (join (set (card_chains s) (suc a) rest)) + bit (eqb i card.at) ≡ many i (join (card_chains s))
  unfolding card_cell
  rest_count i =
      let f : Cell → ℕ = λ c. bit (eqb i c.at) in
      omega (
        arith,
        total_set f (card_chains s) (suc a) rest below_chains,
        ap (total f) chain_is,
        total_append f (map card_cell prior) (card_cell card ∷ map card_cell p.after),
        ap (total f) (map_append card_cell prior p.after),
        total_append f (map card_cell prior) (map card_cell p.after),
      )

  rest_apart : Apart s.shape.limit (join (set (card_chains s) (suc a) rest))
  rest_apart = apart_less (λ i. omega (arith, rest_count i)) (each_apart r.fair.cells)

  card_none : many card.at (join (set (card_chains s) (suc a) rest)) ≡ 0
  card_none = omega (arith, rest_count card.at, r.fair.cells.once card.at, bit_same card.at card.at refl)

  card_in : (1 ≤ card.at) × (card.at ≤ s.shape.limit)
  card_in = r.fair.cells.inside card.at (omega (arith, rest_count card.at, bit_same card.at card.at refl))

  abbrev Unlinked : ℕ → Type 0
  Unlinked q = Whole (set given q (first (cells_of p.after))) s.shape (fronts (held s) (faults_held s) (first s.free) (first (fs ++ s.free_faults)) (segments (removed s y))) (set (card_chains s) (suc a) rest) faults₁

  unlinked_first : prior ≡ [] → Unlinked (segments_at s.shape + a)
  unfolding removed segments cards_at directory
  unlinked_first e =
      let after : rest ≡ map card_cell p.after = ap (λ (l : List Card). map card_cell (l ++ p.after)) e in
      let stand : Stand (cell_in given (cards_at s.shape) (card_width s.shape)) (card_width s.shape) (chained 0 (card_cell card ∷ map card_cell p.after)) =
      subst (λ (l : List Cell). Stand (cell_in given (cards_at s.shape) (card_width s.shape)) (card_width s.shape) (chained 0 l)) (chain_is ∙ ap (λ (l : List Card). map card_cell l ++ (card_cell card ∷ map card_cell p.after)) e) (given_whole.cards (suc a)) in
      let head : first (cells_of (without y (chain_for s y))) ≡ first (cells_of p.after) = ap (λ (l : List Card). first (cells_of l)) (p.without_it ∙ ap (λ (l : List Card). l ++ p.after) e) in
      subst (λ (fr : List ℕ). Whole (set given (segments_at s.shape + a) (first (cells_of p.after))) s.shape fr (set (card_chains s) (suc a) rest) faults₁)
      (fronted_bucket _ _ _ _ _ _ _ (directory s) (segments s) a (first (cells_of p.after)) (directory_length s)
      ∙ ap (fronts (held s) (faults_held s) (first s.free) (first (fs ++ s.free_faults)))
      (ap (set (segments s) a) (sym head) ∙ segments_chain s a (without y (chain_for s y)) below))
      (front_write given s.shape _ _ _
      (card_chain given s.shape _ _ _ given_whole (suc a) rest below_chains rest_apart
      (subst (λ (l : List Cell). Stand (cell_in given (cards_at s.shape) (card_width s.shape)) (card_width s.shape) (chained 0 l)) (sym after) stand.1))
      (segments_at s.shape + a) (first (cells_of p.after)) (omega (arith, below, r.fair.number, size_top s r.fair)))

  unlinked_behind : (xs : List Card) (z : Card) → prior ≡ xs ++ (z ∷ []) → (1 ≤ z.at) × Unlinked (card_at s.shape z.at to_next)
  unfolding removed segments card_cell
  unlinked_behind xs z e =
      let zs = map card_cell p.after in
      let front₁ = fronts (held s) (faults_held s) (first s.free) (first (fs ++ s.free_faults)) (segments s) in
      let ch : map card_cell prior ≡ map card_cell xs ++ (card_cell z ∷ []) = ap (map card_cell) e ∙ map_append card_cell xs (z ∷ []) in
      let g : get_or (card_chains s) (suc a) [] ≡ map card_cell xs ++ (card_cell z ∷ []) ++ (card_cell card ∷ zs) = chain_is ∙ ap (λ (l : List Cell). l ++ (card_cell card ∷ zs)) ch in
      let now : map card_cell xs ++ (card_cell z ∷ []) ++ zs ≡ rest = ap (λ (l : List Cell). l ++ zs) (sym ch) ∙ sym (map_append card_cell prior p.after) in
      let stand = stand_parts (card_width s.shape) (cell_in given (cards_at s.shape) (card_width s.shape)) (chained card.at (map card_cell prior)) (chained 0 (card_cell card ∷ zs))
      (rw (← (chained_append 0 (map card_cell prior) (card_cell card ∷ zs))) (subst (λ (l : List Cell). Stand (cell_in given (cards_at s.shape) (card_width s.shape)) (card_width s.shape) (chained 0 l)) chain_is (given_whole.cards (suc a)))) in
      let f : ℕ → Cell → ℕ = λ i c. bit (eqb i c.at) in
      let parts : (i : ℕ) → many i (map card_cell xs) + bit (eqb i z.at) + bit (eqb i card.at) + many i zs ≤ many i (join (card_chains s)) = λ i. omega (
        arith,
        total_one (f i) (card_chains s) (suc a),
        ap (many i) g,
        total_append (f i) (map card_cell xs ++ (card_cell z ∷ [])) (card_cell card ∷ zs),
        total_append (f i) (map card_cell xs) (card_cell z ∷ []),
      ) in
      let head : first (cells_of (without y (chain_for s y))) ≡ first (cells_of (chain_for s y)) =
      ap (λ (l : List Card). first (cells_of l)) (p.without_it ∙ ap (λ (l : List Card). l ++ p.after) e) ∙ keeps xs ∙ ap (λ (l : List Card). first (cells_of l)) (sym (p.parts ∙ ap (λ (l : List Card). l ++ (card ∷ p.after)) e)) in (
        (r.fair.cells.inside z.at (omega (arith, parts z.at, bit_same z.at z.at refl))).0,
        subst (λ (fr : List ℕ). Whole (set given (card_at s.shape z.at to_next) (first (cells_of p.after))) s.shape fr (set (card_chains s) (suc a) rest) faults₁)
            (ap (fronts (held s) (faults_held s) (first s.free) (first (fs ++ s.free_faults))) (segments_kept s a (without y (chain_for s y)) head))
            (subst (λ (v : ℕ). Whole (set given (card_at s.shape z.at to_next) v) s.shape front₁ (set (card_chains s) (suc a) rest) faults₁) (sym (head_cards p.after))
            (subst (λ (l : List Cell). Whole (set given (card_at s.shape z.at to_next) (head_or 0 zs)) s.shape front₁ (set (card_chains s) (suc a) l) faults₁) now
            (card_cut given s.shape _ (card_chains s) _ given_whole (suc a) (map card_cell xs) (card_cell z) (card_cell card ∷ zs) below_chains g zs
            (λ i q. (r.fair.cells.inside i (omega (arith, parts i))).0) (omega (arith, parts z.at, r.fair.cells.once z.at, bit_same z.at z.at refl)) stand.1.1
            (subst (λ (l : List Cell). Apart s.shape.limit (join (set (card_chains s) (suc a) l))) (sym now) rest_apart)))),
      )
    where
      keeps : (l : List Card) → first (cells_of (l ++ (z ∷ []) ++ p.after)) ≡ first (cells_of (l ++ (z ∷ []) ++ (card ∷ p.after)))
      keeps [] = refl
      keeps (c ∷ cs) = refl

  unlinked : Unlinked (link_at s.shape a (last (cells_of prior)))
  unlinked = go (ends prior)
    where
      go : (prior ≡ []) ⊎ ((xs : List Card) × (z : Card) × (prior ≡ xs ++ (z ∷ []))) → Unlinked (link_at s.shape a (last (cells_of prior)))
      go (inl e) = subst Unlinked (sym (link_none (λ (c : Card). c.at) prior s.shape a e)) (unlinked_first e)
      go (inr (xs, z, e)) = let q = unlinked_behind xs z e in subst Unlinked (sym (link_last (λ (c : Card). c.at) prior s.shape a xs z e q.0)) q.1

  -- its cell, now in no chain, is emptied and put before the free ones

  abbrev out : List ℕ
  out = set given (link_at s.shape a (last (cells_of prior))) (first (cells_of p.after))

  abbrev zeros : List ℕ
  zeros = first s.free ∷ replicate ((card_width s.shape) - 1) 0

  zeros_long : length zeros ≡ card_width s.shape
  zeros_long = omega (arith, length-replicate {A = ℕ} (card_width s.shape - 1) 0, width_least s.shape)

  emptied : List ℕ
  emptied = sets out (card_at s.shape card.at to_next) zeros

  emptied_whole : Whole emptied s.shape (fronts (held s) (faults_held s) (first s.free) (first (fs ++ s.free_faults)) (segments (removed s y))) (set (card_chains s) (suc a) rest) faults₁
  unfolding emptied
  emptied_whole = card_fill out s.shape _ _ _ unlinked card.at zeros card_in.0 card_in.1 zeros_long card_none

  free_stands : Stands (cell_in emptied (cards_at s.shape) (card_width s.shape)) (card_width s.shape) (record { at = card.at; words = head_or 0 (map (free_cell (card_width s.shape)) s.free) ∷ (free_cell (card_width s.shape) card.at).words })
  unfolding emptied free_cell
  free_stands k l =
      cell_here out (cards_at s.shape) (card_width s.shape) card.at k zeros (omega (arith, zeros_long, cards_fit out s.shape _ _ _ unlinked, cell_at_end (cards_at s.shape) (card_width s.shape) s.shape.limit card.at card_in.0 card_in.1)) (omega (arith, zeros_long))
      ∙ ap (λ (i : ℕ). get_or (i ∷ replicate ((card_width s.shape) - 1) 0) k 0) (head_free (card_width s.shape) s.free)

  free_removed : card.at ∷ s.free ≡ (removed s y).free
  unfolding removed
  free_removed = ap (λ (l : List Card). cells_of l ++ s.free) (sym p.only)

  free_faults_removed : fs ++ s.free_faults ≡ (removed s y).free_faults
  unfolding removed
  free_faults_removed = ap (λ (l : List Fault). fault_cells_of l ++ s.free_faults) (sym (append-nil card.faults) ∙ ap histories (sym p.only))

  chains_removed : map (free_cell (card_width s.shape)) (card.at ∷ s.free) ∷ set (map (map card_cell) s.buckets) a rest ≡ card_chains (removed s y)
  unfolding removed
  chains_removed =
      let e = sym p.without_it in
      (λ t. map (free_cell (card_width s.shape)) (free_removed t) ∷ set (map (map card_cell) s.buckets) a (map card_cell (e t)))
      ∙ ap (λ (l : List (List Cell)). map (free_cell (card_width s.shape)) (removed s y).free ∷ l) (sym (map_set (map card_cell) s.buckets a (without y (chain_for s y))))

  freed_whole : Whole emptied s.shape (fronts (held s) (faults_held s) (first s.free) (first (fs ++ s.free_faults)) (segments (removed s y))) (card_chains (removed s y)) faults₁
  unfolding removed free_cell
  freed_whole =
      subst (λ (cs : List (List Cell)). Whole emptied s.shape (fronts (held s) (faults_held s) (first s.free) (first (fs ++ s.free_faults)) (segments (removed s y))) cs faults₁) chains_removed
      (card_chain emptied s.shape _ (set (card_chains s) (suc a) rest) faults₁ emptied_whole 0 (map (free_cell (card_width s.shape)) (card.at ∷ s.free)) (omega arith)
      (subst (λ (cs : List (List Cell)). Apart s.shape.limit (join cs)) (sym chains_removed) (each_apart (removed_fair s r.fair y).cells))
      (free_stands, emptied_whole.cards 0))

  -- the counts, and the histories without the card's, which is empty

  held_removed : held s - 1 ≡ held (removed s y)
  held_removed = omega (arith, length_total (cards (removed s y)), length_total (cards s), removed_total s r.fair y one, ap length p.only, length_total (look s y))

  faults_removed : faults_held s - length fs ≡ faults_held (removed s y)
  faults_removed =
      omega (
        arith,
        faults_total (cards (removed s y)),
        faults_total (cards s),
        removed_total s r.fair y filings,
        ap (total filings) p.only,
        length-map card.faults (λ (f : Fault). f.at),
      )

  cards_removed : cards (removed s y) ≡ left ++ right
  unfolding removed
  cards_removed = ap (λ (ch : List Card). join (set s.buckets a ch)) p.without_it ∙ cards_joined s a prior p.after below

  recorded_removed : (u : List ℕ) → Held u (faults_at s.shape) fault_width faults₁ → Held u (faults_at s.shape) fault_width (fault_chains (removed s y))
  recorded_removed u h =
      let P : List Cell → Type 0 = λ ch. Stand (cell_in u (faults_at s.shape) fault_width) fault_width (chained 0 ch) in
      let old = every_parts P (map history_of left) ([] ∷ map history_of right)
      (subst (Every P) (history_set (cards s) left card right cards_is []) (at_every P (set records (length left) []) [] (λ j. h (suc j)))) in
      let now : Every P (map history_of (left ++ right)) =
      subst (Every P) (sym (map_append history_of left right)) (every_append P (map history_of left) (map history_of right) old.0 old.1.1) in
      recorded_held u s.shape (map (free_cell fault_width) (removed s y).free_faults) (cards (removed s y))
      (subst (λ (l : List ℕ). P (map (free_cell fault_width) l)) free_faults_removed (h 0))
      (subst (Every (Recorded u s.shape)) (sym cards_removed) (every_map P history_of (left ++ right) now))

  written : remove_words s.shape w a (last (cells_of prior)) card.at ≡ set (set (set emptied free_at card.at) held_at (held s - 1)) faults_held_at (faults_held s - length fs)
  unfolding remove_words given emptied
  written =
      let i = first_fault_at w s r a prior card p.after p.parts in
      let j = last_fault_at w s r a prior card p.after p.parts in
      let k = fault_count_at w s r a prior card p.after p.parts in
      let next = next_at w s r a prior card p.after p.parts in
      let c = free_at_lem w s r in
      let n = held_at_lem w s r in
      let m = faults_held_at_lem w s r in
      λ t. set (set (set (sets (set (give_words s.shape w (i t) (j t)) (link_at s.shape a (last (cells_of prior))) (next t)) (card_at s.shape card.at to_next) (c t ∷ replicate ((card_width s.shape) - 1) 0)) free_at card.at) held_at (n t - 1)) faults_held_at (m t - k t)

  pub rep_removed : Rep (remove_words s.shape w a (last (cells_of prior)) card.at) (removed s y)
  unfolding removed front header directory cards_at
  rep_removed =
      let u = set emptied free_at card.at in
      let v = set u held_at (held s - 1) in
      let i = ap first free_removed in
      let j = ap first free_faults_removed in
      subst (λ (u : List ℕ). Rep u (removed s y)) (sym written)
      (whole_rep (removed_fair s r.fair y) (λ t. fronts (held_removed t) (faults_removed t) (i t) (j t) (segments (removed s y)))
      refl (recorded_removed (set v faults_held_at (faults_held s - length fs)))
      (front_write v s.shape _ _ _
      (front_write u s.shape _ _ _ (front_write emptied s.shape _ _ _ freed_whole free_at card.at (omega arith)) held_at (held s - 1) (omega arith))
      faults_held_at (faults_held s - length fs) (omega arith)))
