-- A card placed, a fault filed, a card removed. Each of the three replaces the chain of one serial and moves cells between that chain
-- and the free cells. So each has three laws: every weighted sum over the cards (`X-total`), the card of every serial (`X-look`), and
-- that the store stays fair (`X-fair`), where the cells are the same cells as before by the first law. A new card is the last of its chain (`placed_last`).
use Prim.Native.Nat.{ℕ, ◌+◌, ◌<◌}
use mathlib.Core.Path.{◌≡◌, refl, ap, ◌∙◌}
use mathlib.Core.List.{List, [], ◌∷◌, ◌++◌, map, append-nil}
use mathlib.Core.Bool.{true, cond}
use native.Mathlib.Omega.{arith}
use lib.Dec.{eqb}
use lib.ListN.{length, get_or, length-set}
use borrow.Author.Tests.{eq-eqb}
use Rattle.rules.specs.Code.{code_of}
use Rattle.rules.specs.Table.{address_of}
use Rattle.rules.proofs.Tests.{by_cases, both, all_of}
use Rattle.model.specs.Lists.{all, same, total}
use Rattle.model.specs.Serial.{serial_ok, valid_fault}
use Rattle.model.specs.Model.{Fault, Card, Store, cards, histories, held, faults_held, bucket, address_in, chain_for, is, new_card, new_fault, with_fault, noted, without, cells_of, fault_cells_of, placed, filed, removed}
use Rattle.model.specs.Layout.{good_card}
use Rattle.model.proofs.Lists.{same_refl, same_eq, same_sym, keep_append, keep_update, keep_remove, all_append, all_keep, all_map, map_append, get_d_set}
use Rattle.model.proofs.Sums.{total_append, total_map, total_set, total_keep, total_update, total_first}
use Rattle.model.proofs.Fair.{named, Fair, card_count, fault_count, fault_weight, cells_moved, fault_cells_moved}
use Rattle.model.proofs.Look.{look, address_in_lem, look_named, look_chain, home_chain}

-- a new card

module _ (s : Store) (r : Fair s) (y : List ℕ) where
  pub placed_total : (w : Card → ℕ) → total w (cards (placed s y)) ≡ total w (cards s) + w (new_card s y)
  unfolding placed
  placed_total w =
      omega (arith, total_set w s.buckets (address_in s y) (chain_for s y ++ (new_card s y ∷ [])) (address_in_lem s r y), total_append w (chain_for s y) (new_card s y ∷ []))

  pub placed_look : (x : List ℕ) → look (placed s y) x ≡ look s x ++ cond (same x y) (new_card s y ∷ []) []
  unfolding placed
  placed_look x =
      look_chain s r x y _ _
      (λ e. rw (e, keep_append (is x) (chain_for s y) (new_card s y ∷ [])))
      (λ e. rw (e, append-nil (look s x)))

  -- it stands in the first free cell, at the end of its bucket's chain; no other bucket changes
  pub placed_last : (b : ℕ) → bucket (placed s y) b ≡ cond (eqb b (address_in s y)) (chain_for s y ++ (record { at = get_or s.free 0 0; serial = y; faults = [] } ∷ [])) (bucket s b)
  unfolding placed
  placed_last b = get_d_set s.buckets (address_in s y) b _ [] (address_in_lem s r y)

  new_good : serial_ok y ≡ true → all (good_card s.maxp s.p (address_in s y)) (new_card s y ∷ []) ≡ true
  unfolding good_card
  new_good v = rw (v, eq-eqb (address_in s y) (address_in s y) refl)

  pub placed_fair : serial_ok y ≡ true → look s y ≡ [] → held s < s.shape.limit → Fair (placed s y)
  unfolding placed
  placed_fair v new room =
      let free : 0 < length s.free = omega (arith, r.cells.count, card_count s) in
      record {
        shape = r.shape;
        state = r.state;
        number = length-set s.buckets (address_in s y) _ ∙ r.number;
        cells = cells_moved s (placed s y) (λ w. omega (arith, placed_total (λ c. w c.at), total_first w s.free free)) r.cells;
        fault_cells = fault_cells_moved s (placed s y) (λ w. omega (arith, placed_total (fault_weight w))) r.fault_cells;
        addressed = home_chain s r y _ (all_append _ (chain_for s y) _ (r.addressed (address_in s y)) (new_good v));
        different = λ x.
            by_cases (same x y)
            (λ e. rw (same_eq x y e) (omega (arith, rw (same_refl y) at (placed_total (named y)), look_named s r y, ap length new)))
            (λ e. omega (arith, rw e at (placed_total (named x)), r.different x));
      }

-- a fault filed

module _ (s : Store) (r : Fair s) (y : List ℕ) (day code : ℕ) where
  -- what a card weighs more by one fault, the store weighs more
  pub filed_total : (w : Card → ℕ) (j : ℕ) → ((c : Card) → w (with_fault (new_fault s day code) c) ≡ w c + j) → length (look s y) ≡ 1
      → total w (cards (filed s y day code)) ≡ total w (cards s) + j
  unfolding filed
  filed_total w j h one =
      omega (
        arith,
        total_set w s.buckets (address_in s y) (noted (new_fault s day code) y (chain_for s y)) (address_in_lem s r y),
        rw one at (total_update (is y) (with_fault (new_fault s day code)) w j (chain_for s y) h),
      )

  pub filed_look : (x : List ℕ) → look (filed s y day code) x ≡ cond (same y x) (map (with_fault (new_fault s day code)) (look s x)) (look s x)
  unfolding filed
  filed_look x =
      look_chain s r x y _ _
      (λ e. rw e (keep_update (λ c. c.serial) (with_fault (new_fault s day code)) (λ c. refl) x y (chain_for s y)))
      (λ e. rw (same_sym y x, e))

  fault_good : valid_fault day code ≡ true → (b : ℕ) (c : Card) → good_card s.maxp s.p b c ≡ true
      → good_card s.maxp s.p b (cond (is y c) (with_fault (new_fault s day code) c) c) ≡ true
  unfolding good_card
  fault_good v b c t = by_cases (is y c) (λ e. rw e more) (λ e. rw e t)
    where
      more : good_card s.maxp s.p b (with_fault (new_fault s day code) c) ≡ true
      more =
          let h = both (serial_ok c.serial) _ t in
          let j = both (eqb (address_of (code_of c.serial) s.maxp s.p) b) _ h.1 in
          all_of h.0 (all_of j.0 (all_append (λ (f : Fault). valid_fault f.day f.code) c.faults (new_fault s day code ∷ []) j.1 (rw v)))

  fault_weight_lem : (w : ℕ → ℕ) (c : Card) → fault_weight w (with_fault (new_fault s day code) c) ≡ fault_weight w c + w (get_or s.free_faults 0 0)
  fault_weight_lem w c =
      rw (map_append (λ (f : Fault). f.at) c.faults (new_fault s day code ∷ []))
      (omega (arith, total_append w (fault_cells_of c.faults) (get_or s.free_faults 0 0 ∷ [])))

  pub filed_fair : valid_fault day code ≡ true → length (look s y) ≡ 1 → faults_held s < s.shape.fault_limit → Fair (filed s y day code)
  unfolding filed
  filed_fair v one room =
      let free : 0 < length s.free_faults = omega (arith, r.fault_cells.count, fault_count s) in
      record {
        shape = r.shape;
        state = r.state;
        number = length-set s.buckets (address_in s y) _ ∙ r.number;
        cells = cells_moved s (filed s y day code) (λ w. omega (arith, filed_total (λ c. w c.at) 0 (λ c. omega arith) one)) r.cells;
        fault_cells =
            fault_cells_moved s (filed s y day code)
            (λ w. omega (arith, filed_total (fault_weight w) (w (get_or s.free_faults 0 0)) (fault_weight_lem w) one, total_first w s.free_faults free)) r.fault_cells;
        addressed = home_chain s r y _ (all_map _ _ _ (chain_for s y) (fault_good v (address_in s y)) (r.addressed (address_in s y)));
        different = λ x. omega (arith, filed_total (named x) 0 (λ c. omega arith) one, r.different x);
      }

-- a card taken out

-- its cell and the cells of its faults, as numbers that weigh
cell_weight : (w : ℕ → ℕ) (cs : List Card) (free : List ℕ) → total w (cells_of cs ++ free) ≡ total (λ c. w c.at) cs + total w free
cell_weight w cs free = omega (arith, total_append w (cells_of cs) free, total_map w (λ (c : Card). c.at) cs)

history_weight : (w : ℕ → ℕ) (cs : List Card) (free : List ℕ) → total w (fault_cells_of (histories cs) ++ free) ≡ total (fault_weight w) cs + total w free
history_weight w cs free = omega (arith, total_append w (fault_cells_of (histories cs)) free, go cs)
  where
    go : (cs : List Card) → total w (fault_cells_of (histories cs)) ≡ total (fault_weight w) cs
    go [] = refl
    go (c ∷ cs) =
        rw (map_append (λ (f : Fault). f.at) c.faults (histories cs))
        (omega (arith, total_append w (fault_cells_of c.faults) (fault_cells_of (histories cs)), go cs))

module _ (s : Store) (r : Fair s) (y : List ℕ) where
  pub removed_total : (w : Card → ℕ) → total w (cards (removed s y)) + total w (look s y) ≡ total w (cards s)
  unfolding removed
  removed_total w =
      omega (arith, total_set w s.buckets (address_in s y) (without y (chain_for s y)) (address_in_lem s r y), total_keep w (is y) (chain_for s y))

  pub removed_look : (x : List ℕ) → look (removed s y) x ≡ cond (same y x) [] (look s x)
  unfolding removed
  removed_look x =
      look_chain s r x y _ _
      (λ e. rw e (keep_remove (λ c. c.serial) x y (chain_for s y)))
      (λ e. rw (same_sym y x, e))

  pub removed_fair : Fair (removed s y)
  unfolding removed
  removed_fair =
      record {
        shape = r.shape;
        state = r.state;
        number = length-set s.buckets (address_in s y) _ ∙ r.number;
        cells = cells_moved s (removed s y) (λ w. omega (arith, removed_total (λ c. w c.at), cell_weight w (look s y) s.free)) r.cells;
        fault_cells = fault_cells_moved s (removed s y) (λ w. omega (arith, removed_total (fault_weight w), history_weight w (look s y) s.free_faults)) r.fault_cells;
        addressed = home_chain s r y _ (all_keep _ _ (chain_for s y) (r.addressed (address_in s y)));
        different = λ x. omega (arith, removed_total (named x), r.different x);
      }
