-- The checker finds sound words right (`sound_cards`, `sound_faults`): each test from a clause of `Sound`. A card is met first in its chain,
-- since no other card has its serial. The history of a card cell is that of the card which stands there; where the cell is free it is
-- zero, so its history is empty, with count and last fault 0, and passes too.
use mathlib.Core.Path.{◌≡◌, refl, sym, ap, ◌∙◌, subst}
use mathlib.Core.Logic.{⊎_elim}
use mathlib.Core.Bool.{true, false}
use mathlib.Core.List.{List, [], ◌++◌}
use Prim.Native.Nat.{ℕ, ◌+◌, ◌≤◌, ◌<◌}
use native.Mathlib.Omega.{arith}
use borrow.Author.Tests.{eq-eqb}
use lib.Dec.{eqb, lit<}
use lib.ListN.{length}
use Rattle.rules.proofs.Tests.{all_of, lt?}
use Rattle.model.specs.Shape.{Shape}
use Rattle.model.specs.Lists.{total}
use Rattle.model.specs.Serial.{valid_fault}
use Rattle.model.specs.Layout.{to_first, to_last, to_count, to_day, to_code, last, card_word, fault_word}
use Rattle.model.specs.Meaning.{times, In, ExactlyOnce, Leads, buckets_in, bucket_word, next_card, next_fault, bucket_cells, free_cells, history_cells, free_fault_cells, held_cells, filed_cells, SoundAs}
use Rattle.model.proofs.Sums.{bit, total_append, length_total}
use Rattle.model.proofs.Walks.{times_count}
use Rattle.model.proofs.Meaning.{held_in}
use Rattle.model.proofs.Shapes.{in_card}
use Rattle.reads.specs.Cells.{cell_word, width_of, limit_of}
use Rattle.checker.specs.Checker.{first_of, end_fits, chain_count, held_word}
use Rattle.reads.proofs.AlongLaws.{follow_length}
use Rattle.checker.proofs.OnceLaws.{once_same}
use Rattle.checker.proofs.PartMeans.{chains_in, free_in, Part}
use Rattle.checker.proofs.CellMeans.{is_free, fault_fits_lem, CardFits, is_card, key_serial, met_first_lem}
use Rattle.checker.proofs.HistoryMeans.{no_history, filed_total}

module _ (sh : Shape) (w : List ℕ) (s : SoundAs sh w) where
  places : (i : ℕ) → times i (free_cells sh w ++ held_cells sh w) ≡ times i (free_cells sh w) + times i (held_cells sh w)
  places i =
      times_count i (free_cells sh w ++ held_cells sh w) ∙ total_append (λ (x : ℕ). bit (eqb i x)) (free_cells sh w) (held_cells sh w)
      ∙ omega (arith, times_count i (free_cells sh w), times_count i (held_cells sh w))

  short : (b : ℕ) → length (bucket_cells sh w b) ≤ sh.limit
  unfolding bucket_cells
  short b = follow_length sh.limit (next_card sh w) (bucket_word sh w b)

  first : (b i : ℕ) → b < buckets_in w → In i (bucket_cells sh w b) → CardFits sh w b i
  first b i l p =
      let in_held = held_in sh w b i l p in
      record {
        long = s.serial_lengths i in_held;
        valid = s.serials i in_held;
        padding = s.padding i in_held;
        addressed = s.addressed b i l p;
        first = met_first_lem sh.limit sh w (bucket_word sh w b) i (bucket_cells sh w b) (s.bucket_chain b l) (short b)
            (λ j q. s.card_cells.cells j (omega (arith, places j, held_in sh w b j l q)))
            (λ j q k. s.different j i (held_in sh w b j l q) in_held (key_serial sh w j i k)) p;
      }

  pub sound_cards : Part sh w false
  unfolding chain_count limit_of cell_word width_of first_of end_fits held_word bucket_cells held_cells free_cells
  sound_cards =
      record {
        free_chain = s.free_chain;
        chain = s.bucket_chain;
        cells = s.card_cells;
        free_good = λ i p. is_free sh w false i (λ k. s.free_zero i k p);
        good = λ b i l p. is_card sh w b i (first b i l p);
        ends = λ j l. refl;
        held = sym s.cards_held;
      }

  -- histories: chain j is that of card j + 1

  empty : (i : ℕ) → In i (free_cells sh w) → history_cells sh w i ≡ []
  empty i p = no_history sh w i (s.free_zero i to_first p (omega arith) (in_card sh (lit< tt)))

  of_cell : (P : ℕ → Type 0) (i : ℕ) → 1 ≤ i → i ≤ sh.limit → ((p : In i (free_cells sh w)) → P i) → ((p : In i (held_cells sh w)) → P i) → P i
  of_cell P i a b free card =
      ⊎_elim (λ (p : 0 < times i (free_cells sh w)). free p) (λ (p : times i (free_cells sh w) ≤ 0). card (omega (arith, places i, s.card_cells.once i a b))) (lt? 0 (times i (free_cells sh w)))

  leads : (i : ℕ) → 1 ≤ i → i ≤ sh.limit → Leads (next_fault sh w) (card_word sh w i to_first) (history_cells sh w i)
  leads i a b =
      of_cell (λ i. Leads (next_fault sh w) (card_word sh w i to_first) (history_cells sh w i)) i a b
      (λ p. subst (Leads (next_fault sh w) (card_word sh w i to_first)) (sym (empty i p)) (s.free_zero i to_first p (omega arith) (in_card sh (lit< tt))))
      (λ p. s.history_chain i p)

  valid : (i k : ℕ) → 1 ≤ i → i ≤ sh.limit → In k (history_cells sh w i) → valid_fault (fault_word sh w k to_day) (fault_word sh w k to_code) ≡ true
  valid i k a b =
      of_cell (λ i. In k (history_cells sh w i) → valid_fault (fault_word sh w k to_day) (fault_word sh w k to_code) ≡ true) i a b
      (λ p q. absurd (omega (arith, ap (times k) (empty i p))))
      (λ p. s.faults i k p)

  ended : (i : ℕ) → 1 ≤ i → i ≤ sh.limit → (length (history_cells sh w i) ≡ card_word sh w i to_count) × (last (history_cells sh w i) ≡ card_word sh w i to_last)
  unfolding last
  ended i a b =
      of_cell (λ i. (length (history_cells sh w i) ≡ card_word sh w i to_count) × (last (history_cells sh w i) ≡ card_word sh w i to_last)) i a b
      (λ p. (ap length (empty i p) ∙ sym (s.free_zero i to_count p (omega arith) (in_card sh (lit< tt))), ap last (empty i p) ∙ sym (s.free_zero i to_last p (omega arith) (in_card sh (lit< tt)))))
      (λ p. (sym (s.fault_counts i p), sym (s.last_faults i p)))

  filed : (g : ℕ → ℕ) → total g (chains_in sh w true) ≡ total g (filed_cells sh w)
  filed = filed_total sh w s.card_cells (λ i p. s.free_zero i to_first p (omega arith) (in_card sh (lit< tt)))

  fault_cells : ExactlyOnce sh.fault_limit (free_in sh w true ++ chains_in sh w true)
  unfolding limit_of cell_word free_fault_cells
  fault_cells =
      once_same sh.fault_limit (free_fault_cells sh w ++ filed_cells sh w) (free_in sh w true ++ chains_in sh w true)
      (λ i. let weight : ℕ → ℕ = λ x. bit (eqb i x) in
      total_append weight (free_fault_cells sh w) (filed_cells sh w) ∙ omega (arith, filed weight, total_append weight (free_in sh w true) (chains_in sh w true)))
      s.fault_cells

  pub sound_faults : Part sh w true
  unfolding chain_count limit_of cell_word width_of first_of end_fits held_word history_cells free_fault_cells
  sound_faults =
      record {
        free_chain = s.free_fault_chain;
        chain = λ j l. leads (j + 1) (omega arith) (omega arith);
        cells = fault_cells;
        free_good = λ i p. is_free sh w true i (λ k. s.free_faults_zero i k p);
        good = λ j k l p. fault_fits_lem sh w k ∙ valid (j + 1) k (omega arith) (omega arith) p;
        ends = λ j l. let e = ended (j + 1) (omega arith) (omega arith) in
            all_of (eq-eqb (length (history_cells sh w (j + 1))) (card_word sh w (j + 1) to_count) e.0) (eq-eqb (last (history_cells sh w (j + 1))) (card_word sh w (j + 1) to_last) e.1);
        held = length_total (chains_in sh w true) ∙ filed (λ x. 1) ∙ sym (length_total (filed_cells sh w)) ∙ sym s.faults_held;
      }
