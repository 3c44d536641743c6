-- What the checker finds right is sound (`parts_sound`): each clause of `Sound` from a test. That no serial stands twice is tested in one
-- chain at a time, which is enough, since equal serials have one address.
use mathlib.Core.Path.{◌≡◌, sym, ◌∙◌, subst}
use mathlib.Core.Bool.{true, false}
use mathlib.Core.List.{List, ◌++◌}
use Prim.Native.Nat.{ℕ, ◌+◌, ◌-◌, ◌≤◌, ◌<◌}
use native.Mathlib.Omega.{arith}
use borrow.Author.Tests.{eqb-true}
use lib.Dec.{eqb, lit<}
use lib.ListN.{length}
use Rattle.rules.proofs.Tests.{both}
use Rattle.model.specs.Shape.{Shape, card_width}
use Rattle.model.specs.Lists.{total}
use Rattle.model.specs.Serial.{valid_fault}
use Rattle.model.specs.Layout.{to_first, to_last, to_count, to_day, to_code, fault_width, last, card_word, fault_word}
use Rattle.model.specs.Meaning.{In, ExactlyOnce, Leads, buckets_in, bucket_word, next_fault, bucket_cells, free_cells, history_cells, free_fault_cells, held_cells, filed_cells, serial_in, SoundAs}
use Rattle.model.proofs.Sums.{bit, total_append, length_total}
use Rattle.model.proofs.Walks.{times_count, one_in}
use Rattle.model.proofs.Meaning.{apart_in_buckets}
use Rattle.model.proofs.Shapes.{in_card}
use Rattle.reads.specs.Cells.{cell_word, width_of, limit_of}
use Rattle.checker.specs.Checker.{first_of, end_fits, chain_count, held_word}
use Rattle.checker.proofs.OnceLaws.{once_same}
use Rattle.checker.proofs.PartMeans.{chains_in, free_in, Part}
use Rattle.checker.proofs.FrontMeans.{Front}
use Rattle.checker.proofs.CellMeans.{free_is, fault_fits_lem, CardFits, card_is, serial_key, met_one}
use Rattle.checker.proofs.HistoryMeans.{filed_total}

module _ (sh : Shape) (w : List ℕ) (f : Front sh w) (c : Part sh w false) (h : Part sh w true) where
  -- cards

  card : (b i : ℕ) → b < buckets_in w → In i (bucket_cells sh w b) → CardFits sh w b i
  unfolding chain_count limit_of cell_word first_of bucket_cells
  card b i l p = card_is sh w b i (c.good b i l p)

  cells : ExactlyOnce sh.limit (free_cells sh w ++ held_cells sh w)
  unfolding chain_count limit_of cell_word first_of bucket_cells held_cells free_cells
  cells = c.cells

  inside : (i : ℕ) → In i (held_cells sh w) → (1 ≤ i) × (i ≤ sh.limit)
  inside i p =
      cells.cells i (omega (arith, times_count i (held_cells sh w), times_count i (free_cells sh w ++ held_cells sh w), total_append (λ (x : ℕ). bit (eqb i x)) (free_cells sh w) (held_cells sh w)))

  of_bucket : (i : ℕ) → In i (held_cells sh w) → (b : ℕ) × CardFits sh w b i
  unfolding held_cells
  of_bucket i p = let (b, l, q) = one_in (bucket_cells sh w) (buckets_in w) i p in (b, card b i l q)

  free_zero : (i k : ℕ) → In i (free_cells sh w) → 1 ≤ k → k < card_width sh → card_word sh w i k ≡ 0
  unfolding limit_of cell_word width_of free_cells
  free_zero i k p a b = free_is sh w false i (c.free_good i p) k a b

  different : (i j : ℕ) → In i (held_cells sh w) → In j (held_cells sh w) → serial_in sh w i ≡ serial_in sh w j → i ≡ j
  different =
      apart_in_buckets sh w (λ b i l p. (card b i l p).addressed)
      (λ b i j l p q e. met_one sh.limit sh w (bucket_word sh w b) i j (serial_key sh w b b i j (card b i l p) (card b j l q) e) (serial_key sh w b b j i (card b j l q) (card b i l p) (sym e)) (card b i l p).first (card b j l q).first)

  -- histories: that of card i is chain i - 1

  record History (i : ℕ) : Type 0 where
    leads : Leads (next_fault sh w) (card_word sh w i to_first) (history_cells sh w i)
    good : (k : ℕ) → In k (history_cells sh w i) → valid_fault (fault_word sh w k to_day) (fault_word sh w k to_code) ≡ true
    count : card_word sh w i to_count ≡ length (history_cells sh w i)
    end : card_word sh w i to_last ≡ last (history_cells sh w i)

  history : (j : ℕ) → j < sh.limit → History (j + 1)
  unfolding chain_count limit_of cell_word first_of end_fits history_cells
  history j l =
      let cells = history_cells sh w (j + 1) in
      let (n, e) = both (eqb (length cells) (card_word sh w (j + 1) to_count)) (eqb (last cells) (card_word sh w (j + 1) to_last)) (h.ends j l) in
      record {
        leads = h.chain j l;
        good = λ k p. sym (fault_fits_lem sh w k) ∙ h.good j k l p;
        count = sym (eqb-true (length cells) (card_word sh w (j + 1) to_count) n);
        end = sym (eqb-true (last cells) (card_word sh w (j + 1) to_last) e);
      }

  of_card : (i : ℕ) → In i (held_cells sh w) → History i
  of_card i p =
      let (a, b) = inside i p in
      subst History (let e : i - 1 + 1 ≡ i = omega arith in e) (history (i - 1) (omega arith))

  filed : (g : ℕ → ℕ) → total g (chains_in sh w true) ≡ total g (filed_cells sh w)
  filed = filed_total sh w cells (λ i p. free_zero i to_first p (omega arith) (in_card sh (lit< tt)))

  fault_cells : ExactlyOnce sh.fault_limit (free_fault_cells sh w ++ filed_cells sh w)
  unfolding limit_of cell_word free_fault_cells
  fault_cells =
      once_same sh.fault_limit (free_in sh w true ++ chains_in sh w true) (free_fault_cells sh w ++ filed_cells sh w)
      (λ i. let weight : ℕ → ℕ = λ x. bit (eqb i x) in
      total_append weight (free_in sh w true) (chains_in sh w true) ∙ omega (arith, filed weight, total_append weight (free_fault_cells sh w) (filed_cells sh w)))
      h.cells

  free_fault_zero : (i k : ℕ) → In i (free_fault_cells sh w) → 1 ≤ k → k < fault_width → fault_word sh w i k ≡ 0
  unfolding limit_of cell_word width_of free_fault_cells
  free_fault_zero i k p a b = free_is sh w true i (h.free_good i p) k a b

  pub parts_sound : SoundAs sh w
  unfolding chain_count limit_of cell_word first_of held_word bucket_cells held_cells free_cells free_fault_cells
  parts_sound =
      record {
        format_word = f.format_word;
        limit_word = f.limit_word;
        fault_limit_word = f.fault_limit_word;
        shape = f.shape;
        state = f.state;
        directory_offset = f.directory_offset;
        segments_offset = f.segments_offset;
        cards_offset = f.cards_offset;
        faults_offset = f.faults_offset;
        length_word = f.length_word;
        bounds = f.bounds;
        rule = f.rule;
        whole_length = f.whole_length;
        directory_used = f.directory_used;
        directory_unused = f.directory_unused;
        not_over = f.not_over;
        not_under = f.not_under;
        bucket_chain = c.chain;
        free_chain = c.free_chain;
        history_chain = λ i p. (of_card i p).leads;
        free_fault_chain = h.free_chain;
        card_cells = cells;
        fault_cells = fault_cells;
        addressed = λ b i l p. (card b i l p).addressed;
        different = different;
        serials = λ i p. (of_bucket i p).1.valid;
        faults = λ i k p. (of_card i p).good k;
        padding = λ i p. (of_bucket i p).1.padding;
        free_zero = free_zero;
        free_faults_zero = free_fault_zero;
        unused_zero = f.unused_zero;
        cards_held = sym c.held;
        faults_held = sym h.held ∙ length_total (chains_in sh w true) ∙ filed (λ x. 1) ∙ sym (length_total (filed_cells sh w));
        serial_lengths = λ i p. (of_bucket i p).1.long;
        fault_counts = λ i p. (of_card i p).count;
        last_faults = λ i p. (of_card i p).end;
      }
