-- Words of format 1 are sound exactly where they were before there were bounds (`format_one`): the clauses of `Sound` at 4 and 2 are those
-- of document 01, one by one. One needs a word: no more than four cards a bucket holds at 256 buckets too, where `Sound` asks nothing,
-- since the card limit is 1,024 (`high_four`).
use Prim.Native.Nat.{ℕ, ◌*◌, ◌≤◌}
use mathlib.Core.Path.{◌≡◌, refl, sym, ap, subst}
use mathlib.Core.Logic.{◌↔◌, inr}
use mathlib.Core.Bool.{true}
use mathlib.Core.List.{List}
use native.Mathlib.Omega.{arith}
use lib.ListN.{get_or}
use Rattle.rules.proofs.Tests.{all_of}
use Rattle.model.specs.Shape.{Shape, entries, card_width, most_cards, most_faults}
use Rattle.model.specs.Layout.{bounds_at, first_format, first_upper, first_lower, upper_by, lower_by, limits_ok, bounds_ok, format_ok, bounds_word, rule_word, shape_ok, shape_of, cards_at, faults_at, length_for, cell_at, card_word, fault_word, decode_as, decode, sound}
use Rattle.model.specs.Meaning.{bucket_cells, free_cells, history_cells, free_fault_cells, held_cells, filed_cells, bytes_in, serial_in, SoundAs}
use Rattle.model.specs.FormatOne.{word1, cards1, faults1, buckets1, Sound1}
use Rattle.model.proofs.Shapes.{limits_fit_lem, bounds_fit, shaped}
use Rattle.model.proofs.Fair.{high_four}
use Rattle.model.proofs.Sound.{sound_is, sound_good}
use Rattle.model.proofs.Readings.{held_at_lem}
use Rattle.model.proofs.Meaning.{sound_means}

-- the shape of format 1 with these limits
abbrev shape1 : List ℕ → Shape
shape1 w = record { format = first_format; limit = cards1 w; fault_limit = faults1 w; upper = first_upper; lower = first_lower }

shape_told : (w : List ℕ) → word1 w 0 ≡ 1 → shape_of w ≡ shape1 w
unfolding shape_of
shape_told w e = λ i. record { format = e i; limit = cards1 w; fault_limit = faults1 w; upper = upper_by (e i) (get_or w bounds_at 0); lower = lower_by (e i) (get_or w bounds_at 0) }

module _ (w : List ℕ) where
  -- the clauses of `Sound` are document 01's
  clauses_are : word1 w 0 ≡ 1 → SoundAs (shape1 w) w → word1 w 5 ≤ 4 * buckets1 w → Sound1 w
  unfolding entries card_width most_cards most_faults bounds_word rule_word cards_at faults_at length_for cell_at card_word fault_word bucket_cells free_cells history_cells free_fault_cells held_cells filed_cells bytes_in serial_in
  clauses_are e m four =
      let s = shaped (shape1 w) m.shape in
      record {
        format = e;
        limit = (s.some, s.most);
        fault_limit = (s.some_faults, s.most_faults);
        state = m.state;
        offsets = (m.directory_offset, m.segments_offset, m.cards_offset, m.faults_offset);
        length_word = m.length_word;
        zeros = (m.bounds, m.rule);
        whole_length = m.whole_length;
        directory_used = m.directory_used;
        directory_unused = m.directory_unused;
        not_over = four;
        not_under = m.not_under;
        bucket_chain = m.bucket_chain;
        free_chain = m.free_chain;
        history_chain = m.history_chain;
        free_fault_chain = m.free_fault_chain;
        card_cells = m.card_cells;
        fault_cells = m.fault_cells;
        addressed = m.addressed;
        different = m.different;
        serials = m.serials;
        faults = m.faults;
        padding = m.padding;
        free_zero = m.free_zero;
        free_faults_zero = m.free_faults_zero;
        unused_zero = m.unused_zero;
        cards_held = m.cards_held;
        faults_held = m.faults_held;
        serial_lengths = m.serial_lengths;
        fault_counts = m.fault_counts;
        last_faults = m.last_faults;
      }

  shape_ok_lem : Sound1 w → shape_ok (shape1 w) ≡ true
  unfolding shape_ok format_ok
  shape_ok_lem m =
      all_of {a = limits_ok (shape1 w)} {b = bounds_ok (shape1 w)}
      (limits_fit_lem (shape1 w) m.limit.0 m.limit.1 m.fault_limit.0 m.fault_limit.1) (bounds_fit (shape1 w) (omega arith) (omega arith) (omega arith) (omega arith))

  are_clauses : Sound1 w → SoundAs (shape1 w) w
  unfolding entries card_width bounds_word rule_word cards_at faults_at length_for cell_at card_word fault_word bucket_cells free_cells history_cells free_fault_cells held_cells filed_cells bytes_in serial_in
  are_clauses m =
      record {
        format_word = m.format;
        limit_word = refl;
        fault_limit_word = refl;
        shape = shape_ok_lem m;
        state = m.state;
        directory_offset = m.offsets.0;
        segments_offset = m.offsets.1;
        cards_offset = m.offsets.2;
        faults_offset = m.offsets.3;
        length_word = m.length_word;
        bounds = m.zeros.0;
        rule = m.zeros.1;
        whole_length = m.whole_length;
        directory_used = m.directory_used;
        directory_unused = m.directory_unused;
        not_over = inr m.not_over;
        not_under = m.not_under;
        bucket_chain = m.bucket_chain;
        free_chain = m.free_chain;
        history_chain = m.history_chain;
        free_fault_chain = m.free_fault_chain;
        card_cells = m.card_cells;
        fault_cells = m.fault_cells;
        addressed = m.addressed;
        different = m.different;
        serials = m.serials;
        faults = m.faults;
        padding = m.padding;
        free_zero = m.free_zero;
        free_faults_zero = m.free_faults_zero;
        unused_zero = m.unused_zero;
        cards_held = m.cards_held;
        faults_held = m.faults_held;
        serial_lengths = m.serial_lengths;
        fault_counts = m.fault_counts;
        last_faults = m.last_faults;
      }

  -- no more than four a bucket, at 256 buckets too
  four_a_bucket : word1 w 0 ≡ 1 → sound w ≡ true → word1 w 5 ≤ 4 * buckets1 w
  unfolding decode_as
  four_a_bucket e ok =
      let h = high_four (decode w) (sound_good w ok).0 (ap (λ (sh : Shape). sh.upper) (shape_told w e)) in
      omega (arith, h, held_at_lem w (decode w) (sound_is w ok).0)

  pub format_one : ((word1 w 0 ≡ 1) × (sound w ≡ true)) ↔ Sound1 w
  format_one = (
    λ (e, ok). clauses_are e (subst (λ (sh : Shape). SoundAs sh w) (shape_told w e) ((sound_means w).0 ok)) (four_a_bucket e ok),
    λ m. (m.format, (sound_means w).1 (subst (λ (sh : Shape). SoundAs sh w) (sym (shape_told w m.format)) (are_clauses m))),
  )
