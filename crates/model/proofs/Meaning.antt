-- What soundness means (`sound_means`): words are sound exactly where each clause of document 01 holds of them. One way, the words stand
-- for the store read from them, so each word and chain is what the layout makes of that store (`rep_means`). The other way, the chains
-- that lead to 0 and the words of each cell on them make what is read there stand, so the words stand for that store (`means_rep`). For
-- code that tests one chain at a time, `apart_in_buckets` says that no serial stands twice, and `filed_by_cell` that the histories may be
-- walked through from card cell to card cell, the free ones too.
use mathlib.Core.Path.{◌≡◌, refl, sym, ap, ◌∙◌, subst}
use mathlib.Core.Logic.{inl, inr, ⊎_elim, ◌↔◌}
use mathlib.Core.List.{List, [], ◌∷◌, ◌++◌, map, map-map}
use mathlib.Core.Bool.{Bool, true, cond}
use Prim.Native.Nat.{ℕ, zero, suc, ◌+◌, ◌-◌, ◌*◌, ◌≤◌, ◌<◌}
use native.Mathlib.Nat.{zero-add}
use native.Mathlib.Omega.{arith}
use lib.Dec.{eqb, ltb, lit<}
use lib.ListN.{length, get_or, take, drop, length-append, length-map, length-drop, get_or-append, get_or-map, get_or-eq_default}
use lib.Seq.{get_or-append-add, take-add, ext_get_or, length-take-le, get_or-take, get_or-drop, drop-drop}
use borrow.Author.Tests.{eq-eqb, eqb-true, lt-ltb, le-ltb}
use Rattle.rules.specs.Code.{code_of}
use Rattle.rules.specs.Table.{least, address_of}
use Rattle.rules.proofs.Tests.{both, all_of, eq?, lt?}
use Rattle.model.specs.Lists.{all, same, join, from, total}
use Rattle.model.specs.Serial.{serial_ok, valid_fault}
use Rattle.model.specs.Shape.{Shape, segment_size, entries, top_of, card_width}
use Rattle.model.specs.Model.{Card, cards, histories, held, faults_held, bucket, fault_cells_of}
use Rattle.model.specs.Layout.{format_at, limit_at, fault_limit_at, maxp_at, p_at, held_at, faults_held_at, free_at, free_faults_at, directory_offset_at, segments_offset_at, cards_offset_at, faults_offset_at, whole_length_at, bounds_at, rule_at, to_length, to_serial, to_first, to_last, to_count, to_day, to_code, Cell, head_or, chained, fault_width, directory_at, segments_at, card_cell, fault_cell, free_cell, card_chains, fault_chains, cards_at, faults_at, length_for, header, directory, segments, front, first, last, packed, follow, card_word, fault_word, read_fault, read_card, read_chain, shape_of, decode_as, decode, good_card, load_ok, sound}
use Rattle.model.specs.Meaning.{In, ExactlyOnce, Leads, buckets_in, bucket_word, next_card, next_fault, bucket_cells, free_cells, history_cells, free_fault_cells, held_cells, filed_cells, bytes_in, serial_in, SoundAs, Sound}
use Rattle.model.proofs.Lists.{same_refl, same_is, Every, every_at, at_every, every_map, map_every, map_append}
use Rattle.model.proofs.Tables.{length_table, table_at, table_from, take_table}
use Rattle.model.proofs.Sums.{bit, count, total_append, total_map, total_flat}
use Rattle.model.proofs.Each.{many}
use Rattle.model.proofs.Chains.{Stand, follow_none}
use Rattle.model.proofs.Part.{cell_in, Held}
use Rattle.model.proofs.Serials.{serial_padded, words_back}
use Rattle.model.proofs.Shapes.{width_most, in_card}
use Rattle.model.proofs.Fair.{Fair, in_cell, fault_in, named, card_cells, card_count, fault_cells, fault_count, load_is, is_load, size_least}
use Rattle.model.proofs.Rep.{Rep, rep_front, rep_head, directory_length, size_top, segments_length}
use Rattle.model.proofs.Decode.{head_faults, head_free, segments_from, segment_at, segment_past}
use Rattle.model.proofs.Sound.{is_sound, sound_is}
use Rattle.model.proofs.Walks.{every_in, in_every, every_all, all_every, in_one, one_in, Reads, led_stand, stand_led, reads_zero, zero_reads, total_members, total_apart, each_once_lem, once_le, once_each, led_first, once_total}

-- the store that is read from words

module _ (sh : Shape) (w : List ℕ) where
  faults_read : (l : List ℕ) → fault_cells_of (map (read_fault sh w) l) ≡ l
  unfolding read_fault
  faults_read [] = refl
  faults_read (x ∷ l) = ap (λ (l : List ℕ). x ∷ l) (faults_read l)

  cards_read : cards (decode_as sh w) ≡ map (read_card sh w) (held_cells sh w)
  unfolding decode_as read_chain bucket_cells held_cells
  cards_read = go (from 0 (buckets_in w))
    where
      go : (l : List ℕ) → join (map (read_chain sh w) l) ≡ map (read_card sh w) (join (map (bucket_cells sh w) l))
      go [] = refl
      go (b ∷ l) = ap (λ (cs : List Card). read_chain sh w b ++ cs) (go l) ∙ sym (map_append (read_card sh w) (bucket_cells sh w b) (join (map (bucket_cells sh w) l)))

  bucket_read : (b : ℕ) → b < buckets_in w → bucket (decode_as sh w) b ≡ map (read_card sh w) (bucket_cells sh w b)
  unfolding decode_as read_chain bucket_cells
  bucket_read b h = table_at (read_chain sh w) 0 (buckets_in w) [] b h ∙ ap (read_chain sh w) (zero-add b)

  -- a card's cell stands in one of the buckets
  pub held_in : (b i : ℕ) → b < buckets_in w → In i (bucket_cells sh w b) → In i (held_cells sh w)
  unfolding held_cells
  held_in b i h p = in_one (bucket_cells sh w) (buckets_in w) b i h p

  in_bucket : (i : ℕ) → In i (held_cells sh w) → (b : ℕ) × (b < buckets_in w) × In i (bucket_cells sh w b)
  unfolding held_cells
  in_bucket i p = one_in (bucket_cells sh w) (buckets_in w) i p

  -- what is counted

  held_read : held (decode_as sh w) ≡ length (held_cells sh w)
  held_read = ap length cards_read ∙ length-map (held_cells sh w) (read_card sh w)

  filed_read : faults_held (decode_as sh w) ≡ length (filed_cells sh w)
  unfolding filed_cells read_card history_cells
  filed_read = ap (λ (cs : List Card). length (histories cs)) cards_read ∙ go (held_cells sh w)
    where
      go : (l : List ℕ) → length (histories (map (read_card sh w) l)) ≡ length (join (map (history_cells sh w) l))
      go [] = refl
      go (i ∷ l) =
          length-append (map (read_fault sh w) (history_cells sh w i)) (histories (map (read_card sh w) l))
          ∙ omega (arith, length-map (history_cells sh w i) (read_fault sh w), go l, length-append (history_cells sh w i) (join (map (history_cells sh w) l)))

  cells_read : (x : ℕ) → many x (join (card_chains (decode_as sh w))) ≡ count x (free_cells sh w ++ held_cells sh w)
  unfolding decode_as read_card free_cells
  cells_read x =
      card_cells (decode_as sh w) x
      ∙ omega (
        arith,
        ap (total (in_cell x)) cards_read,
        total_map (in_cell x) (read_card sh w) (held_cells sh w),
        total_append (λ (y : ℕ). bit (eqb x y)) (free_cells sh w) (held_cells sh w),
      )

  fault_cells_read : (x : ℕ) → many x (join (fault_chains (decode_as sh w))) ≡ count x (free_fault_cells sh w ++ filed_cells sh w)
  unfolding decode_as read_card free_fault_cells filed_cells history_cells
  fault_cells_read x =
      fault_cells (decode_as sh w) x
      ∙ omega (
        arith,
        ap (total (fault_in x)) cards_read,
        go (held_cells sh w),
        total_append (λ (y : ℕ). bit (eqb x y)) (free_fault_cells sh w) (filed_cells sh w),
      )
    where
      go : (l : List ℕ) → total (fault_in x) (map (read_card sh w) l) ≡ count x (join (map (history_cells sh w) l))
      go [] = refl
      go (i ∷ l) =
          omega (
            arith,
            ap (count x) (faults_read (history_cells sh w i)),
            go l,
            total_append (λ (y : ℕ). bit (eqb x y)) (history_cells sh w i) (join (map (history_cells sh w) l)),
          )

  -- the cells of a bucket's chain, of a history, and of the chains past the last bucket

  abbrev cell_of : ℕ → Cell
  cell_of i = card_cell (read_card sh w i)

  abbrev fault_of : ℕ → Cell
  fault_of k = fault_cell (read_fault sh w k)

  bucket_cells_lem : (b : ℕ) → b < buckets_in w → map card_cell (bucket (decode_as sh w) b) ≡ map cell_of (bucket_cells sh w b)
  bucket_cells_lem b h = ap (map card_cell) (bucket_read b h) ∙ map-map card_cell (read_card sh w) (bucket_cells sh w b)

  chain_cells : (b : ℕ) → b < buckets_in w → get_or (card_chains (decode_as sh w)) (suc b) [] ≡ map cell_of (bucket_cells sh w b)
  chain_cells b h = get_or-map (map card_cell) (decode_as sh w).buckets b [] ∙ bucket_cells_lem b h

  past_cells : (b : ℕ) → buckets_in w ≤ b → get_or (card_chains (decode_as sh w)) (suc b) [] ≡ []
  unfolding decode_as
  past_cells b h =
      get_or-eq_default (map (map card_cell) (decode_as sh w).buckets) [] {n = b}
      (omega (arith, length-map (decode_as sh w).buckets (map card_cell), length_table (read_chain sh w) 0 (buckets_in w)))

  history_cells_lem : (i : ℕ) → map fault_cell (read_card sh w i).faults ≡ map fault_of (history_cells sh w i)
  unfolding read_card history_cells
  history_cells_lem i = map-map fault_cell (read_fault sh w) (history_cells sh w i)

-- words that stand for the store read from them have every clause

module _ (sh : Shape) (w : List ℕ) (r : Rep w (decode_as sh w)) where
  free_led : Leads (next_card sh w) (get_or w free_at 0) (free_cells sh w) × Every (Reads (card_word sh w) (card_width sh) (free_cell (card_width sh))) (free_cells sh w)
  unfolding decode_as card_word free_cells front header cards_at free_cell
  free_led =
      let q = stand_led (card_word sh w) (card_width sh) (free_cell (card_width sh)) (λ i. refl) (in_card sh (lit< tt)) (free_cells sh w) (r.cards 0) in
      (subst (λ (h : ℕ). Leads (next_card sh w) h (free_cells sh w)) (sym (rep_head r free_at (lit< tt) ∙ head_free (card_width sh) (free_cells sh w))) q.0, q.1)

  free_faults_led : Leads (next_fault sh w) (get_or w free_faults_at 0) (free_fault_cells sh w) × Every (Reads (fault_word sh w) fault_width (free_cell fault_width)) (free_fault_cells sh w)
  unfolding decode_as fault_word free_fault_cells front header cards_at free_cell
  free_faults_led =
      let q = stand_led (fault_word sh w) fault_width (free_cell fault_width) (λ i. refl) (lit< tt) (free_fault_cells sh w) (r.faults 0) in
      (subst (λ (h : ℕ). Leads (next_fault sh w) h (free_fault_cells sh w)) (sym (rep_head r free_faults_at (lit< tt) ∙ head_free fault_width (free_fault_cells sh w))) q.0, q.1)

  buckets_top : buckets_in w ≤ top_of sh
  unfolding decode_as
  buckets_top = size_top (decode_as sh w) r.fair

  bucket_head : (b : ℕ) → b < buckets_in w → bucket_word sh w b ≡ head_or 0 (map (cell_of sh w) (bucket_cells sh w b))
  unfolding decode_as cards_at
  bucket_head b h =
      rep_front r (segments_at sh + b) (omega (arith, buckets_top))
      ∙ segment_at (decode_as sh w) b (omega (arith, r.fair.number)) ∙ ap (head_or 0) (bucket_cells_lem sh w b h)

  bucket_led : (b : ℕ) → b < buckets_in w → Leads (next_card sh w) (bucket_word sh w b) (bucket_cells sh w b) × Every (Reads (card_word sh w) (card_width sh) (cell_of sh w)) (bucket_cells sh w b)
  unfolding decode_as card_word card_cell read_card
  bucket_led b h =
      let q = stand_led (card_word sh w) (card_width sh) (cell_of sh w) (λ i. refl) (in_card sh (lit< tt)) (bucket_cells sh w b)
      (subst (λ (l : List Cell). Stand (cell_in w (cards_at sh) (card_width sh)) (card_width sh) (chained 0 l)) (chain_cells sh w b h) (r.cards (suc b))) in
      (subst (λ (h : ℕ). Leads (next_card sh w) h (bucket_cells sh w b)) (sym (bucket_head b h)) q.0, q.1)

  held_words : (i : ℕ) → In i (held_cells sh w) → Reads (card_word sh w) (card_width sh) (cell_of sh w) i
  held_words i p =
      let q = in_bucket sh w i p in
      every_in (Reads (card_word sh w) (card_width sh) (cell_of sh w)) (bucket_cells sh w q.0) (bucket_led q.0 q.1).1 i q.2

  -- the words of a card

  serial_length : (i : ℕ) → In i (held_cells sh w) → card_word sh w i to_length ≡ length (serial_in sh w i)
  unfolding card_cell read_card serial_in bytes_in
  serial_length i p = held_words i p (to_length - 1) (in_card sh (lit< tt))

  first_fault : (i : ℕ) → In i (held_cells sh w) → card_word sh w i to_first ≡ head_or 0 (map (fault_of sh w) (history_cells sh w i))
  unfolding card_cell
  first_fault i p = held_words i p (to_first - 1) (in_card sh (lit< tt)) ∙ head_faults (read_card sh w i).faults ∙ ap (head_or 0) (history_cells_lem sh w i)

  last_fault : (i : ℕ) → In i (held_cells sh w) → card_word sh w i to_last ≡ last (history_cells sh w i)
  unfolding card_cell read_card history_cells
  last_fault i p = held_words i p (to_last - 1) (in_card sh (lit< tt)) ∙ ap last (faults_read sh w (history_cells sh w i))

  fault_count_at : (i : ℕ) → In i (held_cells sh w) → card_word sh w i to_count ≡ length (history_cells sh w i)
  unfolding card_cell read_card history_cells
  fault_count_at i p = held_words i p (to_count - 1) (in_card sh (lit< tt)) ∙ ap length (faults_read sh w (history_cells sh w i))

  history_led : (i : ℕ) → In i (held_cells sh w) → Leads (next_fault sh w) (card_word sh w i to_first) (history_cells sh w i)
  unfolding decode_as fault_word fault_cell read_fault
  history_led i p =
      let P : List Cell → Type 0 = λ ch. Stand (cell_in w (faults_at sh) fault_width) fault_width (chained 0 ch) in
      let g : Card → List Cell = λ c. map fault_cell c.faults in
      let all : Every (λ c. P (g c)) (cards (decode_as sh w)) = every_map P g (cards (decode_as sh w)) (at_every P (map g (cards (decode_as sh w))) [] (λ j. r.faults (suc j))) in
      let here : P (g (read_card sh w i)) =
      every_in (λ i. P (g (read_card sh w i))) (held_cells sh w) (every_map (λ c. P (g c)) (read_card sh w) (held_cells sh w) (subst (Every (λ c. P (g c))) (cards_read sh w) all)) i p in
      subst (λ (h : ℕ). Leads (next_fault sh w) h (history_cells sh w i)) (sym (first_fault i p))
      (stand_led (fault_word sh w) fault_width (fault_of sh w) (λ k. refl) (lit< tt) (history_cells sh w i) (subst P (history_cells_lem sh w i) here)).0

  -- what is tested of a card

  good_read : (b i : ℕ) → b < buckets_in w → In i (bucket_cells sh w b) → good_card (get_or w maxp_at 0) (get_or w p_at 0) b (read_card sh w i) ≡ true
  unfolding decode_as
  good_read b i h p =
      let f = good_card (get_or w maxp_at 0) (get_or w p_at 0) b in
      every_in (λ i. f (read_card sh w i) ≡ true) (bucket_cells sh w b)
      (every_map (λ c. f c ≡ true) (read_card sh w) (bucket_cells sh w b) (all_every f (map (read_card sh w) (bucket_cells sh w b)) (rw (bucket_read sh w b h) at (r.fair.addressed b)))) i p

  module _ (b i : ℕ) (h : b < buckets_in w) (p : In i (bucket_cells sh w b)) where
    good_parts : (serial_ok (serial_in sh w i) ≡ true) × (eqb (address_of (code_of (serial_in sh w i)) (get_or w maxp_at 0) (get_or w p_at 0)) b ≡ true) × (all (λ f. valid_fault f.day f.code) (read_card sh w i).faults ≡ true)
    unfolding good_card read_card serial_in bytes_in
    good_parts =
        let g = both (serial_ok (serial_in sh w i)) _ (good_read b i h p) in
        let a = both (eqb (address_of (code_of (serial_in sh w i)) (get_or w maxp_at 0) (get_or w p_at 0)) b) _ g.1 in
        (g.0, a.0, a.1)

    faults_valid : (k : ℕ) → In k (history_cells sh w i) → valid_fault (fault_word sh w k to_day) (fault_word sh w k to_code) ≡ true
    unfolding read_card history_cells read_fault
    faults_valid k q =
        every_in (λ k. valid_fault (fault_word sh w k to_day) (fault_word sh w k to_code) ≡ true) (history_cells sh w i)
        (every_map (λ f. valid_fault f.day f.code ≡ true) (read_fault sh w) (history_cells sh w i) (all_every (λ f. valid_fault f.day f.code) (read_card sh w i).faults good_parts.2)) k q

    padded_zero : all (eqb 0) (drop (card_word sh w i to_length) (bytes_in sh w i)) ≡ true
    unfolding card_cell read_card serial_in bytes_in
    padded_zero =
        let at = held_words i (held_in sh w b i h p) in
        serial_padded _ _ _ _ _ (serial_in sh w i) good_parts.0 (at (to_length - 1) (in_card sh (lit< tt))) (at (to_serial - 1) (in_card sh (lit< tt))) (at (to_serial + 1 - 1) (in_card sh (lit< tt))) (at (to_serial + 2 - 1) (in_card sh (lit< tt))) (at (to_serial + 3 - 1) (in_card sh (lit< tt)))

  apart : (i j : ℕ) → In i (held_cells sh w) → In j (held_cells sh w) → serial_in sh w i ≡ serial_in sh w j → i ≡ j
  unfolding read_card serial_in bytes_in
  apart i j p q e =
      let y = serial_in sh w i in
      let f : ℕ → ℕ = λ i. named y (read_card sh w i) in
      let t : total f (held_cells sh w) ≤ 1 =
      omega (arith, ap (total (named y)) (cards_read sh w), total_map (named y) (read_card sh w) (held_cells sh w), r.fair.different y) in
      ⊎_elim (λ (d : i ≡ j). d)
      (λ (d : i ≡ j → ⊥). absurd (omega (arith, total_members f (held_cells sh w) i j p q d, ap bit (same_refl y), ap bit ((same_is y (serial_in sh w j)).1 e)))) (eq? i j)

  -- the front

  directory_entry : (k : ℕ) → k < entries sh → get_or w (directory_at + k) 0 ≡ cond (ltb (segment_size * k) (buckets_in w)) (segments_at sh + segment_size * k) 0
  unfolding decode_as front header directory cards_at
  directory_entry k h =
      let s = decode_as sh w in
      let f : ℕ → ℕ = λ k. cond (ltb (segment_size * k) (buckets_in w)) (segments_at sh + segment_size * k) 0 in
      rep_front r (directory_at + k) (omega arith)
      ∙ get_or-append-add (header s) (directory s ++ segments s) k 0
      ∙ get_or-append (directory s) (segments s) 0 k (omega (arith, directory_length s))
      ∙ table_at f 0 (entries sh) 0 k h ∙ ap f (zero-add k)

  word_past : (b : ℕ) → buckets_in w ≤ b → b < top_of sh → bucket_word sh w b ≡ 0
  unfolding decode_as cards_at
  word_past b h t = rep_front r (segments_at sh + b) (omega arith) ∙ segment_past (decode_as sh w) b r.fair h t

  pub rep_means : load_ok (decode_as sh w) ≡ true → SoundAs sh w
  unfolding decode_as front header cards_at
  rep_means e =
      let n = rep_head r held_at (lit< tt) in
      let l = load_is (decode_as sh w) r.fair e in
      record {
        format_word = rep_head r format_at (lit< tt);
        limit_word = rep_head r limit_at (lit< tt);
        fault_limit_word = rep_head r fault_limit_at (lit< tt);
        shape = r.fair.shape;
        state = r.fair.state;
        directory_offset = rep_head r directory_offset_at (lit< tt);
        segments_offset = rep_head r segments_offset_at (lit< tt);
        cards_offset = rep_head r cards_offset_at (lit< tt);
        faults_offset = rep_head r faults_offset_at (lit< tt);
        length_word = rep_head r whole_length_at (lit< tt);
        bounds = rep_head r bounds_at (lit< tt);
        rule = rep_head r rule_at (lit< tt);
        whole_length = r.long;
        directory_used = λ k h u. directory_entry k h ∙ rw (lt-ltb (segment_size * k) (buckets_in w) u);
        directory_unused = λ k h u. directory_entry k h ∙ rw (le-ltb (segment_size * k) (buckets_in w) u);
        not_over = ⊎_elim (λ (h : buckets_in w < top_of sh). inr (omega (arith, n, l.0 h))) (λ (h : top_of sh ≤ buckets_in w). inl (omega (arith, buckets_top))) (lt? (buckets_in w) (top_of sh));
        not_under = ⊎_elim (λ (h : least < buckets_in w). inr (omega (arith, n, l.1 h))) (λ (h : buckets_in w ≤ least). inl (omega (arith, size_least (decode_as sh w) r.fair))) (lt? least (buckets_in w));
        bucket_chain = λ b h. (bucket_led b h).0;
        free_chain = free_led.0;
        history_chain = history_led;
        free_fault_chain = free_faults_led.0;
        card_cells = each_once_lem sh.limit (join (card_chains (decode_as sh w))) (free_cells sh w ++ held_cells sh w) (cells_read sh w) r.fair.cells;
        fault_cells = each_once_lem sh.fault_limit (join (fault_chains (decode_as sh w))) (free_fault_cells sh w ++ filed_cells sh w) (fault_cells_read sh w) r.fair.fault_cells;
        addressed = λ b i h p. eqb-true _ b (good_parts b i h p).1;
        different = apart;
        serials = λ i p. let q = in_bucket sh w i p in (good_parts q.0 i q.1 q.2).0;
        faults = λ i k p. let q = in_bucket sh w i p in faults_valid q.0 i q.1 q.2 k;
        padding = λ i p. let q = in_bucket sh w i p in padded_zero q.0 i q.1 q.2;
        free_zero = λ i k p. reads_zero (card_word sh w) (card_width sh) i (every_in (Reads (card_word sh w) (card_width sh) (free_cell (card_width sh))) (free_cells sh w) free_led.1 i p) k;
        free_faults_zero = λ i k p. reads_zero (fault_word sh w) fault_width i (every_in (Reads (fault_word sh w) fault_width (free_cell fault_width)) (free_fault_cells sh w) free_faults_led.1 i p) k;
        unused_zero = word_past;
        cards_held = n ∙ held_read sh w;
        faults_held = rep_head r faults_held_at (lit< tt) ∙ filed_read sh w;
        serial_lengths = serial_length;
        fault_counts = fault_count_at;
        last_faults = last_fault;
      }

-- and words with every clause stand for the store read from them

module _ (sh : Shape) (w : List ℕ) (m : SoundAs sh w) where
  card_reads : (i : ℕ) → In i (held_cells sh w) → Reads (card_word sh w) (card_width sh) (cell_of sh w) i
  unfolding card_cell read_card serial_in bytes_in history_cells
  card_reads i p = at
    where
      b : (packed (serial_in sh w i) 0 ≡ card_word sh w i to_serial) × (packed (serial_in sh w i) 4 ≡ card_word sh w i (to_serial + 1)) × (packed (serial_in sh w i) 8 ≡ card_word sh w i (to_serial + 2)) × (packed (serial_in sh w i) 12 ≡ card_word sh w i (to_serial + 3))
      b = words_back (card_word sh w i to_length) (card_word sh w i to_serial) (card_word sh w i (to_serial + 1)) (card_word sh w i (to_serial + 2)) (card_word sh w i (to_serial + 3)) (m.padding i p)

      h : history_cells sh w i ≡ fault_cells_of (map (read_fault sh w) (history_cells sh w i))
      h = sym (faults_read sh w (history_cells sh w i))

      at : (k : ℕ) → suc k < card_width sh → card_word sh w i (suc k) ≡ get_or (cell_of sh w i).words k 0
      at zero l = m.serial_lengths i p
      at (suc zero) l = sym b.0
      at (suc (suc zero)) l = sym b.1
      at (suc (suc (suc zero))) l = sym b.2
      at (suc (suc (suc (suc zero)))) l = sym b.3
      at (suc (suc (suc (suc (suc zero))))) l = led_first (next_fault sh w) (card_word sh w i to_first) (history_cells sh w i) (m.history_chain i p) ∙ ap first h
      at (suc (suc (suc (suc (suc (suc zero)))))) l = m.last_faults i p ∙ ap last h
      at (suc (suc (suc (suc (suc (suc (suc zero))))))) l = m.fault_counts i p ∙ ap length h
      at (suc (suc (suc (suc (suc (suc (suc (suc k)))))))) l = absurd (omega (arith, width_most sh))

  card_good : (b i : ℕ) → b < buckets_in w → In i (bucket_cells sh w b) → good_card (get_or w maxp_at 0) (get_or w p_at 0) b (read_card sh w i) ≡ true
  unfolding good_card read_card serial_in bytes_in history_cells read_fault
  card_good b i h p =
      let q = held_in sh w b i h p in
      all_of (m.serials i q)
      (all_of (eq-eqb (address_of (code_of (serial_in sh w i)) (get_or w maxp_at 0) (get_or w p_at 0)) b (m.addressed b i h p))
      (every_all (λ f. valid_fault f.day f.code) (map (read_fault sh w) (history_cells sh w i))
      (map_every (λ f. valid_fault f.day f.code ≡ true) (read_fault sh w) (history_cells sh w i)
      (in_every (λ k. valid_fault (fault_word sh w k to_day) (fault_word sh w k to_code) ≡ true) (history_cells sh w i) (λ k. m.faults i k q)))))

  all_good : (b : ℕ) → all (good_card (get_or w maxp_at 0) (get_or w p_at 0) b) (bucket (decode_as sh w) b) ≡ true
  unfolding decode_as
  all_good b =
      let f = good_card (get_or w maxp_at 0) (get_or w p_at 0) b in
      ⊎_elim (λ (h : b < buckets_in w). rw (bucket_read sh w b h)
      (every_all f (map (read_card sh w) (bucket_cells sh w b)) (map_every (λ c. f c ≡ true) (read_card sh w) (bucket_cells sh w b) (in_every (λ i. f (read_card sh w i) ≡ true) (bucket_cells sh w b) (λ i. card_good b i h)))))
      (λ (h : buckets_in w ≤ b). rw (get_or-eq_default (decode_as sh w).buckets [] {n = b} (omega (arith, length_table (read_chain sh w) 0 (buckets_in w))))) (lt? b (buckets_in w))

  one_serial : (y : List ℕ) → total (named y) (cards (decode_as sh w)) ≤ 1
  unfolding read_card serial_in bytes_in
  one_serial y =
      let f : ℕ → Bool = λ i. same y (serial_in sh w i) in
      let o : (i : ℕ) → count i (held_cells sh w) ≤ 1 =
      λ i. omega (arith, total_append (λ (x : ℕ). bit (eqb i x)) (free_cells sh w) (held_cells sh w), once_le sh.limit (free_cells sh w ++ held_cells sh w) m.card_cells i) in
      omega (
        arith,
        ap (total (named y)) (cards_read sh w),
        total_map (named y) (read_card sh w) (held_cells sh w),
        total_apart f (held_cells sh w) o (λ i j p q d e. m.different i j p q (sym ((same_is y (serial_in sh w i)).0 d) ∙ (same_is y (serial_in sh w j)).0 e)),
      )

  fair_read : Fair (decode_as sh w)
  unfolding decode_as free_cells free_fault_cells
  fair_read = record {
    shape = m.shape;
    state = m.state;
    number = length_table (read_chain sh w) 0 (buckets_in w);
    cells = once_each sh.limit (join (card_chains (decode_as sh w))) (free_cells sh w ++ held_cells sh w) (cells_read sh w)
        (card_count (decode_as sh w) ∙ omega (arith, held_read sh w, length-append (free_cells sh w) (held_cells sh w))) m.card_cells;
    fault_cells = once_each sh.fault_limit (join (fault_chains (decode_as sh w))) (free_fault_cells sh w ++ filed_cells sh w) (fault_cells_read sh w)
        (fault_count (decode_as sh w) ∙ omega (arith, filed_read sh w, length-append (free_fault_cells sh w) (filed_cells sh w))) m.fault_cells;
    addressed = all_good;
    different = one_serial;
  }

  -- the chains

  cards_held : Held w (cards_at sh) (card_width sh) (card_chains (decode_as sh w))
  unfolding decode_as card_word free_cells free_cell card_cell read_card
  cards_held zero =
      (led_stand (card_word sh w) (card_width sh) (free_cell (card_width sh)) (λ i. refl) (get_or w free_at 0) (free_cells sh w) m.free_chain
      (in_every (Reads (card_word sh w) (card_width sh) (free_cell (card_width sh))) (free_cells sh w) (λ i p. zero_reads (card_word sh w) (card_width sh) i (λ k. m.free_zero i k p)))).0
  cards_held (suc b) =
      ⊎_elim (λ (h : b < buckets_in w). subst (λ (l : List Cell). Stand (cell_in w (cards_at sh) (card_width sh)) (card_width sh) (chained 0 l)) (sym (chain_cells sh w b h))
      (led_stand (card_word sh w) (card_width sh) (cell_of sh w) (λ i. refl) (bucket_word sh w b) (bucket_cells sh w b) (m.bucket_chain b h)
      (in_every (Reads (card_word sh w) (card_width sh) (cell_of sh w)) (bucket_cells sh w b) (λ i p. card_reads i (held_in sh w b i h p)))).0)
      (λ (h : buckets_in w ≤ b). subst (λ (l : List Cell). Stand (cell_in w (cards_at sh) (card_width sh)) (card_width sh) (chained 0 l)) (sym (past_cells sh w b h)) tt) (lt? b (buckets_in w))

  reads_fault : (k : ℕ) → Reads (fault_word sh w) fault_width (fault_of sh w) k
  unfolding fault_cell read_fault
  reads_fault k zero l = refl
  reads_fault k (suc zero) l = refl
  reads_fault k (suc (suc j)) l = absurd (omega arith)

  faults_held_lem : Held w (faults_at sh) fault_width (fault_chains (decode_as sh w))
  unfolding decode_as fault_word free_fault_cells free_cell fault_cell read_fault
  faults_held_lem zero =
      (led_stand (fault_word sh w) fault_width (free_cell fault_width) (λ i. refl) (get_or w free_faults_at 0) (free_fault_cells sh w) m.free_fault_chain
      (in_every (Reads (fault_word sh w) fault_width (free_cell fault_width)) (free_fault_cells sh w) (λ i p. zero_reads (fault_word sh w) fault_width i (λ k. m.free_faults_zero i k p)))).0
  faults_held_lem (suc j) =
      let P : List Cell → Type 0 = λ ch. Stand (cell_in w (faults_at sh) fault_width) fault_width (chained 0 ch) in
      let g : Card → List Cell = λ c. map fault_cell c.faults in
      every_at P (map g (cards (decode_as sh w))) [] tt
      (map_every P g (cards (decode_as sh w))
      (subst (Every (λ c. P (g c))) (sym (cards_read sh w))
      (map_every (λ c. P (g c)) (read_card sh w) (held_cells sh w)
      (in_every (λ i. P (g (read_card sh w i))) (held_cells sh w) (λ i p. subst P (sym (history_cells_lem sh w i))
      (led_stand (fault_word sh w) fault_width (fault_of sh w) (λ k. refl) (card_word sh w i to_first) (history_cells sh w i) (m.history_chain i p)
      (in_every (Reads (fault_word sh w) fault_width (fault_of sh w)) (history_cells sh w i) (λ k q. reads_fault k))).0))))) j

  -- the front

  header_read : take directory_at w ≡ header (decode_as sh w)
  unfolding decode_as header length_for faults_at cards_at free_cells free_fault_cells
  header_read =
      let e₅ = m.cards_held ∙ sym (held_read sh w) in
      let e₆ = m.faults_held ∙ sym (filed_read sh w) in
      let e₇ = led_first (next_card sh w) (get_or w free_at 0) (free_cells sh w) m.free_chain in
      let e₈ = led_first (next_fault sh w) (get_or w free_faults_at 0) (free_fault_cells sh w) m.free_fault_chain in
      sym (take_table 0 directory_at 0 w (omega (arith, m.whole_length)))
      ∙ (λ t. m.format_word t ∷ m.limit_word t ∷ m.fault_limit_word t ∷ get_or w maxp_at 0 ∷ get_or w p_at 0 ∷ e₅ t ∷ e₆ t ∷ e₇ t ∷ e₈ t
      ∷ m.directory_offset t ∷ m.segments_offset t ∷ m.cards_offset t ∷ m.faults_offset t ∷ m.length_word t ∷ m.bounds t ∷ m.rule t ∷ [])

  directory_read : take (entries sh) (drop directory_at w) ≡ directory (decode_as sh w)
  unfolding decode_as directory length_for faults_at cards_at
  directory_read =
      let f : ℕ → ℕ = λ k. cond (ltb (segment_size * k) (buckets_in w)) (segments_at sh + segment_size * k) 0 in
      let at : (k : ℕ) → k < entries sh → get_or w (directory_at + k) 0 ≡ f k = λ k h.
      ⊎_elim (λ (u : segment_size * k < buckets_in w). m.directory_used k h u ∙ rw (lt-ltb (segment_size * k) (buckets_in w) u))
      (λ (u : buckets_in w ≤ segment_size * k). m.directory_unused k h u ∙ rw (le-ltb (segment_size * k) (buckets_in w) u)) (lt? (segment_size * k) (buckets_in w)) in
      sym (take_table directory_at (entries sh) 0 w (omega (arith, m.whole_length)))
      ∙ table_from (λ i. get_or w i 0) directory_at (entries sh) 0 (directory (decode_as sh w)) (length_table f 0 (entries sh))
      (λ k h. at k h ∙ sym (table_at f 0 (entries sh) 0 k h ∙ ap f (zero-add k)))

  segment_word : (b : ℕ) → b < top_of sh → bucket_word sh w b ≡ get_or (segments (decode_as sh w)) b 0
  unfolding decode_as card_cell read_card
  segment_word b t =
      ⊎_elim (λ (h : b < buckets_in w).
      (led_stand (card_word sh w) (card_width sh) (cell_of sh w) (λ i. refl) (bucket_word sh w b) (bucket_cells sh w b) (m.bucket_chain b h)
      (in_every (Reads (card_word sh w) (card_width sh) (cell_of sh w)) (bucket_cells sh w b) (λ i p. card_reads i (held_in sh w b i h p)))).1
      ∙ sym (segment_at (decode_as sh w) b (omega (arith, length_table (read_chain sh w) 0 (buckets_in w))) ∙ ap (head_or 0) (bucket_cells_lem sh w b h)))
      (λ (h : buckets_in w ≤ b). m.unused_zero b h t ∙ sym (segment_past (decode_as sh w) b fair_read h t)) (lt? b (buckets_in w))
      ∙ segments_from (decode_as sh w) b

  segments_read : take (top_of sh) (drop (segments_at sh) w) ≡ segments (decode_as sh w)
  unfolding decode_as length_for faults_at cards_at
  segments_read =
      let l = length-take-le (top_of sh) (drop (segments_at sh) w) (omega (arith, length-drop (segments_at sh) w, m.whole_length)) in
      ext_get_or 0 (take (top_of sh) (drop (segments_at sh) w)) (segments (decode_as sh w)) (l ∙ sym (segments_length (decode_as sh w) fair_read))
      (λ b h. let t : b < top_of sh = omega arith in
      get_or-take (top_of sh) (drop (segments_at sh) w) b 0 t ∙ get_or-drop (segments_at sh) w b 0 ∙ segment_word b t)

  front_read : take (cards_at sh) w ≡ front (decode_as sh w)
  unfolding front cards_at
  front_read =
      ap (λ (n : ℕ). take n w) (let e : directory_at + entries sh + top_of sh ≡ directory_at + (entries sh + top_of sh) = omega arith in e)
      ∙ take-add directory_at (entries sh + top_of sh) w
      ∙ (λ t. header_read t ++ (take-add (entries sh) (top_of sh) (drop directory_at w)
      ∙ (λ t. directory_read t ++ (ap (take (top_of sh)) (drop-drop (entries sh) directory_at w) ∙ segments_read) t)) t)

  load_read : load_ok (decode_as sh w) ≡ true
  unfolding decode_as
  load_read =
      let n = m.cards_held ∙ sym (held_read sh w) in
      is_load (decode_as sh w) (record {
        fair = fair_read;
        high = λ l. ⊎_elim (λ (e : buckets_in w ≡ top_of sh). absurd (omega arith)) (λ (e : get_or w held_at 0 ≤ sh.upper * buckets_in w). omega arith) m.not_over;
        low = λ l. ⊎_elim (λ (e : buckets_in w ≡ least). absurd (omega arith)) (λ (e : sh.lower * buckets_in w ≤ get_or w held_at 0). omega arith) m.not_under;
      })

  pub means_rep : Rep w (decode_as sh w)
  unfolding decode_as
  means_rep = record { fair = fair_read; long = m.whole_length; front = front_read; cards = cards_held; faults = faults_held_lem }

pub sound_means : (w : List ℕ) → (sound w ≡ true) ↔ Sound w
sound_means w = (λ e. let h = sound_is w e in rep_means (shape_of w) w h.0 h.1, λ m. is_sound w (decode w) (means_rep (shape_of w) w m) (load_read (shape_of w) w m))

-- a serial that stands twice stands twice in one bucket: equal serials have equal addresses
pub apart_in_buckets : (sh : Shape) (w : List ℕ)
    → ((b i : ℕ) → b < buckets_in w → In i (bucket_cells sh w b) → address_of (code_of (serial_in sh w i)) (get_or w maxp_at 0) (get_or w p_at 0) ≡ b)
    → ((b i j : ℕ) → b < buckets_in w → In i (bucket_cells sh w b) → In j (bucket_cells sh w b) → serial_in sh w i ≡ serial_in sh w j → i ≡ j)
    → (i j : ℕ) → In i (held_cells sh w) → In j (held_cells sh w) → serial_in sh w i ≡ serial_in sh w j → i ≡ j
apart_in_buckets sh w addressed one i j p q e =
    let (a, k, x) = in_bucket sh w i p in
    let (b, l, y) = in_bucket sh w j q in
    let d : b ≡ a = sym (addressed b j l y) ∙ ap (λ (s : List ℕ). address_of (code_of s) (get_or w maxp_at 0) (get_or w p_at 0)) (sym e) ∙ addressed a i k x in
    one a i j k x (subst (λ (c : ℕ). In j (bucket_cells sh w c)) d y) e

-- the histories of all card cells are those of the cards: a free cell has none
pub filed_by_cell : (sh : Shape) (w : List ℕ) → ExactlyOnce sh.limit (free_cells sh w ++ held_cells sh w) → ((i : ℕ) → In i (free_cells sh w) → card_word sh w i to_first ≡ 0)
    → (f : ℕ → ℕ) → total f (join (map (history_cells sh w) (from 1 sh.limit))) ≡ total f (filed_cells sh w)
unfolding filed_cells history_cells follow
filed_by_cell sh w r z f =
    let g : ℕ → ℕ = λ i. total f (history_cells sh w i) in
    omega (
      arith,
      total_flat f (history_cells sh w) (from 1 sh.limit),
      once_total sh.limit (free_cells sh w ++ held_cells sh w) r g,
      total_append g (free_cells sh w) (held_cells sh w),
      none (free_cells sh w) (in_every (λ i. card_word sh w i to_first ≡ 0) (free_cells sh w) z),
      total_flat f (history_cells sh w) (held_cells sh w),
    )
  where
    none : (l : List ℕ) → Every (λ i. card_word sh w i to_first ≡ 0) l → total (λ i. total f (history_cells sh w i)) l ≡ 0
    none [] e = refl
    none (i ∷ l) e = omega (arith, ap (total f) (follow_none sh.fault_limit (next_fault sh w) (card_word sh w i to_first) e.0), none l e.1)
