-- What a plan that goes ahead makes of sound words: the places of the plan are those that the writers ask for (`may_place`, `may_file`,
-- `may_remove`), the header is still that of the words (`read_place`, `read_remove`), and the words that they leave are those of the step's store (`made_enter`, `made_file`, `made_withdraw`). A room for pairs
-- holds those of the card (`show_holds`, `withdraw_holds`), and with them it is that of the step (`show_room`, `withdraw_room`).
use mathlib.Core.Path.{◌≡◌, refl, sym, ap, subst, ◌∙◌}
use mathlib.Core.Logic.{⊎_elim}
use mathlib.Core.Bool.{true}
use mathlib.Core.List.{List, [], ◌∷◌, map}
use Prim.Native.Nat.{ℕ, ◌+◌, ◌*◌, ◌≤◌, ◌<◌}
use native.Mathlib.Omega.{arith}
use lib.Dec.{lit<}
use lib.ListN.{length, take, get_or, set, length-set}
use lib.Seq.{sets, get_or-set_same}
use borrow.Author.Tests.{le-ltb, ne_eqb}
use Rattle.rules.proofs.Tests.{eq?}
use Rattle.model.specs.Shape.{Shape, top_of, card_width}
use Rattle.model.specs.Serial.{valid_serial, valid_fault}
use Rattle.model.specs.Model.{Fault, Card, Store, cards, held, faults_held, chain_for, comparisons, cells_of, split_scan, contract_scan, fault_cells_of, placed, grown, entered, filed, history_in, removed, shrunk, withdrawn}
use Rattle.model.specs.Layout.{held_at, free_at, to_next, to_first, to_last, last, follow, fault_width, cards_at, faults_at, length_for, card_cell, card_word, read_fault, decode, encode, sound}
use Rattle.model.specs.Meaning.{next_fault}
use Rattle.model.specs.Words.{card_at, link_at, new_words, place_words, file_words, remove_words}
use Rattle.model.specs.Calls.{Step, gives, stays, written, enter_step, file_step, show_step, withdraw_step}
use Rattle.model.proofs.Fair.{one, filings, card_count, faults_total, fault_count}
use Rattle.model.proofs.Sums.{length_total}
use Rattle.model.proofs.Rep.{Rep, rep_words, size_top}
use Rattle.model.proofs.Decode.{rep_decode, shape_at}
use Rattle.model.proofs.Readings.{maxp_at_lem, p_at_lem, held_at_lem, faults_held_at_lem, free_at_lem, free_faults_at_lem}
use Rattle.model.proofs.Sound.{sound_is, sound_good}
use Rattle.model.proofs.Look.{look, address_in_lem}
use Rattle.model.proofs.Steps.{removed_total}
use Rattle.model.proofs.Valid.{valid_serial_lem}
use Rattle.model.proofs.Numbers.{enter_numbers, file_numbers, show_numbers, withdraw_numbers}
use Rattle.model.proofs.Shapes.{in_card}
use Rattle.model.proofs.Whole.{taken_in, history_of}
use Rattle.model.proofs.Place.{rep_placed}
use Rattle.model.proofs.File.{rep_filed}
use Rattle.model.proofs.Remove.{rep_removed}
use Rattle.reads.specs.declared.header.Header.{Header}
use Rattle.reads.specs.Cells.{shape_in, Read}
use Rattle.reads.specs.Chains.{faults_from}
use Rattle.store.specs.Plans.{Places, Planned, Holds, Paired}
use Rattle.store.specs.Search.{Finds}
use Rattle.std.proofs.Common.{Some, IsSome, slice_get}
use Rattle.writer.specs.Writes.{MayPlace, MayFile, MayRemove}
use Rattle.store.specs.declared.plans.Plan.{Plan}
use Rattle.store.specs.declared.search.Spot.{Spot}
use Rattle.reads.proofs.AlongLaws.{follow_length, last_inside}
use Rattle.reads.proofs.CellLaws.{sized_same}
use Rattle.reads.proofs.StoredLaws.{Stored, read_store}
use Rattle.store.proofs.FindLaws.{Behind, NotHeld, not_held_lem, IsHeld, is_held, HeldCell, held_cell}
use Rattle.store.proofs.ShowLaws.{faults_long}

-- cells of histories

cells_back : (sh : Shape) (w : List ℕ) (l : List ℕ) → fault_cells_of (map (read_fault sh w) l) ≡ l
unfolding read_fault
cells_back sh w [] = refl
cells_back sh w (i ∷ l) = ap (λ (l : List ℕ). i ∷ l) (cells_back sh w l)

-- a card's history is the chain that its first-fault word leads through, and its last fault stands in a cell of it
module _ {w : List ℕ} {s : Store} {c : Card} {after : List Card} (k : Stored w s c after) where
  history_last : card_word s.shape w c.at to_last ≡ last (follow s.shape.fault_limit (next_fault s.shape w) (card_word s.shape w c.at to_first))
  unfolding faults_from
  history_last =
      let l = follow s.shape.fault_limit (next_fault s.shape w) (card_word s.shape w c.at to_first) in
      k.last_word ∙ ap (λ (h : List Fault). last (fault_cells_of h)) (sym k.history) ∙ ap last (cells_back s.shape w l)

  last_fault : card_word s.shape w c.at to_last ≤ s.shape.fault_limit
  last_fault = let l = follow s.shape.fault_limit (next_fault s.shape w) (card_word s.shape w c.at to_first) in omega (arith, history_last, last_inside s.shape.fault_limit l k.history_ends.inside)

-- the cell before a card or behind a chain is a card's, or 0
prev_inside : {w : List ℕ} {s : Store} {l after : List Card} (prev : ℕ) → ((prev ≡ 0 → ⊥) → Behind w s l after prev) → prev ≤ s.shape.limit
prev_inside prev f = ⊎_elim (λ (z : prev ≡ 0). omega arith) (λ (d : prev ≡ 0 → ⊥). let k = f d in omega (arith, k.cell_is, k.stored.in_limit)) (eq? prev 0)

-- the header is that of other words too, if the store that they stand for has the same shape and state
read_kept : {w v : List ℕ} {h : Header} {s : Store} → Read w h → Rep v s → s.shape ≡ (decode w).shape → s.maxp ≡ (decode w).maxp → s.p ≡ (decode w).p → Read v h
read_kept {w} {v} {h} {s} q t a b c =
    let z = read_store q in
    record {
      sized = sized_same q.sized (t.long ∙ ap length_for (a ∙ z.0) ∙ sym q.sized.long);
      shape = shape_at v s t ∙ a ∙ z.0;
      maxp = maxp_at_lem v s t ∙ b ∙ z.1;
      state = p_at_lem v s t ∙ c ∙ z.2;
    }

-- plans that go ahead

abbrev spot_of : Store → List ℕ → Spot → Spot
spot_of s y o = record { bucket = o.bucket; found = record { cell = o.found.cell; place = comparisons y (chain_for s y); prev = o.found.prev } }

cell_some : (l : List Card) → length l ≡ 1 → IsSome (slice_get (cells_of l) 0)
cell_some [] e = absurd (omega arith)
cell_some (c ∷ l) e = refl

module _ (w : List ℕ) (e : sound w ≡ true) (bytes : List ℕ) (n : ℕ) {o : Spot} where
  -- the places of a plan as those of a search
  finds : Places (decode w) bytes n o → Finds (decode w) (take n bytes) (spot_of (decode w) (take n bytes) o)
  finds q = record { bucket_is = q.bucket_is; cell_is = q.cell_is; place_is = refl; prev_is = q.prev_is }

  spot_none : Places (decode w) bytes n o → look (decode w) (take n bytes) ≡ [] → NotHeld w (decode w) (take n bytes) (spot_of (decode w) (take n bytes) o).found
  spot_none q l = not_held_lem (sound_is w e).0 (take n bytes) (finds q) (q.cell_is ∙ ap (λ (l : List Card). slice_get (cells_of l) 0) l)

  spot_held : Places (decode w) bytes n o → {i : ℕ} → o.found.cell ≡ Some i → IsHeld w (decode w) (take n bytes) (spot_of (decode w) (take n bytes) o).found i
  spot_held q k = is_held (sound_is w e).0 (take n bytes) (finds q) k

  -- a plan for a serial that a card has, has its cell
  pub planned_some : Places (decode w) bytes n o → length (look (decode w) (take n bytes)) ≡ 1 → IsSome o.found.cell
  planned_some q l = rw q.cell_is (cell_some (look (decode w) (take n bytes)) l)

  -- and that cell leads to its history
  pub planned_cell : Places (decode w) bytes n o → {i : ℕ} → o.found.cell ≡ Some i → {h : Header} → Read w h → HeldCell w (take n bytes) h i
  planned_cell q k h = held_cell h (spot_held q k)

  -- a serial's bucket is one of the table
  bucket_top : Places (decode w) bytes n o → {h : Header} → Read w h → o.bucket < h.top
  bucket_top q k =
      let t = (sound_is w e).0.fair in
      omega (arith, q.bucket_is, address_in_lem (decode w) t (take n bytes), t.number, size_top (decode w) t, ap top_of (read_store k).0, k.sized.top)

module _ (w : List ℕ) (e : sound w ≡ true) (bytes : List ℕ) (n : ℕ) {r : Plan} where
  -- Enter
  module _ (p : Planned (enter_step (decode w) bytes n).answer w bytes n r) where
    enter_facts : (valid_serial bytes n ≡ true) × (look (decode w) (take n bytes) ≡ []) × (held (decode w) < (decode w).shape.limit)
    enter_facts = (enter_numbers (decode w) (sound_good w e).0 bytes n).done.0 (sym p.answer.number_is ∙ p.done)

    enter_step_lem : enter_step (decode w) bytes n
        ≡ stays (gives 0 (comparisons (take n bytes) (chain_for (decode w) (take n bytes))) (split_scan (placed (decode w) (take n bytes))) 0) (entered (decode w) (take n bytes)) []
    unfolding enter_step
    enter_step_lem = let (v, l, b) = enter_facts in rw (v, l, ne_eqb (held (decode w)) (decode w).shape.limit (omega arith))

    enter_none : NotHeld w (decode w) (take n bytes) (spot_of (decode w) (take n bytes) r.spot).found
    enter_none = spot_none w e bytes n p.places enter_facts.1

    pub may_place : MayPlace w r.header r.spot.bucket r.spot.found.prev
    may_place =
        let k = p.header in
        let s = decode w in
        let t = (sound_is w e).0 in
        let l = (read_store k).0 in
        let c = ap (λ (sh : Shape). sh.limit) l in
        let some : 0 < length s.free = omega (arith, card_count s, t.fair.cells.count, enter_facts.2) in
        let new = taken_in w (cards_at s.shape) (card_width s.shape) s.shape.limit s.free (map (map card_cell) s.buckets) (in_card s.shape (lit< tt)) some t.fair.cells t.cards in
        record {
          sized = k.sized;
          bucket = bucket_top w e bytes n p.places k;
          behind = omega (arith, prev_inside r.spot.found.prev enter_none.behind, c);
          free = rw (free_at_lem w s t) new.0;
          within = rw (free_at_lem w s t, ← c) new.1;
          held = omega (arith, held_at_lem w s t, enter_facts.2, c);
        }

    -- the words with the new card stand for the store with it, and once grown they are those of the step
    pub rep_place : {v : List ℕ} → v ≡ place_words (shape_in r.header) w r.spot.bucket r.spot.found.prev (take n bytes) → Rep v (placed (decode w) (take n bytes))
    rep_place i =
        let (v, l, b) = enter_facts in
        rw (i, ← (read_store p.header).0, p.places.bucket_is, enter_none.prev_is) (rep_placed w (decode w) (sound_is w e).0 (take n bytes) (valid_serial_lem bytes n v) l b)

    pub read_place : {v : List ℕ} → v ≡ place_words (shape_in r.header) w r.spot.bucket r.spot.found.prev (take n bytes) → Read v r.header
    unfolding placed
    read_place i = read_kept p.header (rep_place i) refl refl refl

    -- and their fifth word counts it
    pub held_place : {v : List ℕ} → v ≡ place_words (shape_in r.header) w r.spot.bucket r.spot.found.prev (take n bytes) → get_or v held_at 0 ≡ get_or w held_at 0 + 1
    unfolding place_words
    held_place {v} i =
        let sh = shape_in r.header in
        let new = get_or w free_at 0 in
        let linked : List ℕ = set (sets (set w free_at (card_word sh w new to_next)) (card_at sh new to_next) (new_words (take n bytes))) (link_at sh r.spot.bucket r.spot.found.prev) new in
        let long : length v ≡ length linked = ap length i ∙ length-set linked held_at (get_or w held_at 0 + 1) in
        ap (λ (l : List ℕ). get_or l held_at 0) i ∙ get_or-set_same linked held_at (get_or w held_at 0 + 1) 0 (omega (arith, long, (read_place i).sized.room))

    pub made_enter : {v u : List ℕ} → v ≡ place_words (shape_in r.header) w r.spot.bucket r.spot.found.prev (take n bytes) → u ≡ encode (grown (decode v)) → u ≡ encode (enter_step (decode w) bytes n).store
    unfolding entered
    made_enter i j = j ∙ ap (λ (s : Store). encode (grown s)) (rep_decode _ _ (rep_place i)) ∙ ap (λ (t : Step). encode t.store) (sym enter_step_lem)

  -- File
  module _ (day code : ℕ) (p : Planned (file_step (decode w) bytes n day code).answer w bytes n r) where
    file_facts : (valid_serial bytes n ≡ true) × (valid_fault day code ≡ true) × (length (look (decode w) (take n bytes)) ≡ 1) × (faults_held (decode w) < (decode w).shape.fault_limit)
    file_facts = (file_numbers (decode w) (sound_good w e).0 bytes n day code).done.0 (sym p.answer.number_is ∙ p.done)

    file_step_lem : file_step (decode w) bytes n day code
        ≡ stays (gives 0 (comparisons (take n bytes) (chain_for (decode w) (take n bytes))) 0 (length (history_in (decode w) (take n bytes)) + 1)) (filed (decode w) (take n bytes) day code) []
    unfolding file_step
    file_step_lem = let (v, u, l, b) = file_facts in rw (v, u, l, ne_eqb (faults_held (decode w)) (decode w).shape.fault_limit (omega arith))

    pub file_some : IsSome r.spot.found.cell
    file_some = planned_some w e bytes n p.places file_facts.2

    module _ {cell : ℕ} (found_in : r.spot.found.cell ≡ Some cell) where
      file_held : IsHeld w (decode w) (take n bytes) (spot_of (decode w) (take n bytes) r.spot).found cell
      file_held = spot_held w e bytes n p.places found_in

      pub may_file : MayFile w r.header cell
      may_file =
          let q = p.header in
          let h = r.header in
          let k = held_cell q file_held in
          let s = decode w in
          let t = (sound_is w e).0 in
          let l = (read_store q).0 in
          let f = ap (λ (sh : Shape). sh.fault_limit) l in
          let some : 0 < length s.free_faults = omega (arith, fault_count s, t.fair.fault_cells.count, file_facts.3) in
          let new = taken_in w (faults_at s.shape) fault_width s.shape.fault_limit s.free_faults (map history_of (cards s)) (lit< tt) some t.fair.fault_cells t.faults in
          record {
            sized = q.sized;
            card = k.from_one;
            inside = k.in_limit;
            free = rw (free_faults_at_lem w s t) new.0;
            within = rw (free_faults_at_lem w s t, ← f) new.1;
            last = rw file_held.cell_is (subst (λ (sh : Shape). card_word sh w file_held.present.card.at to_last ≤ sh.fault_limit) l (last_fault file_held.stored));
            count = omega (arith, k.count_word, ap length k.history, faults_long (shape_in h) w (card_word (shape_in h) w cell to_first), follow_length h.faults (next_fault (shape_in h) w) (card_word (shape_in h) w cell to_first));
            held = omega (arith, faults_held_at_lem w s t, file_facts.3, f);
          }

      pub made_file : {v : List ℕ} → v ≡ file_words (shape_in r.header) w cell day code → v ≡ encode (file_step (decode w) bytes n day code).store
      made_file i =
          let (v, u, l, b) = file_facts in
          rw (i, ← (read_store p.header).0, file_step_lem, file_held.cell_is)
          (rep_words _ (filed (decode w) (take n bytes) day code) (rep_filed w (decode w) (sound_is w e).0 (take n bytes) day code u file_held.present b))

  -- Show
  module _ (room : List ℕ) (p : Planned (show_step (decode w) bytes n room).answer w bytes n r) where
    show_facts : (valid_serial bytes n ≡ true) × (length (look (decode w) (take n bytes)) ≡ 1) × (2 * length (history_in (decode w) (take n bytes)) ≤ length room)
    show_facts = (show_numbers (decode w) bytes n room (sound_good w e).0).done.0 (sym p.answer.number_is ∙ p.done)

    -- the room holds the card's pairs, and with them it is that of the step
    pub show_holds : Holds w r room
    show_holds = record { bytes = bytes; n = n; header = p.header; places = p.places; one = show_facts.1; wide = show_facts.2 }

    pub show_room : {left : List ℕ} → Paired (decode w) r room left → left ≡ (show_step (decode w) bytes n room).room
    unfolding show_step
    show_room k =
        let (v, l, b) = show_facts in
        k.pairs_are bytes n p.places l ∙ rw (v, l, le-ltb (length room) (2 * length (history_in (decode w) (take n bytes))) b)

  -- Withdraw
  module _ (room : List ℕ) (p : Planned (withdraw_step (decode w) bytes n room).answer w bytes n r) where
    withdraw_facts : (valid_serial bytes n ≡ true) × (length (look (decode w) (take n bytes)) ≡ 1) × (2 * length (history_in (decode w) (take n bytes)) ≤ length room)
    withdraw_facts = (withdraw_numbers (decode w) bytes n room (sound_good w e).0).done.0 (sym p.answer.number_is ∙ p.done)

    withdraw_step_lem : withdraw_step (decode w) bytes n room
        ≡ stays (gives 0 (comparisons (take n bytes) (chain_for (decode w) (take n bytes))) (contract_scan (removed (decode w) (take n bytes))) (length (history_in (decode w) (take n bytes))))
        (withdrawn (decode w) (take n bytes)) (written (history_in (decode w) (take n bytes)) room)
    unfolding withdraw_step
    withdraw_step_lem = let (v, l, b) = withdraw_facts in rw (v, l, le-ltb (length room) (2 * length (history_in (decode w) (take n bytes))) b)

    pub withdraw_some : IsSome r.spot.found.cell
    withdraw_some = planned_some w e bytes n p.places withdraw_facts.1

    -- the same of its room
    pub withdraw_holds : Holds w r room
    withdraw_holds = record { bytes = bytes; n = n; header = p.header; places = p.places; one = withdraw_facts.1; wide = withdraw_facts.2 }

    pub withdraw_room : {left : List ℕ} → Paired (decode w) r room left → left ≡ (withdraw_step (decode w) bytes n room).room
    withdraw_room k = k.pairs_are bytes n p.places withdraw_facts.1 ∙ ap (λ (t : Step). t.room) (sym withdraw_step_lem)

    module _ {cell : ℕ} (found_in : r.spot.found.cell ≡ Some cell) where
      withdraw_held : IsHeld w (decode w) (take n bytes) (spot_of (decode w) (take n bytes) r.spot).found cell
      withdraw_held = spot_held w e bytes n p.places found_in

      pub may_remove : MayRemove w r.header r.spot.bucket r.spot.found.prev cell
      may_remove =
          let q = p.header in
          let k = held_cell q withdraw_held in
          let s = decode w in
          let t = (sound_is w e).0 in
          let y = take n bytes in
          let l = (read_store q).0 in
          record {
            sized = q.sized;
            bucket = bucket_top w e bytes n p.places q;
            behind = omega (arith, prev_inside r.spot.found.prev withdraw_held.behind, ap (λ (sh : Shape). sh.limit) l);
            card = k.from_one;
            inside = k.in_limit;
            held = omega (arith, held_at_lem w s t, length_total (cards s), length_total (look s y), removed_total s t.fair y one, withdraw_facts.1);
            filed = omega (arith, faults_held_at_lem w s t, k.count_word, faults_total (cards s), faults_total (look s y), removed_total s t.fair y filings);
            ends = k.history_ends;
            last_is =
                rw withdraw_held.cell_is
                (subst (λ (sh : Shape). card_word sh w withdraw_held.present.card.at to_last ≡ last (follow sh.fault_limit (next_fault sh w) (card_word sh w withdraw_held.present.card.at to_first))) l (history_last withdraw_held.stored));
          }

      -- the words without the card stand for the store without it, and once shrunk they are those of the step
      pub rep_remove : {v : List ℕ} → v ≡ remove_words (shape_in r.header) w r.spot.bucket r.spot.found.prev cell → Rep v (removed (decode w) (take n bytes))
      rep_remove i =
          rw (i, ← (read_store p.header).0, p.places.bucket_is, withdraw_held.prev_is, withdraw_held.cell_is) (rep_removed w (decode w) (sound_is w e).0 (take n bytes) withdraw_held.present)

      pub read_remove : {v : List ℕ} → v ≡ remove_words (shape_in r.header) w r.spot.bucket r.spot.found.prev cell → Read v r.header
      unfolding removed
      read_remove i = read_kept p.header (rep_remove i) refl refl refl

      pub made_withdraw : {v u : List ℕ} → v ≡ remove_words (shape_in r.header) w r.spot.bucket r.spot.found.prev cell → u ≡ encode (shrunk (decode v)) → u ≡ encode (withdraw_step (decode w) bytes n room).store
      unfolding withdrawn
      made_withdraw i j = j ∙ ap (λ (s : Store). encode (shrunk s)) (rep_decode _ _ (rep_remove i)) ∙ ap (λ (t : Step). encode t.store) (sym withdraw_step_lem)
