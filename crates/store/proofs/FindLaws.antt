-- What the search finds in words that stand for a store. A card's key is that of a serial exactly where their bytes are equal (`key_is`), so
-- the search of the serial's bucket finds what the store holds of it (`search_finds`). A caller of `find` goes on by whether the card is
-- held: `not_held_lem` and `is_held` say what is then known of the chain, of the card's cell and of the cell before it.
use mathlib.Core.Path.{◌≡◌, refl, sym, ap, subst, ◌∙◌}
use mathlib.Core.Bool.{true, false}
use mathlib.Core.List.{List, [], ◌∷◌, ◌++◌, map, append_assoc, append-nil}
use Prim.Native.Nat.{ℕ, suc, ◌+◌, ◌≤◌, ◌<◌}
use native.Mathlib.Omega.{arith}
use lib.Dec.{eqb, lit<}
use lib.ListN.{length, get_or, take}
use borrow.Author.Tests.{eqb-true, eq-eqb}
use Rattle.std.proofs.Common.{Option, Some, None, is_some, slice_get}
use Rattle.rules.proofs.Tests.{by_cases, both, all_of, not_both}
use Rattle.rules.specs.Code.{code_of}
use Rattle.rules.specs.Table.{address_of}
use Rattle.model.specs.Lists.{all, same}
use Rattle.model.specs.Shape.{Shape, top_of, card_width}
use Rattle.model.specs.Serial.{serial_ok, valid_serial}
use Rattle.model.specs.Model.{Card, Store, bucket, address_in, chain_for, is, found, before, comparisons, cells_of, histories, history_in}
use Rattle.model.specs.Layout.{to_length, to_serial, to_first, to_count, head_or, chained, segments_at, cards_at, last, packed, card_cell, card_word, good_card, sound, decode_as, decode}
use Rattle.model.specs.Meaning.{next_card, next_fault}
use Rattle.model.proofs.Lists.{same_refl, same_eq, length_none, Every}
use Rattle.model.proofs.Chains.{Stands, Stand}
use Rattle.model.proofs.Part.{cell_in}
use Rattle.model.proofs.Serials.{serial_read}
use Rattle.model.proofs.Rep.{Rep, size_top}
use Rattle.model.proofs.Sound.{sound_is}
use Rattle.model.proofs.Look.{look_once, address_in_lem}
use Rattle.model.proofs.Cut.{Absent, Present, absent, present}
use Rattle.model.proofs.Shapes.{in_card}
use Rattle.model.proofs.Valid.{valid_serial_lem}
use Rattle.reads.specs.declared.header.Header.{Header}
use Rattle.reads.specs.Cells.{shape_in, Read, packed_all}
use Rattle.reads.specs.Chains.{Ends, has_key, faults_from}
use Rattle.store.specs.Search.{search_in, searched, Finds}
use Rattle.store.specs.declared.search.Found.{Found}
use Rattle.store.specs.declared.search.Spot.{Spot}
use Rattle.reads.proofs.SerialLaws.{valid_length, valid_packed}
use Rattle.reads.proofs.AlongLaws.{last_after_none}
use Rattle.store.proofs.SearchLaws.{search_none, search_hit, search_on}
use Rattle.reads.proofs.StoredLaws.{Stored, stored, bucket_ends, bucket_cells_lem, bucket_stand, read_store}

-- serials by their keys

-- of two serials with the same length and the same four words
same_words : (y z : List ℕ) → serial_ok y ≡ true → serial_ok z ≡ true → length z ≡ length y → packed z 0 ≡ packed y 0 → packed z 4 ≡ packed y 4
    → packed z 8 ≡ packed y 8 → packed z 12 ≡ packed y 12 → y ≡ z
same_words y z v u l a b c d =
    sym (serial_read (length z) (packed z 0) (packed z 4) (packed z 8) (packed z 12) y v l a b c d)
    ∙ serial_read (length z) (packed z 0) (packed z 4) (packed z 8) (packed z 12) z u refl refl refl refl refl

module _ (bytes : List ℕ) (n : ℕ) (v : valid_serial bytes n ≡ true) where
  module _ (sh : Shape) (w : List ℕ) where
    pub key_is : (c : Card) (t : ℕ) → serial_ok c.serial ≡ true
        → Stands (cell_in w (cards_at sh) (card_width sh)) (card_width sh) (record { at = c.at; words = t ∷ (card_cell c).words }) → has_key sh w c.at n (packed_all bytes) ≡ is (take n bytes) c
    unfolding has_key card_word card_cell
    key_is c t u q =
        by_cases (is (take n bytes) c)
        (λ k. let e = sym (same_eq (take n bytes) c.serial k) in
        all_of (eq-eqb _ _ (q to_length (in_card sh (lit< tt)) ∙ ap length e ∙ valid_length bytes n v))
        (all_of (eq-eqb _ _ (q to_serial (in_card sh (lit< tt)) ∙ ap (λ (l : List ℕ). packed l 0) e ∙ valid_packed bytes n v 0))
        (all_of (eq-eqb _ _ (q (to_serial + 1) (in_card sh (lit< tt)) ∙ ap (λ (l : List ℕ). packed l 4) e ∙ valid_packed bytes n v 4))
        (all_of (eq-eqb _ _ (q (to_serial + 2) (in_card sh (lit< tt)) ∙ ap (λ (l : List ℕ). packed l 8) e ∙ valid_packed bytes n v 8))
        (all_of (eq-eqb _ _ (q (to_serial + 3) (in_card sh (lit< tt)) ∙ ap (λ (l : List ℕ). packed l 12) e ∙ valid_packed bytes n v 12)) refl))))
        ∙ sym k)
        (λ k. by_cases (has_key sh w c.at n (packed_all bytes)) (λ e. absurd (differ k e)) (λ e. e ∙ sym k))
      where
        differ : is (take n bytes) c ≡ false → has_key sh w c.at n (packed_all bytes) ≡ true → ⊥
        differ k e =
            let a = both (eqb (card_word sh w c.at to_length) n) _ e in
            let b = both (eqb (card_word sh w c.at to_serial) (packed bytes 0)) _ a.1 in
            let d = both (eqb (card_word sh w c.at (to_serial + 1)) (packed bytes 4)) _ b.1 in
            let f = both (eqb (card_word sh w c.at (to_serial + 2)) (packed bytes 8)) _ d.1 in
            let g = both (eqb (card_word sh w c.at (to_serial + 3)) (packed bytes 12)) _ f.1 in
            let z =
            same_words (take n bytes) c.serial (valid_serial_lem bytes n v) u
            (sym (q to_length (in_card sh (lit< tt))) ∙ eqb-true _ _ a.0 ∙ sym (valid_length bytes n v))
            (sym (q to_serial (in_card sh (lit< tt))) ∙ eqb-true _ _ b.0 ∙ sym (valid_packed bytes n v 0))
            (sym (q (to_serial + 1) (in_card sh (lit< tt))) ∙ eqb-true _ _ d.0 ∙ sym (valid_packed bytes n v 4))
            (sym (q (to_serial + 2) (in_card sh (lit< tt))) ∙ eqb-true _ _ f.0 ∙ sym (valid_packed bytes n v 8))
            (sym (q (to_serial + 3) (in_card sh (lit< tt))) ∙ eqb-true _ _ g.0 ∙ sym (valid_packed bytes n v 12)) in
            not_both (ap (same (take n bytes)) (sym z) ∙ same_refl (take n bytes)) k

    -- so of each card of a bucket
    keys_are : (m p b : ℕ) (cs : List Card) → all (good_card m p b) cs ≡ true → Stand (cell_in w (cards_at sh) (card_width sh)) (card_width sh) (chained 0 (map card_cell cs))
        → Every (λ c. has_key sh w c.at n (packed_all bytes) ≡ is (take n bytes) c) cs
    unfolding good_card card_cell
    keys_are m p b [] g q = tt
    keys_are m p b (c ∷ cs) g q =
        let h = both (good_card m p b c) (all (good_card m p b) cs) g in
        (key_is c (head_or 0 (map card_cell cs)) (both (serial_ok c.serial) _ h.0).0 q.0, keys_are m p b cs h.1 q.1)

-- the search of cards of which at most one has the serial
search_is : (sh : Shape) (w y key : List ℕ) (len : ℕ) (cs : List Card) (n prev : ℕ) → Every (λ c. has_key sh w c.at len key ≡ is y c) cs → length (found y cs) ≤ 1
    → search_in sh w len key (cells_of cs) n prev
    ≡ record { cell = slice_get (cells_of (found y cs)) 0; place = n + comparisons y cs; prev = last (prev ∷ cells_of (before y cs)) }
unfolding comparisons last
search_is sh w y key len [] n prev k h =
    search_none sh w len key n prev ∙ (let e : n ≡ n + 0 = omega arith in λ i. record { cell = None; place = e i; prev = prev })
search_is sh w y key len (c ∷ cs) n prev k h =
    by_cases (is y c)
    (λ e. let z = length_none (found y cs) (omega (arith, rw e at h)) in
    search_hit sh w len key c.at n prev (k.0 ∙ e) (cells_of cs) ∙ rw (e, z))
    (λ e. let g : n + 1 + (length (before y cs) + length (found y cs)) ≡ n + (suc (length (before y cs)) + length (found y cs)) = omega arith in
    search_on sh w len key c.at n prev (k.0 ∙ e) (cells_of cs) ∙ search_is sh w y key len cs (n + 1) c.at k.1 (rw e at h) ∙ rw (e, g))

-- what a search of the serial's bucket finds is what the store holds
pub search_finds : {w : List ℕ} {s : Store} → Rep w s → (bytes : List ℕ) (n : ℕ) → valid_serial bytes n ≡ true → (b : ℕ) (r : Found) → b ≡ address_in s (take n bytes)
    → r ≡ searched s.shape w (get_or w (segments_at s.shape + b) 0) n (packed_all bytes)
    → Finds s (take n bytes) (record { bucket = b; found = r })
unfolding searched
search_finds {w} {s} r bytes n v b o eb eo =
    let y = take n bytes in
    let chain = chain_for s y in
    let f =
    eo ∙ ap (λ (b : ℕ). searched s.shape w (get_or w (segments_at s.shape + b) 0) n (packed_all bytes)) eb
    ∙ ap (λ (l : List ℕ). search_in s.shape w n (packed_all bytes) l 0 0) (bucket_cells_lem r (address_in s y) (address_in_lem s r.fair y))
    ∙ search_is s.shape w y (packed_all bytes) n chain 0 0 (keys_are bytes n v s.shape w s.maxp s.p (address_in s y) chain (r.fair.addressed (address_in s y)) (bucket_stand r (address_in s y))) (look_once s r.fair y) in
    record {
      bucket_is = eb;
      place_is = ap (λ (o : Found). o.place) f ∙ omega arith;
      cell_is = ap (λ (o : Found). o.cell) f;
      prev_is = ap (λ (o : Found). o.prev) f ∙ last_after_none (cells_of (before y chain));
    }

-- the last of some cards, in a chain before some others: where prev is its cell, these cards end with it
pub record Behind (w : List ℕ) (s : Store) (l after : List Card) (prev : ℕ) : Type 0 where
  pub front : List Card
  pub card : Card
  pub parts : l ≡ front ++ (card ∷ [])
  pub cell_is : prev ≡ card.at
  pub stored : Stored w s card after

last_card : (c : Card) (cs : List Card) → (front : List Card) × (z : Card) × (c ∷ cs ≡ front ++ (z ∷ [])) × (last (cells_of (c ∷ cs)) ≡ z.at)
unfolding last
last_card c [] = ([], c, refl, refl)
last_card c (d ∷ l) = let (front, z, e, a) = last_card d l in (c ∷ front, z, ap (λ (l : List Card). c ∷ l) e, a)

module _ {w : List ℕ} {s : Store} (r : Rep w s) (b : ℕ) (h : b < length s.buckets) (after : List Card) where
  ends_with : (c : Card) (cs : List Card) → bucket s b ≡ (c ∷ cs) ++ after → Behind w s (c ∷ cs) after (last (cells_of (c ∷ cs)))
  ends_with c cs e =
      let (front, z, p, a) = last_card c cs in
      record { front = front; card = z; parts = p; cell_is = a; stored = stored r b h front z after (e ∙ ap (λ (l : List Card). l ++ after) p ∙ append_assoc front (z ∷ []) after) }

  prev_none : (l : List Card) → bucket s b ≡ l ++ after → last (cells_of l) ≡ 0 → l ≡ []
  prev_none [] e z = refl
  prev_none (c ∷ cs) e z = let k = ends_with c cs e in absurd (omega (arith, k.stored.from_one, k.cell_is))

  prev_some : (l : List Card) → bucket s b ≡ l ++ after → (last (cells_of l) ≡ 0 → ⊥) → Behind w s l after (last (cells_of l))
  unfolding last
  prev_some [] e n = absurd (n refl)
  prev_some (c ∷ cs) e n = ends_with c cs e

-- no card of the chain has the serial
pub record NotHeld (w : List ℕ) (s : Store) (y : List ℕ) (o : Found) : Type 0 where
  pub absent : Absent y (chain_for s y)
  pub place_is : o.place ≡ length (chain_for s y)
  pub prev_is : o.prev ≡ last (cells_of (chain_for s y))
  -- the chain is empty, or the last card is that of prev
  pub none_before : o.prev ≡ 0 → chain_for s y ≡ []
  pub behind : (o.prev ≡ 0 → ⊥) → Behind w s (chain_for s y) [] o.prev

-- one card of the chain has it, and stands in cell i
pub record IsHeld (w : List ℕ) (s : Store) (y : List ℕ) (o : Found) (i : ℕ) : Type 0 where
  pub present : Present y (chain_for s y)
  pub place_is : o.place ≡ length (before y (chain_for s y)) + 1
  pub cell_is : i ≡ present.card.at
  pub prev_is : o.prev ≡ last (cells_of (before y (chain_for s y)))
  pub stored : Stored w s present.card present.after
  pub history_is : history_in s y ≡ present.card.faults
  -- the card is the chain's first, or the one before it is that of prev
  pub none_before : o.prev ≡ 0 → before y (chain_for s y) ≡ []
  pub behind : (o.prev ≡ 0 → ⊥) → Behind w s (before y (chain_for s y)) (present.card ∷ present.after) o.prev

-- a cell, if it was found
pub cell_none : (o : Option ℕ) → is_some o ≡ false → o ≡ None
cell_none None e = refl
cell_none (Some i) e = cc

pub cell_some : (o : Option ℕ) → is_some o ≡ true → (i : ℕ) × (o ≡ Some i)
cell_some None e = cc
cell_some (Some i) e = (i, refl)

-- the first of some cells tells whether there is one
held_none : (l : List Card) → slice_get (cells_of l) 0 ≡ None → l ≡ []
held_none [] e = refl
held_none (c ∷ l) e = cc

held_some : (l : List Card) {i : ℕ} → slice_get (cells_of l) 0 ≡ Some i → 0 < length l
held_some [] e = cc
held_some (c ∷ l) e = omega arith

module _ {w : List ℕ} {s : Store} (r : Rep w s) (y : List ℕ) {o : Spot} (f : Finds s y o) where
  at_home : address_in s y < length s.buckets
  at_home = address_in_lem s r.fair y

  pub not_held_lem : o.found.cell ≡ None → NotHeld w s y o.found
  not_held_lem e =
      let a = absent y (chain_for s y) (held_none (found y (chain_for s y)) (sym f.cell_is ∙ e)) in
      let p = f.prev_is ∙ ap (λ (l : List Card). last (cells_of l)) a.whole in
      record {
        absent = a;
        place_is = f.place_is ∙ a.place;
        prev_is = p;
        none_before = λ z. prev_none r (address_in s y) at_home [] (chain_for s y) (sym (append-nil (chain_for s y))) (sym p ∙ z);
        behind = λ n. subst (Behind w s (chain_for s y) []) (sym p) (prev_some r (address_in s y) at_home [] (chain_for s y) (sym (append-nil (chain_for s y))) (λ z. n (p ∙ z)));
      }

  pub is_held : {i : ℕ} → o.found.cell ≡ Some i → IsHeld w s y o.found i
  is_held {i} e =
      let a = present y (chain_for s y) (omega (arith, look_once s r.fair y, held_some (found y (chain_for s y)) (sym f.cell_is ∙ e))) in
      let only : slice_get (cells_of (found y (chain_for s y))) 0 ≡ Some a.card.at = ap (λ (l : List Card). slice_get (cells_of l) 0) a.only in
      let l = before y (chain_for s y) in
      let after = a.card ∷ a.after in
      record {
        present = a;
        place_is = f.place_is ∙ a.place;
        cell_is = cc (e, f.cell_is, only);
        prev_is = f.prev_is;
        stored = stored r (address_in s y) at_home l a.card a.after a.parts;
        history_is = ap histories a.only ∙ append-nil a.card.faults;
        none_before = λ z. prev_none r (address_in s y) at_home after l a.parts (sym f.prev_is ∙ z);
        behind = λ n. subst (Behind w s l after) (sym f.prev_is) (prev_some r (address_in s y) at_home after l a.parts (λ z. n (f.prev_is ∙ z)));
      }

-- sound words, with their header read: the serial's bucket, its chain, and what is found there
module _ (w : List ℕ) (e : sound w ≡ true) {h : Header} (r : Read w h) (bytes : List ℕ) (n : ℕ) where
  pub sound_home : {code b : ℕ} → code ≡ code_of (take n bytes) → b ≡ address_of code h.maxp h.p → b ≡ address_in (decode w) (take n bytes)
  unfolding decode_as
  sound_home ec eb = eb ∙ (λ i. address_of (ec i) (sym r.maxp i) (sym r.state i))

  module _ {b : ℕ} (at : b ≡ address_in (decode w) (take n bytes)) where
    below : b < length (decode w).buckets
    below = subst (λ (b : ℕ). b < length (decode w).buckets) (sym at) (address_in_lem (decode w) (sound_is w e).0.fair (take n bytes))

    pub home_below : b < h.top
    home_below = omega (arith, below, (sound_is w e).0.fair.number, size_top (decode w) (sound_is w e).0.fair, ap top_of (read_store r).0, r.sized.top)

    pub home_ends : Ends h.cards (next_card (shape_in h) w) (get_or w (segments_at (shape_in h) + b) 0)
    home_ends = subst (λ (sh : Shape). Ends sh.limit (next_card sh w) (get_or w (segments_at sh + b) 0)) (read_store r).0 (bucket_ends (sound_is w e).0 b below)

    pub home_finds : valid_serial bytes n ≡ true → (o : Found) → o ≡ searched (shape_in h) w (get_or w (segments_at (shape_in h) + b) 0) n (packed_all bytes)
        → Finds (decode w) (take n bytes) (record { bucket = b; found = o })
    home_finds v o er =
        search_finds (sound_is w e).0 bytes n v b o at (er ∙ ap (λ (sh : Shape). searched sh w (get_or w (segments_at sh + b) 0) n (packed_all bytes)) (sym (read_store r).0))

-- the cell of a card that is held, and the history that its words lead to, by the header that the code read
pub record HeldCell (w : List ℕ) (y : List ℕ) (h : Header) (i : ℕ) : Type 0 where
  pub from_one : 1 ≤ i
  pub in_limit : i ≤ h.cards
  pub count_word : card_word (shape_in h) w i to_count ≡ length (history_in (decode w) y)
  pub history : faults_from (shape_in h) w (card_word (shape_in h) w i to_first) ≡ history_in (decode w) y
  pub history_ends : Ends h.faults (next_fault (shape_in h) w) (card_word (shape_in h) w i to_first)

pub held_cell : {w : List ℕ} {h : Header} {y : List ℕ} {o : Found} {i : ℕ} → Read w h → IsHeld w (decode w) y o i → HeldCell w y h i
held_cell {w} r k =
    let l = (read_store r).0 in
    record {
      from_one = rw k.cell_is k.stored.from_one;
      in_limit = rw k.cell_is (subst (λ (sh : Shape). k.present.card.at ≤ sh.limit) l k.stored.in_limit);
      count_word = rw (k.cell_is, k.history_is, ← l) k.stored.count_word;
      history = rw (k.cell_is, ← l, k.history_is) k.stored.history;
      history_ends = rw k.cell_is (subst (λ (sh : Shape). Ends sh.fault_limit (next_fault sh w) (card_word sh w k.present.card.at to_first)) l k.stored.history_ends);
    }
