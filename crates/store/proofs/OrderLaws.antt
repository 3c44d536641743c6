-- The cards of a store one after another. Card n stands in a bucket, among the cards before it and behind it (`Standing`, by `standing`); what comes
-- behind it are the cards left of its bucket, and then those of the buckets behind (`head_in`). In sound words a bucket's word, and a card's
-- next word, is the first cell of the cards there or 0, so the code finds the next place: by `from_stop`, `from_on` and `from_end` in the buckets from one
-- on, by `next_some` and `next_none` behind a card. A reader of the cards in order takes `card_here`: the card of a place, its cell, and its
-- history; and `held_few` and `faults_held_few` for the counts.
use mathlib.Core.Path.{◌≡◌, refl, sym, ap, subst, ◌∙◌}
use mathlib.Core.Bool.{true}
use mathlib.Core.List.{List, [], ◌∷◌, ◌++◌, map, append_assoc}
use Prim.Native.Nat.{ℕ, zero, suc, ◌+◌, ◌≤◌, ◌<◌}
use native.Mathlib.Numerals.{add-one}
use native.Mathlib.Omega.{arith}
use lib.ListN.{length, get_or, drop, drop_of_length-le, length-append, length-map}
use Rattle.std.proofs.Common.{Option, Some, None, slice_get, ⊎_elim}
use Rattle.std.proofs.lemmas.Option.{slice_get-get_or, slice_get_past}
use lib.Seq.{drop-cons}
use Rattle.rules.proofs.Tests.{lt?}
use Rattle.model.specs.Lists.{join}
use Rattle.model.specs.Bounds.{cards_ever}
use Rattle.model.specs.Shape.{Shape, faults_ever}
use Rattle.model.specs.Model.{Card, Store, cards, held, faults_held, bucket, cells_of}
use Rattle.model.specs.Layout.{to_next, to_first, first, card_word, decode, sound}
use Rattle.model.specs.Meaning.{next_fault, bucket_word}
use Rattle.model.proofs.Rep.{Rep}
use Rattle.model.proofs.Readings.{bucket_at, next_at}
use Rattle.model.proofs.Sound.{sound_is, sound_good}
use Rattle.model.proofs.Cases.{cards_fit, faults_fit}
use Rattle.model.proofs.Shapes.{few_cards, few_faults}
use Rattle.reads.specs.declared.header.Header.{Header}
use Rattle.store.specs.declared.order.At.{At}
use Rattle.reads.specs.Cells.{shape_in, Read}
use Rattle.reads.specs.Chains.{Ends, faults_from}
use Rattle.store.specs.Order.{place_in, places_from, place_of, head_from}
use Rattle.reads.proofs.StoredLaws.{stored, read_store}

-- places in lists of cards

-- the first place of some cards of bucket b and then of some buckets
abbrev head_in : ℕ → List Card → List (List Card) → Option At
head_in b cs bs = slice_get (map (place_in b) cs ++ places_from (suc b) bs) 0

-- card n of some buckets, the first of which is bucket b: list j of them, which is bucket a, has it, with the cards before it and behind it, and
-- what comes behind it in all
record Located (b : ℕ) (bs : List (List Card)) (n : ℕ) : Type 0 where
  pub j : ℕ
  pub a : ℕ
  pub card : Card
  pub front : List Card
  pub after : List Card
  pub inside : j < length bs
  pub bucket_is : a ≡ b + j
  pub parts : get_or bs j [] ≡ front ++ (card ∷ after)
  pub here : slice_get (places_from b bs) n ≡ Some (place_in a card)
  pub card_is : drop n (join bs) ≡ card ∷ drop (suc n) (join bs)
  pub behind : slice_get (places_from b bs) (suc n) ≡ head_in a after (drop (suc j) bs)

-- a card more before the first bucket's cards
more : (b : ℕ) (c : Card) (cs : List Card) (bs : List (List Card)) (n : ℕ) → Located b (cs ∷ bs) n → Located b ((c ∷ cs) ∷ bs) (suc n)
unfolding places_from
more b c cs bs n l = go l.j l.front l.inside l.bucket_is l.parts l.behind
  where
    go : (j : ℕ) (front : List Card) → j < length (cs ∷ bs) → l.a ≡ b + j → get_or (cs ∷ bs) j [] ≡ front ++ (l.card ∷ l.after)
        → slice_get (places_from b (cs ∷ bs)) (suc n) ≡ head_in l.a l.after (drop (suc j) (cs ∷ bs)) → Located b ((c ∷ cs) ∷ bs) (suc n)
    go zero front i e p k =
        record { j = zero; a = l.a; card = l.card; front = c ∷ front; after = l.after; inside = i; bucket_is = e; parts = ap (λ (l : List Card). c ∷ l) p; here = l.here; card_is = l.card_is; behind = k }
    go (suc j) front i e p k =
        record { j = suc j; a = l.a; card = l.card; front = front; after = l.after; inside = i; bucket_is = e; parts = p; here = l.here; card_is = l.card_is; behind = k }

-- an empty bucket more before the buckets
skip : (b : ℕ) (bs : List (List Card)) (n : ℕ) → Located (suc b) bs n → Located b ([] ∷ bs) n
unfolding places_from
skip b bs n l =
    record {
      j = suc l.j;
      a = l.a;
      card = l.card;
      front = l.front;
      after = l.after;
      inside = omega (arith, l.inside);
      bucket_is = omega (arith, l.bucket_is);
      parts = l.parts;
      here = l.here;
      card_is = l.card_is;
      behind = l.behind;
    }

-- so each card is located
locate : (b : ℕ) (bs : List (List Card)) (n : ℕ) → n < length (join bs) → Located b bs n
unfolding places_from
locate b [] n h = absurd (omega arith)
locate b (cs ∷ bs) n h = go cs n h (λ n h. locate (suc b) bs n h)
  where
    go : (cs : List Card) (n : ℕ) → n < length (cs ++ join bs) → ((n : ℕ) → n < length (join bs) → Located (suc b) bs n) → Located b (cs ∷ bs) n
    go [] n h rec = skip b bs n (rec n h)
    go (c ∷ cs) zero h rec =
        record { j = 0; a = b; card = c; front = []; after = cs; inside = omega arith; bucket_is = omega arith; parts = refl; here = refl; card_is = refl; behind = refl }
    go (c ∷ cs) (suc n) h rec = more b c cs bs n (go cs n (omega arith) rec)

-- places in a store

-- card n of a store stands at a place
record Standing (s : Store) (n : ℕ) (at : At) : Type 0 where
  pub card : Card
  pub front : List Card
  pub after : List Card
  pub inside : at.bucket < length s.buckets
  pub parts : bucket s at.bucket ≡ front ++ (card ∷ after)
  pub cell_is : at.cell ≡ card.at
  pub card_is : drop n (cards s) ≡ card ∷ drop (suc n) (cards s)
  pub behind : place_of s (suc n) ≡ head_in at.bucket after (drop (suc at.bucket) s.buckets)

standing : (s : Store) (n : ℕ) → n < held s → (at : At) → place_of s n ≡ Some at → Standing s n at
unfolding place_of
standing s n h at p =
    let l = locate 0 s.buckets n h in
    let e : at ≡ place_in l.a l.card = cc (p, l.here) in
    let a : at.bucket ≡ l.a = ap (λ (a : At). a.bucket) e in
    let b : at.bucket ≡ l.j = omega (arith, a, l.bucket_is) in
    record {
      card = l.card;
      front = l.front;
      after = l.after;
      inside = omega (arith, b, l.inside);
      parts = ap (bucket s) b ∙ l.parts;
      cell_is = ap (λ (a : At). a.cell) e;
      card_is = l.card_is;
      behind = l.behind ∙ (λ t. head_in (sym a t) l.after (drop (suc (sym b t)) s.buckets));
    }

head_from_lem : (s : Store) (b : ℕ) → b < length s.buckets → head_from s b ≡ head_in b (bucket s b) (drop (suc b) s.buckets)
unfolding head_from places_from
head_from_lem s b h = ap (λ (bs : List (List Card)). slice_get (places_from b bs) 0) (drop-cons s.buckets b [] h)

pub first_place : (s : Store) → head_from s 0 ≡ place_of s 0
unfolding head_from place_of
first_place s = refl

-- of some cards the first one's place; of none, that of the buckets behind
head_some : (b : ℕ) (cs : List Card) (bs : List (List Card)) {x : ℕ} → x ≡ first (cells_of cs) → (x ≡ 0 → ⊥) → Some (record { bucket = b; cell = x }) ≡ head_in b cs bs
head_some b [] bs e n = absurd (n e)
head_some b (c ∷ cs) bs e n = ap (λ (x : ℕ). Some (record { bucket = b; cell = x })) e

module _ {w : List ℕ} {s : Store} (r : Rep w s) (b : ℕ) (h : b < length s.buckets) where
  -- no card stands in cell 0
  cards_none : (front after : List Card) → bucket s b ≡ front ++ after → first (cells_of after) ≡ 0 → after ≡ []
  cards_none front [] e z = refl
  cards_none front (c ∷ after) e z = absurd (omega (arith, (stored r b h front c after e).from_one))

  head_none : (front after : List Card) → bucket s b ≡ front ++ after → first (cells_of after) ≡ 0 → head_from s (b + 1) ≡ head_in b after (drop (suc b) s.buckets)
  unfolding head_from
  head_none front after e z = rw (cards_none front after e z, add-one b)

-- the words of a store

-- the card of a place, its cell, and the history that its words lead to, by the header that the code read
pub record CardHere (w : List ℕ) (h : Header) (n : ℕ) (at : At) : Type 0 where
  pub card : Card
  pub next : drop n (cards (decode w)) ≡ card ∷ drop (suc n) (cards (decode w))
  pub from_one : 1 ≤ at.cell
  pub in_limit : at.cell ≤ h.cards
  pub history : faults_from (shape_in h) w (card_word (shape_in h) w at.cell to_first) ≡ card.faults
  pub history_ends : Ends h.faults (next_fault (shape_in h) w) (card_word (shape_in h) w at.cell to_first)

pub card_here : (w : List ℕ) → sound w ≡ true → {h : Header} → Read w h → (n : ℕ) → n < held (decode w) → (at : At) → place_of (decode w) n ≡ Some at → CardHere w h n at
card_here w e {h} q n l at p =
    let k = standing (decode w) n l at p in
    let c = stored (sound_is w e).0 at.bucket k.inside k.front k.card k.after k.parts in
    let sh = (read_store q).0 in
    record {
      card = k.card;
      next = k.card_is;
      from_one = omega (arith, k.cell_is, c.from_one);
      in_limit = omega (arith, k.cell_is, c.in_limit, ap (λ (sh : Shape). sh.limit) sh);
      history = (λ t. faults_from (sym sh t) w (card_word (sym sh t) w (k.cell_is t) to_first)) ∙ c.history;
      history_ends =
          subst (λ (i : ℕ). Ends h.faults (next_fault (shape_in h) w) (card_word (shape_in h) w i to_first)) (sym k.cell_is)
          (subst (λ (sh : Shape). Ends sh.fault_limit (next_fault sh w) (card_word sh w k.card.at to_first)) sh c.history_ends);
    }

module _ {w : List ℕ} (e : sound w ≡ true) {h : Header} (q : Read w h) where
  buckets_are : length (decode w).buckets ≡ h.maxp + h.p
  buckets_are = omega (arith, (sound_is w e).0.fair.number, (read_store q).1, (read_store q).2)

  -- the first card of the buckets from a on, by the word of bucket a
  module _ {a : ℕ} (k : a < h.maxp + h.p) {x : ℕ} (i : x ≡ bucket_word (shape_in h) w a) where
    within : a < length (decode w).buckets
    within = omega (arith, buckets_are)

    first_is : x ≡ first (cells_of (bucket (decode w) a))
    first_is = i ∙ ap (λ (sh : Shape). bucket_word sh w a) (sym (read_store q).0) ∙ bucket_at w (decode w) (sound_is w e).0 a within

    pub from_stop : (x ≡ 0 → ⊥) → Some (record { bucket = a; cell = x }) ≡ head_from (decode w) a
    from_stop n = head_some a (bucket (decode w) a) _ first_is n ∙ sym (head_from_lem (decode w) a within)

    pub from_on : x ≡ 0 → head_from (decode w) (a + 1) ≡ head_from (decode w) a
    from_on z = head_none (sound_is w e).0 a within [] (bucket (decode w) a) refl (sym first_is ∙ z) ∙ sym (head_from_lem (decode w) a within)

  pub from_end : {a : ℕ} → h.maxp + h.p ≤ a → None ≡ head_from (decode w) a
  unfolding head_from places_from
  from_end {a} l =
      let g : length (decode w).buckets ≤ a = omega (arith, buckets_are) in
      rw (drop_of_length-le (decode w).buckets g)

  -- the card behind card n, by the next word of its cell
  module _ {n : ℕ} (l : n < held (decode w)) {at : At} (p : place_of (decode w) n ≡ Some at) where
    there : Standing (decode w) n at
    there = standing (decode w) n l at p

    pub place_below : at.bucket < h.maxp + h.p
    place_below = omega (arith, there.inside, buckets_are)

    module _ {x : ℕ} (i : x ≡ card_word (shape_in h) w at.cell to_next) where
      next_is : x ≡ first (cells_of there.after)
      next_is =
          i ∙ (λ t. card_word (sym (read_store q).0 t) w (there.cell_is t) to_next)
          ∙ next_at w (decode w) (sound_is w e).0 at.bucket there.front there.card there.after there.parts

      pub next_some : (x ≡ 0 → ⊥) → Some (record { bucket = at.bucket; cell = x }) ≡ place_of (decode w) (suc n)
      next_some z = head_some at.bucket there.after _ next_is z ∙ sym there.behind

      pub next_none : x ≡ 0 → head_from (decode w) (at.bucket + 1) ≡ place_of (decode w) (suc n)
      next_none z =
          head_none (sound_is w e).0 at.bucket there.inside (there.front ++ (there.card ∷ [])) there.after
          (there.parts ∙ sym (append_assoc there.front (there.card ∷ []) there.after)) (sym next_is ∙ z)
          ∙ sym there.behind

-- how many cards and faults sound words hold at most

pub held_few : (w : List ℕ) → sound w ≡ true → held (decode w) ≤ cards_ever
held_few w e = let g = (sound_good w e).0 in omega (arith, cards_fit (decode w) g, few_cards (decode w).shape g.fair.shape)

pub faults_held_few : (w : List ℕ) → sound w ≡ true → faults_held (decode w) ≤ faults_ever
faults_held_few w e = let g = (sound_good w e).0 in omega (arith, faults_fit (decode w) g, few_faults (decode w).shape g.fair.shape)

-- a place is one of a card that is held
places_long : (b : ℕ) (bs : List (List Card)) → length (places_from b bs) ≡ length (join bs)
unfolding places_from
places_long b [] = refl
places_long b (cs ∷ bs) = omega (arith, length-append (map (place_in b) cs) (places_from (suc b) bs), length-map cs (place_in b), length-append cs (join bs), places_long (suc b) bs)

pub place_none : (s : Store) (n : ℕ) → held s ≤ n → place_of s n ≡ None
unfolding place_of
place_none s n l = slice_get_past (places_from 0 s.buckets) n (omega (arith, places_long 0 s.buckets))

pub place_inside : (s : Store) (n : ℕ) {at : At} → place_of s n ≡ Some at → n < held s
place_inside s n p = ⊎_elim (λ (l : n < held s). l) (λ (l : held s ≤ n). absurd (cc (p, place_none s n l))) (lt? n (held s))

-- where no place is, no card is left
pub place_past : (s : Store) (n : ℕ) → place_of s n ≡ None → held s ≤ n
unfolding place_of
place_past s n e =
    let places = places_from 0 s.buckets in
    let none : At = record { bucket = 0; cell = 0 } in
    ⊎_elim (λ (l : n < held s). absurd (cc (e, slice_get-get_or places n none (omega (arith, l, places_long 0 s.buckets))))) (λ (l : held s ≤ n). l) (lt? n (held s))
