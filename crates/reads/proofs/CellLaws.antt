-- Laws of a header that the words are sized by (`sized_from`): a word of a cell is there (`card_in`, `cell_in_lem`) and, read in the words from
-- its part on, is the one asked for (`cell_is`). Of the words only their length counts (`sized_same`).
use mathlib.Core.Path.{◌≡◌, ap, ◌∙◌, sym}
use mathlib.Core.Bool.{Bool, true, false, cond}
use mathlib.Core.List.{List}
use Prim.Native.Nat.{ℕ, ◌+◌, ◌-◌, ◌*◌, ◌/◌, ◌≤◌, ◌<◌}
use native.Mathlib.Nat.{mul-le-mul, lt_of_lt_of_le}
use native.Mathlib.Omega.{arith}
use lib.ListN.{length, get_or, set, length-set, take, drop}
use Rattle.model.specs.Bounds.{least_width, most_width, cards_ever}
use Rattle.model.specs.Shape.{segment_size, Shape, entries, top_of, card_width}
use Rattle.model.specs.Layout.{directory_at, fault_width, segments_at, cards_at, faults_at, length_for, shape_ok, cell_at, card_word, fault_word}
use Rattle.model.proofs.Places.{cell_at_below}
use Rattle.model.proofs.Shapes.{top_most, entries_some, width_least, width_most, shaped, few_cards, few_faults}
use Rattle.reads.specs.declared.header.Header.{Header}
use Rattle.reads.specs.Cells.{shape_in, Room, Sized, cell_word, width_of, limit_of}
use lib.Seq.{get_or-take, get_or-drop}

-- what a header has in numbers, where the words are so long
module _ (w : List ℕ) (h : Header) (ok : shape_ok (shape_in h) ≡ true) (long : length w ≡ length_for (shape_in h)) where
  cards_most : card_width (shape_in h) * h.cards ≤ most_width * cards_ever
  cards_most = mul-le-mul {n₂ = most_width} {m₂ = cards_ever} (width_most (shape_in h)) (few_cards (shape_in h) ok)

  room_from : h.top ≡ top_of (shape_in h) → h.segments ≡ segments_at (shape_in h) → h.base ≡ cards_at (shape_in h) → h.width ≡ card_width (shape_in h)
      → h.behind ≡ faults_at (shape_in h) → Room w h
  unfolding length_for faults_at cards_at
  room_from t g b v f =
      let k = shaped (shape_in h) ok in
      let e = entries_some (shape_in h) in
      record {
        first = omega (arith, g, e);
        least = omega (arith, t, e);
        most = omega (arith, t, top_most (shape_in h));
        table = omega (arith, b, g, t);
        within = omega (arith, b, f);
        whole = omega (arith, long, f);
        few = omega (arith, long, cards_most, top_most (shape_in h), few_faults (shape_in h) ok);
        wide = omega (arith, v, width_least (shape_in h));
        cards = k.some;
        faults = k.some_faults;
        most_cards = few_cards (shape_in h) ok;
        most_faults = few_faults (shape_in h) ok;
        marks = k.marks;
      }

  pub sized_from : h.top ≡ top_of (shape_in h) → h.segments ≡ segments_at (shape_in h) → h.base ≡ cards_at (shape_in h) → h.width ≡ card_width (shape_in h)
      → h.behind ≡ faults_at (shape_in h) → Sized w h
  sized_from t g b v f = record { ok = ok; long = long; top = t; segments = g; base = b; width = v; behind = f; room = room_from t g b v f }

-- a word of the part from a on, by the place of its cell there
part_word : (w : List ℕ) (a b k : ℕ) → a + b + k < length w → get_or (take (length w - a) (drop a w)) (b + k) 0 ≡ get_or w (a + b + k) 0
part_word w a b k l = get_or-take (length w - a) (drop a w) (b + k) 0 (omega arith) ∙ get_or-drop a w (b + k) 0 ∙ ap (λ (n : ℕ). get_or w n 0) (omega arith)

-- the width of a part
pub width_some : (sh : Shape) (faults : Bool) → 0 < width_of sh faults
unfolding width_of
width_some sh true = omega arith
width_some sh false = omega (arith, width_least sh)

module _ {w : List ℕ} {h : Header} (s : Sized w h) where
  -- a word of the header is there, in any words as long
  pub head_in_lem : (k : ℕ) → k < directory_at → {n : ℕ} → n ≡ length w → k < n
  head_in_lem k l e = let r = s.room in omega arith

  -- a card cell has these words
  pub word_in : (k : ℕ) → k < least_width → k < h.width
  word_in k l = lt_of_lt_of_le l s.room.wide

  pub bucket_at : (b : ℕ) → h.segments + b ≡ segments_at (shape_in h) + b
  bucket_at b = omega (arith, s.segments)

  -- a word of a cell: it is there, and it is that of the part
  pub card_in : (i k : ℕ) → 1 ≤ i → i ≤ h.cards → k < h.width → h.base + h.width * (i - 1) + k < length w
  unfolding cell_at length_for faults_at
  card_in i k a b l =
      let e : h.width * (i - 1) ≡ card_width (shape_in h) * (i - 1) = ap (λ (n : ℕ). n * (i - 1)) s.width in
      omega (arith, s.long, s.base, cell_at_below (cards_at (shape_in h)) (card_width (shape_in h)) h.cards i k a b (omega (arith, s.width)))

  -- the same word, read in the words from that of the first cell on
  pub end_is : (i k : ℕ) → 1 ≤ i → i ≤ h.cards → k < h.width
      → get_or (take (length w - (h.base + k)) (drop (h.base + k) w)) (h.width * (i - 1)) 0 ≡ card_word (shape_in h) w i k
  unfolding card_word cell_at
  end_is i k a b l =
      get_or-take (length w - (h.base + k)) (drop (h.base + k) w) (h.width * (i - 1)) 0 (omega (arith, card_in i k a b l)) ∙ get_or-drop (h.base + k) w (h.width * (i - 1)) 0
      ∙ ap (λ (n : ℕ). get_or w n 0) (let z : h.base + k + h.width * (i - 1) ≡ h.base + h.width * (i - 1) + k = omega arith in z) ∙ (λ t. get_or w (s.base t + s.width t * (i - 1) + k) 0)

  fault_in_lem : (i k : ℕ) → 1 ≤ i → i ≤ h.faults → k < fault_width → h.behind + fault_width * (i - 1) + k < length w
  fault_in_lem i k a b l = let r = s.room in omega arith

  pub cell_in_lem : (faults : Bool) (i k : ℕ) {start width : ℕ} → start ≡ cond faults h.behind h.base → width ≡ width_of (shape_in h) faults
      → 1 ≤ i → i ≤ limit_of (shape_in h) faults → k < width_of (shape_in h) faults → start + width * (i - 1) + k < length w
  unfolding limit_of width_of
  cell_in_lem true i k p z a b l = rw (p, z) (fault_in_lem i k a b l)
  cell_in_lem false i k p z a b l = let y = z ∙ sym s.width in rw (p, y) (card_in i k a b (omega (arith, s.width)))

  -- the words of a cell end within the words
  pub cell_whole : (faults : Bool) (i : ℕ) {start width : ℕ} → start ≡ cond faults h.behind h.base → width ≡ width_of (shape_in h) faults
      → 1 ≤ i → i ≤ limit_of (shape_in h) faults → start + width * (i - 1) + width ≤ length w
  cell_whole faults i {start} {width} p z a b =
      let y : 0 < width_of (shape_in h) faults = width_some (shape_in h) faults in
      omega (arith, z, cell_in_lem faults i (width_of (shape_in h) faults - 1) p z a b (omega arith))

  pub cell_is : (faults : Bool) (i k : ℕ) {start width : ℕ} → start ≡ cond faults h.behind h.base → width ≡ width_of (shape_in h) faults
      → start + width * (i - 1) + k < length w → get_or (take (length w - start) (drop start w)) (width * (i - 1) + k) 0 ≡ cell_word (shape_in h) w faults i k
  unfolding cell_word width_of card_word fault_word cell_at
  cell_is true i k {start} {width} p z l = part_word w start (width * (i - 1)) k l ∙ (λ t. get_or w ((p ∙ s.behind) t + z t * (i - 1) + k) 0)
  cell_is false i k {start} {width} p z l = part_word w start (width * (i - 1)) k l ∙ (λ t. get_or w ((p ∙ s.base) t + z t * (i - 1) + k) 0)

  -- how many segments the most buckets take
  pub segment_count : h.top / segment_size ≡ entries (shape_in h)
  segment_count = omega (arith, s.top)

  -- other words, as long
  pub sized_same : {u : List ℕ} → length u ≡ length w → Sized u h
  sized_same {u} e = sized_from u h s.ok (e ∙ s.long) s.top s.segments s.base s.width s.behind

  pub sized_set : {u : List ℕ} (i v : ℕ) → u ≡ set w i v → Sized u h
  sized_set i v e = sized_same (ap length e ∙ length-set w i v)
