-- The header as the code reads it, and words of cells by it, for cards and for faults alike.
use Rattle.std.specs.Prelude.{◌≡◌, Bool, true, ◌&&◌, cond, List, [], ◌∷◌, ◌++◌, ℕ, ◌+◌, ◌*◌, ◌≤◌, ◌<◌, eqb, length, get_or}
use Rattle.rules.specs.Table.{top}
use Rattle.model.specs.Bounds.{least_width, least_entries, cards_ever, farthest}
use Rattle.model.specs.Shape.{segment_size, Shape, top_of, card_width, faults_ever, need}
use Rattle.model.specs.Layout.{maxp_at, p_at, to_length, to_serial, directory_at, segments_at, fault_width, cards_at, faults_at, length_for, shape_ok, shape_of, card_word, fault_word, packed, bytes_of}
use Rattle.reads.specs.declared.layout.Shape as told
use Rattle.reads.specs.declared.header.Header.{Header}

-- the shape that the code holds by itself, and the one in a header
abbrev pub shape_by : told.Shape → Shape
shape_by s = record { format = s.format; limit = s.cards; fault_limit = s.faults; upper = s.upper; lower = s.lower }

abbrev pub shape_in : Header → Shape
shape_in h = record { format = h.format; limit = h.cards; fault_limit = h.faults; upper = h.upper; lower = h.lower }

-- the layout of a header in numbers, and that so many words hold it
pub record Room (w : List ℕ) (h : Header) : Type 0 where
  pub first : directory_at + least_entries ≤ h.segments
  pub least : segment_size * least_entries ≤ h.top
  pub most : h.top ≤ top
  pub table : h.base ≡ h.segments + h.top
  pub within : h.base ≤ h.behind
  pub whole : length w ≡ h.behind + fault_width * h.faults
  pub few : length w < farthest
  pub wide : least_width ≤ h.width
  pub cards : 1 ≤ h.cards
  pub faults : 1 ≤ h.faults
  pub most_cards : h.cards ≤ cards_ever
  pub most_faults : h.faults ≤ faults_ever
  pub marks : h.cards + h.faults ≤ 8 * need (shape_in h)

-- the words are as long as the header's shape asks, and the header says where the parts begin; `room` is what follows in numbers. Of the
-- words this looks at their length alone, so that no write disturbs it
pub record Sized (w : List ℕ) (h : Header) : Type 0 where
  pub ok : shape_ok (shape_in h) ≡ true
  pub long : length w ≡ length_for (shape_in h)
  pub top : h.top ≡ top_of (shape_in h)
  pub segments : h.segments ≡ segments_at (shape_in h)
  pub base : h.base ≡ cards_at (shape_in h)
  pub width : h.width ≡ card_width (shape_in h)
  pub behind : h.behind ≡ faults_at (shape_in h)
  pub room : Room w h

-- the header as the code read it once: the words are sized, they tell its shape, and hold its state
pub record Read (w : List ℕ) (h : Header) : Type 0 where
  pub sized : Sized w h
  pub shape : shape_of w ≡ shape_in h
  pub maxp : get_or w maxp_at 0 ≡ h.maxp
  pub state : get_or w p_at 0 ≡ h.p

-- how many bytes of a serial a word holds
abbrev pub word_bytes : ℕ
word_bytes = 4

-- the four words of sixteen bytes, and the sixteen bytes of four words
abbrev pub packed_all : List ℕ → List ℕ
packed_all bytes = packed bytes 0 ∷ packed bytes 4 ∷ packed bytes 8 ∷ packed bytes 12 ∷ []

abbrev pub unpacked_all : ℕ → ℕ → ℕ → ℕ → List ℕ
unpacked_all a b c d = bytes_of a ++ (bytes_of b ++ (bytes_of c ++ bytes_of d))

-- the four words of a card's serial, and its sixteen bytes as they stand in its cell
abbrev pub key_at : Shape → List ℕ → ℕ → List ℕ
key_at sh w i = card_word sh w i to_serial ∷ card_word sh w i (to_serial + 1) ∷ card_word sh w i (to_serial + 2) ∷ card_word sh w i (to_serial + 3) ∷ []

unfoldable pub bytes_at : Shape → List ℕ → ℕ → List ℕ
bytes_at sh w i = unpacked_all (card_word sh w i to_serial) (card_word sh w i (to_serial + 1)) (card_word sh w i (to_serial + 2)) (card_word sh w i (to_serial + 3))

-- word k of cell i of the faults or of the cards, how many words a cell has, and how many cells there are
unfoldable pub cell_word : Shape → List ℕ → Bool → ℕ → ℕ → ℕ
cell_word sh w faults i k = cond faults (fault_word sh w i k) (card_word sh w i k)

unfoldable pub width_of : Shape → Bool → ℕ
width_of sh faults = cond faults fault_width (card_width sh)

unfoldable pub limit_of : Shape → Bool → ℕ
limit_of sh faults = cond faults sh.fault_limit sh.limit

-- two cards have the same length word and the same four words
unfoldable pub same_key : Shape → List ℕ → ℕ → ℕ → Bool
same_key sh w i j =
    eqb (card_word sh w i to_length) (card_word sh w j to_length) && (eqb (card_word sh w i to_serial) (card_word sh w j to_serial)
    && (eqb (card_word sh w i (to_serial + 1)) (card_word sh w j (to_serial + 1)) && (eqb (card_word sh w i (to_serial + 2)) (card_word sh w j (to_serial + 2))
    && eqb (card_word sh w i (to_serial + 3)) (card_word sh w j (to_serial + 3)))))
