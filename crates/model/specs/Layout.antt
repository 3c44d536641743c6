-- The words that a store stands in: `encode` writes them, `decode` reads them, and words are sound where they are the
-- encoding of a good store.
use Rattle.std.specs.Prelude.{ℕ, zero, suc, ◌+◌, ◌-◌, ◌*◌, ◌/◌, ◌%◌, ◌^◌, List, [], ◌∷◌, ◌++◌, map, Bool, true, false, ◌&&◌, ◌||◌, cond, leb, ltb, eqb, length, take, get_or, replicate}
use Rattle.rules.specs.Code.{code_of}
use Rattle.rules.specs.Table.{state_ok, address_of, load_fits}
use Rattle.model.specs.Lists.{between, all, same, join, from, distinct}
use Rattle.model.specs.Shape.{Shape, segment_size, entries, top_of, card_width, most_cards, most_faults}
use Rattle.model.specs.Serial.{serial_ok, valid_fault}
use Rattle.model.specs.Model.{Fault, Card, Store, cards, held, faults_held, size, bucket, cells_of, fault_cells_of}

-- counts and offsets

-- words 0 to 2 of the header: format, C, F
abbrev pub format_at : ℕ
format_at = 0

abbrev pub limit_at : ℕ
limit_at = 1

abbrev pub fault_limit_at : ℕ
fault_limit_at = 2

-- words 3 to 6: maxp, p, cards held, faults held
abbrev pub maxp_at : ℕ
maxp_at = 3

abbrev pub p_at : ℕ
p_at = 4

abbrev pub held_at : ℕ
held_at = 5

abbrev pub faults_held_at : ℕ
faults_held_at = 6

-- words 7 and 8: first free card cell, first free fault cell
abbrev pub free_at : ℕ
free_at = 7

abbrev pub free_faults_at : ℕ
free_faults_at = 8

-- words 9 to 13: offset of directory, segments, cards, faults; whole length
abbrev pub directory_offset_at : ℕ
directory_offset_at = 9

abbrev pub segments_offset_at : ℕ
segments_offset_at = 10

abbrev pub cards_offset_at : ℕ
cards_offset_at = 11

abbrev pub faults_offset_at : ℕ
faults_offset_at = 12

abbrev pub whole_length_at : ℕ
whole_length_at = 13

-- words 14 and 15: the load bounds; 0, kept for the spelling of serials
abbrev pub bounds_at : ℕ
bounds_at = 14

abbrev pub rule_at : ℕ
rule_at = 15

-- where the directory and the segments begin
abbrev pub directory_at : ℕ
directory_at = 16

abbrev pub segments_at : Shape → ℕ
segments_at sh = directory_at + entries sh

-- the words of a fault cell, and where cell 1 of cards and of faults begins
abbrev pub fault_width : ℕ
fault_width = 3

unfoldable pub cards_at : Shape → ℕ
cards_at sh = segments_at sh + top_of sh

unfoldable pub faults_at : Shape → ℕ
faults_at sh = cards_at sh + card_width sh * sh.limit

-- the whole length
unfoldable pub length_for : Shape → ℕ
length_for sh = faults_at sh + fault_width * sh.fault_limit

-- the words of a card cell: next, serial length, four words of serial from `to_serial` on, first fault, last fault, fault count
abbrev pub to_next : ℕ
to_next = 0

abbrev pub to_length : ℕ
to_length = 1

abbrev pub to_serial : ℕ
to_serial = 2

abbrev pub serial_words : ℕ
serial_words = 4

abbrev pub to_first : ℕ
to_first = 6

abbrev pub to_last : ℕ
to_last = 7

abbrev pub to_count : ℕ
to_count = 8

-- the words of a fault cell: next, at the same place as in a card cell, day, code
abbrev pub to_day : ℕ
to_day = 1

abbrev pub to_code : ℕ
to_code = 2

-- C and F are 1 to the highest of the format
unfoldable pub limits_ok : Shape → Bool
limits_ok sh = between 1 (most_cards sh) sh.limit && between 1 (most_faults sh) sh.fault_limit

-- U is 2 to 10, L at least 1 with 2L ≤ U
abbrev pub least_upper : ℕ
least_upper = 2

abbrev pub most_upper : ℕ
most_upper = 10

unfoldable pub bounds_ok : Shape → Bool
bounds_ok sh = between least_upper most_upper sh.upper && (leb 1 sh.lower && leb (2 * sh.lower) sh.upper)

-- the formats: the first means the bounds 4 and 2, and has no word for them; the second has any, in word 14
abbrev pub first_format : ℕ
first_format = 1

abbrev pub second_format : ℕ
second_format = 2

abbrev pub first_upper : ℕ
first_upper = 4

abbrev pub first_lower : ℕ
first_lower = 2

unfoldable pub format_ok : Shape → Bool
format_ok sh = eqb sh.format second_format || (eqb sh.format first_format && (eqb sh.upper first_upper && eqb sh.lower first_lower))

-- word 14: 0 in format 1, else 256 U + L
abbrev pub upper_unit : ℕ
upper_unit = 256

unfoldable pub bounds_word : Shape → ℕ
bounds_word sh = cond (eqb sh.format first_format) 0 (upper_unit * sh.upper + sh.lower)

unfoldable pub rule_word : Shape → ℕ
rule_word sh = 0

-- the shapes that there are
unfoldable pub shape_ok : Shape → Bool
shape_ok sh = format_ok sh && (limits_ok sh && bounds_ok sh)

-- the bounds that a format and a word 14 tell
abbrev pub upper_by : ℕ → ℕ → ℕ
upper_by format word = cond (eqb format first_format) first_upper (word / upper_unit)

abbrev pub lower_by : ℕ → ℕ → ℕ
lower_by format word = cond (eqb format first_format) first_lower (word % upper_unit)

-- the shape that words tell
unfoldable pub shape_of : List ℕ → Shape
shape_of w =
    record {
      format = get_or w format_at 0;
      limit = get_or w limit_at 0;
      fault_limit = get_or w fault_limit_at 0;
      upper = upper_by (get_or w format_at 0) (get_or w bounds_at 0);
      lower = lower_by (get_or w format_at 0) (get_or w bounds_at 0);
    }

-- cells and chains

-- a cell's number and its words: without the next word where it stands alone, with it where it stands in a chain
pub record Cell : Type 0 where
  pub at : ℕ
  pub words : List ℕ

abbrev pub ats_of : List Cell → List ℕ
ats_of cs = map (λ c. c.at) cs

-- the number of the first cell, or t
abbrev pub head_or : ℕ → List Cell → ℕ
head_or t [] = t
head_or t (c ∷ cs) = c.at

-- each cell of a chain has the next one's number before its own words, the last one t
abbrev pub chained : ℕ → List Cell → List Cell
chained t [] = []
chained t (c ∷ cs) = record { at = c.at; words = head_or t cs ∷ c.words } ∷ chained t cs

-- where word k of cell i stands
unfoldable pub cell_at : ℕ → ℕ → ℕ → ℕ → ℕ
cell_at base width i k = base + width * (i - 1) + k

-- writing

abbrev pub first : List ℕ → ℕ
first l = get_or l 0 0

unfoldable pub last : List ℕ → ℕ
last [] = 0
last (x ∷ []) = x
last (x ∷ y ∷ l) = last (y ∷ l)

-- four bytes of a list from i on, the first highest; 0 past its end
unfoldable pub packed : List ℕ → ℕ → ℕ
packed bs i = ((get_or bs i 0 * 256 + get_or bs (i + 1) 0) * 256 + get_or bs (i + 2) 0) * 256 + get_or bs (i + 3) 0

-- serial length, four words of serial, first fault, last fault, fault count
unfoldable pub card_cell : Card → Cell
card_cell c =
    let s = c.serial in
    let fs = fault_cells_of c.faults in
    record { at = c.at; words = length s ∷ packed s 0 ∷ packed s 4 ∷ packed s 8 ∷ packed s 12 ∷ first fs ∷ last fs ∷ length fs ∷ [] }

-- day, code
unfoldable pub fault_cell : Fault → Cell
fault_cell f = record { at = f.at; words = f.day ∷ f.code ∷ [] }

-- a free cell is zero but for its next word
unfoldable pub free_cell : ℕ → ℕ → Cell
free_cell width i = record { at = i; words = replicate (width - 1) 0 }

-- the chains of a part: the free one first, then the buckets; the free one first, then the histories
abbrev pub card_chains : Store → List (List Cell)
card_chains s = map (free_cell (card_width s.shape)) s.free ∷ map (map card_cell) s.buckets

abbrev pub fault_chains : Store → List (List Cell)
fault_chains s = map (free_cell fault_width) s.free_faults ∷ map (λ c. map fault_cell c.faults) (cards s)

abbrev pub words_of : List Cell → ℕ → List ℕ
words_of [] i = []
words_of (c ∷ cs) i = cond (eqb c.at i) c.words (words_of cs i)

-- the words of cells 1 to n, one behind another
unfoldable pub part : List (List Cell) → ℕ → List ℕ
part chains n = join (map (words_of (join (map (chained 0) chains))) (from 1 n))

unfoldable pub header : Store → List ℕ
header s =
    let sh = s.shape in
    sh.format ∷ sh.limit ∷ sh.fault_limit ∷ s.maxp ∷ s.p ∷ held s ∷ faults_held s ∷ first s.free ∷ first s.free_faults
    ∷ directory_at ∷ segments_at sh ∷ cards_at sh ∷ faults_at sh ∷ length_for sh ∷ bounds_word sh ∷ rule_word sh ∷ []

-- entry k is where segment k begins if it is in use, else 0
unfoldable pub directory : Store → List ℕ
directory s = map (λ k. cond (ltb (segment_size * k) (size s)) (segments_at s.shape + segment_size * k) 0) (from 0 (entries s.shape))

-- a word is the chain's first cell, or 0
unfoldable pub segments : Store → List ℕ
segments s = map (λ b. first (cells_of b)) s.buckets ++ replicate (top_of s.shape - size s) 0

-- the words before the cells
unfoldable pub front : Store → List ℕ
front s = header s ++ (directory s ++ segments s)

unfoldable pub encode : Store → List ℕ
encode s = front s ++ (part (card_chains s) s.shape.limit ++ part (fault_chains s) s.shape.fault_limit)

-- reading

-- the cells from c on by their next words, at most fuel of them
unfoldable pub follow : ℕ → (ℕ → ℕ) → ℕ → List ℕ
follow zero next c = []
follow (suc fuel) next c =
    let rest = c ∷ follow fuel next (next c) in
    cond (eqb c 0) [] rest

-- the four bytes of a word
unfoldable pub bytes_of : ℕ → List ℕ
bytes_of w = w / 2 ^ 24 ∷ w / 2 ^ 16 % 256 ∷ w / 2 ^ 8 % 256 ∷ w % 256 ∷ []

unfoldable pub card_word : Shape → List ℕ → ℕ → ℕ → ℕ
card_word sh w i k = get_or w (cell_at (cards_at sh) (card_width sh) i k) 0

unfoldable pub fault_word : Shape → List ℕ → ℕ → ℕ → ℕ
fault_word sh w i k = get_or w (cell_at (faults_at sh) fault_width i k) 0

unfoldable pub read_fault : Shape → List ℕ → ℕ → Fault
read_fault sh w i = record { at = i; day = fault_word sh w i to_day; code = fault_word sh w i to_code }

unfoldable pub read_card : Shape → List ℕ → ℕ → Card
read_card sh w i =
    record {
      at = i;
      serial =
          take (card_word sh w i to_length)
          (bytes_of (card_word sh w i to_serial) ++ (bytes_of (card_word sh w i (to_serial + 1)) ++ (bytes_of (card_word sh w i (to_serial + 2)) ++ bytes_of (card_word sh w i (to_serial + 3)))));
      faults = map (read_fault sh w) (follow sh.fault_limit (λ k. fault_word sh w k to_next) (card_word sh w i to_first));
    }

unfoldable pub read_chain : Shape → List ℕ → ℕ → List Card
read_chain sh w b = map (read_card sh w) (follow sh.limit (λ k. card_word sh w k to_next) (get_or w (segments_at sh + b) 0))

-- the store of a shape that words hold
unfoldable pub decode_as : Shape → List ℕ → Store
decode_as sh w =
    record {
      shape = sh;
      maxp = get_or w maxp_at 0;
      p = get_or w p_at 0;
      buckets = map (read_chain sh w) (from 0 (get_or w maxp_at 0 + get_or w p_at 0));
      free = follow sh.limit (λ k. card_word sh w k to_next) (get_or w free_at 0);
      free_faults = follow sh.fault_limit (λ k. fault_word sh w k to_next) (get_or w free_faults_at 0);
    }

abbrev pub decode : List ℕ → Store
decode w = decode_as (shape_of w) w

-- soundness

-- each of the cells 1 to n exactly once
unfoldable pub each_once : ℕ → List ℕ → Bool
each_once n l = eqb (length l) n && (all (between 1 n) l && distinct eqb l)

-- a card that may stand in bucket b: valid serial, at its address, valid faults
unfoldable pub good_card : ℕ → ℕ → ℕ → Card → Bool
good_card maxp p b c =
    serial_ok c.serial && (eqb (address_of (code_of c.serial) maxp p) b && all (λ f. valid_fault f.day f.code) c.faults)

unfoldable pub good_buckets : Store → Bool
good_buckets s = all (λ b. all (good_card s.maxp s.p b) (bucket s b)) (from 0 (size s))

-- each card cell stands in exactly one bucket chain or the free chain, each fault cell in exactly one history or the free chain
unfoldable pub cells_ok : Store → Bool
cells_ok s = each_once s.shape.limit (ats_of (join (card_chains s))) && each_once s.shape.fault_limit (ats_of (join (fault_chains s)))

-- no serial twice
unfoldable pub serials_ok : Store → Bool
serials_ok s = distinct same (map (λ c. c.serial) (cards s))

-- n ≤ UB or B is the most, and B = 16 or n ≥ LB
unfoldable pub load_ok : Store → Bool
load_ok s = load_fits (top_of s.shape) s.shape.upper s.shape.lower (held s) (size s)

-- all but the load, which an entry breaks until its split
unfoldable pub fair : Store → Bool
fair s =
    shape_ok s.shape && (state_ok (top_of s.shape) s.maxp s.p && (eqb (length s.buckets) (size s)
    && (cells_ok s && (good_buckets s && serials_ok s))))

unfoldable pub good : Store → Bool
good s = load_ok s && fair s

-- a state out of range would have `decode` read buckets without end, so it is tested first
abbrev pub sound_if : Bool → List ℕ → Bool
sound_if false w = false
sound_if true w = good (decode w) && same (encode (decode w)) w

unfoldable pub sound : List ℕ → Bool
sound w = sound_if (state_ok (top_of (shape_of w)) (get_or w maxp_at 0) (get_or w p_at 0) && shape_ok (shape_of w)) w
