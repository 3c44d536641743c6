-- What document 01 asks of a sound store, with the load bounds of request 04, clause by clause, said of the words themselves: `Sound`, of
-- the shape that they tell. That it is what `sound` decides is `sound_means` in proofs/Meaning.antt.
use Rattle.std.specs.Prelude.{ℕ, ◌+◌, ◌*◌, ◌≤◌, ◌<◌, ◌≡◌, ◌⊎◌, List, [], ◌∷◌, ◌++◌, map, true, eqb, length, take, drop, get_or}
use Rattle.rules.specs.Code.{code_of}
use Rattle.rules.specs.Table.{least, state_ok, address_of}
use Rattle.model.specs.Lists.{all, keep, join, from}
use Rattle.model.specs.Shape.{Shape, segment_size, entries, top_of, card_width}
use Rattle.model.specs.Serial.{serial_ok, valid_fault}
use Rattle.model.specs.Layout.{format_at, limit_at, fault_limit_at, maxp_at, p_at, held_at, faults_held_at, free_at, free_faults_at, directory_offset_at, segments_offset_at, cards_offset_at, faults_offset_at, whole_length_at, bounds_at, rule_at, to_next, to_length, to_serial, to_first, to_last, to_count, to_day, to_code}
use Rattle.model.specs.Layout.{directory_at, segments_at, fault_width, cards_at, faults_at, length_for, bounds_word, rule_word, shape_ok, shape_of, last, follow, bytes_of, card_word, fault_word}

-- how often a number stands in a list, and that it does
abbrev pub times : ℕ → List ℕ → ℕ
times i l = length (keep (eqb i) l)

abbrev pub In : ℕ → List ℕ → Type 0
In i l = 0 < times i l

-- a list of cells has each of the cells 1 to n exactly once, and nothing else
pub record ExactlyOnce (n : ℕ) (l : List ℕ) : Type 0 where
  pub cells : (i : ℕ) → In i l → (1 ≤ i) × (i ≤ n)
  pub once : (i : ℕ) → 1 ≤ i → i ≤ n → times i l ≡ 1

-- from h the next words lead through the cells of a list, one after the other, and then to 0
abbrev pub Leads : (ℕ → ℕ) → ℕ → List ℕ → Type 0
Leads next h [] = h ≡ 0
Leads next h (i ∷ l) = (h ≡ i) × Leads next (next i) l

-- the words, read

-- B, the number of buckets, and the word of bucket b
abbrev pub buckets_in : List ℕ → ℕ
buckets_in w = get_or w maxp_at 0 + get_or w p_at 0

abbrev pub bucket_word : Shape → List ℕ → ℕ → ℕ
bucket_word sh w b = get_or w (segments_at sh + b) 0

-- the next words of card cells and of fault cells
abbrev pub next_card : Shape → List ℕ → ℕ → ℕ
next_card sh w i = card_word sh w i to_next

abbrev pub next_fault : Shape → List ℕ → ℕ → ℕ
next_fault sh w i = fault_word sh w i to_next

-- the cells of a chain, as its next words lead through them; no more than there are cells
unfoldable pub bucket_cells : Shape → List ℕ → ℕ → List ℕ
bucket_cells sh w b = follow sh.limit (next_card sh w) (bucket_word sh w b)

unfoldable pub free_cells : Shape → List ℕ → List ℕ
free_cells sh w = follow sh.limit (next_card sh w) (get_or w free_at 0)

unfoldable pub history_cells : Shape → List ℕ → ℕ → List ℕ
history_cells sh w i = follow sh.fault_limit (next_fault sh w) (card_word sh w i to_first)

unfoldable pub free_fault_cells : Shape → List ℕ → List ℕ
free_fault_cells sh w = follow sh.fault_limit (next_fault sh w) (get_or w free_faults_at 0)

-- the cells of all cards, and of all their faults
unfoldable pub held_cells : Shape → List ℕ → List ℕ
held_cells sh w = join (map (bucket_cells sh w) (from 0 (buckets_in w)))

unfoldable pub filed_cells : Shape → List ℕ → List ℕ
filed_cells sh w = join (map (history_cells sh w) (held_cells sh w))

-- the sixteen bytes of a card cell's four words of serial, and the serial
unfoldable pub bytes_in : Shape → List ℕ → ℕ → List ℕ
bytes_in sh w i = bytes_of (card_word sh w i to_serial) ++ (bytes_of (card_word sh w i (to_serial + 1)) ++ (bytes_of (card_word sh w i (to_serial + 2)) ++ bytes_of (card_word sh w i (to_serial + 3))))

unfoldable pub serial_in : Shape → List ℕ → ℕ → List ℕ
serial_in sh w i = take (card_word sh w i to_length) (bytes_in sh w i)

pub record SoundAs (sh : Shape) (w : List ℕ) : Type 0 where
  -- the header agrees with the layout
  pub format_word : get_or w format_at 0 ≡ sh.format
  pub limit_word : get_or w limit_at 0 ≡ sh.limit
  pub fault_limit_word : get_or w fault_limit_at 0 ≡ sh.fault_limit
  pub shape : shape_ok sh ≡ true
  pub state : state_ok (top_of sh) (get_or w maxp_at 0) (get_or w p_at 0) ≡ true
  pub directory_offset : get_or w directory_offset_at 0 ≡ directory_at
  pub segments_offset : get_or w segments_offset_at 0 ≡ segments_at sh
  pub cards_offset : get_or w cards_offset_at 0 ≡ cards_at sh
  pub faults_offset : get_or w faults_offset_at 0 ≡ faults_at sh
  pub length_word : get_or w whole_length_at 0 ≡ length_for sh
  pub bounds : get_or w bounds_at 0 ≡ bounds_word sh
  pub rule : get_or w rule_at 0 ≡ rule_word sh
  pub whole_length : length w ≡ length_for sh
  -- the directory: entry k is where segment k begins if bucket 16k is there, else 0
  pub directory_used : (k : ℕ) → k < entries sh → segment_size * k < buckets_in w → get_or w (directory_at + k) 0 ≡ segments_at sh + segment_size * k
  pub directory_unused : (k : ℕ) → k < entries sh → buckets_in w ≤ segment_size * k → get_or w (directory_at + k) 0 ≡ 0
  -- n ≤ UB or B is the most, and B = 16 or n ≥ LB
  pub not_over : (buckets_in w ≡ top_of sh) ⊎ (get_or w held_at 0 ≤ sh.upper * buckets_in w)
  pub not_under : (buckets_in w ≡ least) ⊎ (sh.lower * buckets_in w ≤ get_or w held_at 0)
  -- the chains are chains: each leads through its cells and ends with 0
  pub bucket_chain : (b : ℕ) → b < buckets_in w → Leads (next_card sh w) (bucket_word sh w b) (bucket_cells sh w b)
  pub free_chain : Leads (next_card sh w) (get_or w free_at 0) (free_cells sh w)
  pub history_chain : (i : ℕ) → In i (held_cells sh w) → Leads (next_fault sh w) (card_word sh w i to_first) (history_cells sh w i)
  pub free_fault_chain : Leads (next_fault sh w) (get_or w free_faults_at 0) (free_fault_cells sh w)
  -- each card cell stands in exactly one bucket chain or the free chain
  pub card_cells : ExactlyOnce sh.limit (free_cells sh w ++ held_cells sh w)
  -- each fault cell in exactly one history or the free chain
  pub fault_cells : ExactlyOnce sh.fault_limit (free_fault_cells sh w ++ filed_cells sh w)
  -- each card in its addressed bucket
  pub addressed : (b i : ℕ) → b < buckets_in w → In i (bucket_cells sh w b) → address_of (code_of (serial_in sh w i)) (get_or w maxp_at 0) (get_or w p_at 0) ≡ b
  -- no serial twice
  pub different : (i j : ℕ) → In i (held_cells sh w) → In j (held_cells sh w) → serial_in sh w i ≡ serial_in sh w j → i ≡ j
  -- serials and faults are valid
  pub serials : (i : ℕ) → In i (held_cells sh w) → serial_ok (serial_in sh w i) ≡ true
  pub faults : (i k : ℕ) → In i (held_cells sh w) → In k (history_cells sh w i) → valid_fault (fault_word sh w k to_day) (fault_word sh w k to_code) ≡ true
  -- padding, free cells (but for their next words), unused segments and bucket words from B on are zero
  pub padding : (i : ℕ) → In i (held_cells sh w) → all (eqb 0) (drop (card_word sh w i to_length) (bytes_in sh w i)) ≡ true
  pub free_zero : (i k : ℕ) → In i (free_cells sh w) → 1 ≤ k → k < card_width sh → card_word sh w i k ≡ 0
  pub free_faults_zero : (i k : ℕ) → In i (free_fault_cells sh w) → 1 ≤ k → k < fault_width → fault_word sh w i k ≡ 0
  pub unused_zero : (b : ℕ) → buckets_in w ≤ b → b < top_of sh → bucket_word sh w b ≡ 0
  -- counts and last-fault words are true; with no faults `history_chain` and these make a card's last three words 0
  pub cards_held : get_or w held_at 0 ≡ length (held_cells sh w)
  pub faults_held : get_or w faults_held_at 0 ≡ length (filed_cells sh w)
  pub serial_lengths : (i : ℕ) → In i (held_cells sh w) → card_word sh w i to_length ≡ length (serial_in sh w i)
  pub fault_counts : (i : ℕ) → In i (held_cells sh w) → card_word sh w i to_count ≡ length (history_cells sh w i)
  pub last_faults : (i : ℕ) → In i (held_cells sh w) → card_word sh w i to_last ≡ last (history_cells sh w i)

abbrev pub Sound : List ℕ → Type 0
Sound w = SoundAs (shape_of w) w
