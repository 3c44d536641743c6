-- What document 01 asks of a sound store, clause by clause, in its own numbers: format 1, with no word for its bounds. No later format
-- moves a line of this page. That sound words of format 1 are exactly those for which these clauses hold is `format_one` in
-- proofs/FormatOne.antt.
use Rattle.std.specs.Prelude.{ℕ, ◌+◌, ◌-◌, ◌*◌, ◌≤◌, ◌<◌, ◌≡◌, ◌⊎◌, List, ◌++◌, map, true, eqb, length, take, drop, get_or}
use Rattle.rules.specs.Code.{code_of}
use Rattle.rules.specs.Table.{state_ok, address_of}
use Rattle.model.specs.Lists.{all, join, from}
use Rattle.model.specs.Serial.{serial_ok, valid_fault}
use Rattle.model.specs.Layout.{last, follow, bytes_of}
use Rattle.model.specs.Meaning.{In, ExactlyOnce, Leads}

-- the words, read: word k, the limits C and F, the buckets B, the word of bucket b, and word k of a card cell and of a fault cell
abbrev pub word1 : List ℕ → ℕ → ℕ
word1 w k = get_or w k 0

abbrev pub cards1 : List ℕ → ℕ
cards1 w = word1 w 1

abbrev pub faults1 : List ℕ → ℕ
faults1 w = word1 w 2

abbrev pub buckets1 : List ℕ → ℕ
buckets1 w = word1 w 3 + word1 w 4

abbrev pub bucket1 : List ℕ → ℕ → ℕ
bucket1 w b = word1 w (32 + b)

abbrev pub card1 : List ℕ → ℕ → ℕ → ℕ
card1 w i k = word1 w (288 + 9 * (i - 1) + k)

abbrev pub fault1 : List ℕ → ℕ → ℕ → ℕ
fault1 w i k = word1 w (288 + 9 * cards1 w + 3 * (i - 1) + k)

-- the chains: a bucket's, the free cards', a history, the free faults'; the cells of all cards, and of all their faults
abbrev pub next_card1 : List ℕ → ℕ → ℕ
next_card1 w i = card1 w i 0

abbrev pub next_fault1 : List ℕ → ℕ → ℕ
next_fault1 w i = fault1 w i 0

abbrev pub chain1 : List ℕ → ℕ → List ℕ
chain1 w b = follow (cards1 w) (next_card1 w) (bucket1 w b)

abbrev pub free1 : List ℕ → List ℕ
free1 w = follow (cards1 w) (next_card1 w) (word1 w 7)

abbrev pub history1 : List ℕ → ℕ → List ℕ
history1 w i = follow (faults1 w) (next_fault1 w) (card1 w i 6)

abbrev pub free_faults1 : List ℕ → List ℕ
free_faults1 w = follow (faults1 w) (next_fault1 w) (word1 w 8)

abbrev pub held1 : List ℕ → List ℕ
held1 w = join (map (chain1 w) (from 0 (buckets1 w)))

abbrev pub filed1 : List ℕ → List ℕ
filed1 w = join (map (history1 w) (held1 w))

-- the sixteen bytes of a card cell, and its serial
abbrev pub bytes1 : List ℕ → ℕ → List ℕ
bytes1 w i = bytes_of (card1 w i 2) ++ (bytes_of (card1 w i 3) ++ (bytes_of (card1 w i 4) ++ bytes_of (card1 w i 5)))

abbrev pub serial1 : List ℕ → ℕ → List ℕ
serial1 w i = take (card1 w i 1) (bytes1 w i)

pub record Sound1 (w : List ℕ) : Type 0 where
  -- the header agrees with the layout
  pub format : word1 w 0 ≡ 1
  pub limit : (1 ≤ cards1 w) × (cards1 w ≤ 1024)
  pub fault_limit : (1 ≤ faults1 w) × (faults1 w ≤ 2048)
  pub state : state_ok 256 (word1 w 3) (word1 w 4) ≡ true
  pub offsets : (word1 w 9 ≡ 16) × (word1 w 10 ≡ 32) × (word1 w 11 ≡ 288) × (word1 w 12 ≡ 288 + 9 * cards1 w)
  pub length_word : word1 w 13 ≡ 288 + 9 * cards1 w + 3 * faults1 w
  pub zeros : (word1 w 14 ≡ 0) × (word1 w 15 ≡ 0)
  pub whole_length : length w ≡ 288 + 9 * cards1 w + 3 * faults1 w
  pub directory_used : (k : ℕ) → k < 16 → 16 * k < buckets1 w → word1 w (16 + k) ≡ 32 + 16 * k
  pub directory_unused : (k : ℕ) → k < 16 → buckets1 w ≤ 16 * k → word1 w (16 + k) ≡ 0
  -- n ≤ 4B, and B = 16 or n ≥ 2B
  pub not_over : word1 w 5 ≤ 4 * buckets1 w
  pub not_under : (buckets1 w ≡ 16) ⊎ (2 * buckets1 w ≤ word1 w 5)
  -- the chains are chains, and each cell stands in exactly one
  pub bucket_chain : (b : ℕ) → b < buckets1 w → Leads (next_card1 w) (bucket1 w b) (chain1 w b)
  pub free_chain : Leads (next_card1 w) (word1 w 7) (free1 w)
  pub history_chain : (i : ℕ) → In i (held1 w) → Leads (next_fault1 w) (card1 w i 6) (history1 w i)
  pub free_fault_chain : Leads (next_fault1 w) (word1 w 8) (free_faults1 w)
  pub card_cells : ExactlyOnce (cards1 w) (free1 w ++ held1 w)
  pub fault_cells : ExactlyOnce (faults1 w) (free_faults1 w ++ filed1 w)
  -- each card in its addressed bucket, no serial twice, serials and faults valid
  pub addressed : (b i : ℕ) → b < buckets1 w → In i (chain1 w b) → address_of (code_of (serial1 w i)) (word1 w 3) (word1 w 4) ≡ b
  pub different : (i j : ℕ) → In i (held1 w) → In j (held1 w) → serial1 w i ≡ serial1 w j → i ≡ j
  pub serials : (i : ℕ) → In i (held1 w) → serial_ok (serial1 w i) ≡ true
  pub faults : (i k : ℕ) → In i (held1 w) → In k (history1 w i) → valid_fault (fault1 w k 1) (fault1 w k 2) ≡ true
  -- padding, free cells (but for their next words), unused segments and bucket words from B on are zero
  pub padding : (i : ℕ) → In i (held1 w) → all (eqb 0) (drop (card1 w i 1) (bytes1 w i)) ≡ true
  pub free_zero : (i k : ℕ) → In i (free1 w) → 1 ≤ k → k < 9 → card1 w i k ≡ 0
  pub free_faults_zero : (i k : ℕ) → In i (free_faults1 w) → 1 ≤ k → k < 3 → fault1 w i k ≡ 0
  pub unused_zero : (b : ℕ) → buckets1 w ≤ b → b < 256 → bucket1 w b ≡ 0
  -- counts and last-fault words are true
  pub cards_held : word1 w 5 ≡ length (held1 w)
  pub faults_held : word1 w 6 ≡ length (filed1 w)
  pub serial_lengths : (i : ℕ) → In i (held1 w) → card1 w i 1 ≡ length (serial1 w i)
  pub fault_counts : (i : ℕ) → In i (held1 w) → card1 w i 8 ≡ length (history1 w i)
  pub last_faults : (i : ℕ) → In i (held1 w) → card1 w i 7 ≡ last (history1 w i)
