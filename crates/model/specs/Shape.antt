-- What a store keeps for life: its format, its limits and its load bounds. The layout, growth and soundness go by it.
use Rattle.std.specs.Prelude.{ℕ, ◌+◌, ◌*◌, ◌/◌}

pub record Shape : Type 0 where
  pub format : ℕ
  pub limit : ℕ
  pub fault_limit : ℕ
  pub upper : ℕ
  pub lower : ℕ

-- the buckets of a segment, the entries of the directory, and the most buckets that they make
abbrev pub segment_size : ℕ
segment_size = 16

unfoldable pub entries : Shape → ℕ
entries sh = 16

abbrev pub top_of : Shape → ℕ
top_of sh = segment_size * entries sh

-- the words of a card cell
unfoldable pub card_width : Shape → ℕ
card_width sh = 9

-- the highest card limit and fault limit
unfoldable pub most_cards : Shape → ℕ
most_cards sh = 1024

unfoldable pub most_faults : Shape → ℕ
most_faults sh = 2048

-- the most faults that a store of any format can hold
abbrev pub faults_ever : ℕ
faults_ever = 2048

-- the bytes of scratch that the checker takes, one bit a cell
unfoldable pub need : Shape → ℕ
need sh = (most_cards sh + most_faults sh) / 8
