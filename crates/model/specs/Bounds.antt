-- Bounds that all formats keep to. No rule is made of them: laws cite them, and contracts of functions inside the store, so that a further format moves
-- them here, once.
use Rattle.std.specs.Prelude.{ℕ}

-- the fewest and the most words of a card cell, and the fewest entries of a directory
abbrev pub least_width : ℕ
least_width = 9

abbrev pub most_width : ℕ
most_width = 9

abbrev pub least_entries : ℕ
least_entries = 16

-- the most cards that a store can hold, and a number above every whole length
abbrev pub cards_ever : ℕ
cards_ever = 1024

abbrev pub farthest : ℕ
farthest = 65536
