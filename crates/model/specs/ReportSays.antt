-- What a report tells whoever reads it: the numbers of each line of its bytes, and what they have to be. How the bytes are made has no part in it.
use Rattle.std.specs.Prelude.{ℕ, ◌*◌, ◌/◌, ◌%◌, List, [], ◌∷◌, ◌++◌, map, cond, eqb, length}
use Rattle.model.specs.Lists.{total}
use Rattle.model.specs.Plain.{Slip}
use Rattle.model.specs.Text.{space, fields, lines_of, value_from}
use Rattle.model.specs.Report.{entries_of, cards_with, earliest, latest, codes_in}

-- a text as lines of numbers, with spaces between those of a line
unfoldable pub numbers_of : List ℕ → List (List ℕ)
numbers_of text = map (λ y. map (value_from 0) (fields space y)) (lines_of text)

-- the line of a code: the code, its entries, the cards that have it, its earliest and its latest day
abbrev pub code_says : List (List Slip) → ℕ → List ℕ
code_says hs k = k ∷ entries_of k hs ∷ cards_with k hs ∷ earliest k hs ∷ latest k hs ∷ []

-- the lines of the totals: all cards, all entries, and entries per thousand cards as whole part and remainder, left out with no cards
abbrev pub totals_say : ℕ → ℕ → List (List ℕ)
totals_say cards entries =
    (cards ∷ []) ∷ (entries ∷ []) ∷ cond (eqb cards 0) [] ((1000 * entries / cards ∷ 1000 * entries % cards ∷ []) ∷ [])

-- the report over the histories of all cards: the codes that occur, rising, and then the totals
abbrev pub report_says : List (List Slip) → List (List ℕ)
report_says hs = map (code_says hs) (codes_in hs) ++ totals_say (length hs) (total length hs)
