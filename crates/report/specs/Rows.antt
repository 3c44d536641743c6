-- A row for each code, and what each fault of a history does to its code's row.
use Rattle.std.specs.Prelude.{◌≡◌, Bool, cond, List, [], ◌∷◌, map, ℕ, suc, ◌+◌, ◌<◌, min, max, leb, eqb, length, get_or, slice_set, replicate}
use Rattle.model.specs.Lists.{all, total}
use Rattle.model.specs.Serial.{most_code}
use Rattle.model.specs.Shape.{Shape}
use Rattle.model.specs.Plain.{Slip, slip}
use Rattle.model.specs.Report.{histories_in}
use Rattle.reads.specs.Chains.{faults_from}
use Rattle.report.specs.declared.rows.Row.{Row}
use Rattle.report.specs.declared.totals.Totals.{Totals}

-- how many rows there are: one for each code and one for 0, which no fault has
abbrev pub rows_long : ℕ
rows_long = most_code + 1

-- a row with no entry, and all rows so
abbrev pub zero_row : Row
zero_row = record { entries = 0; cards = 0; earliest = 0; latest = 0; seen = 0 }

unfoldable pub blank : List Row
blank = replicate rows_long zero_row

-- the row of a code
unfoldable pub row_of : List Row → ℕ → Row
row_of rows k = get_or rows k zero_row

-- with a fault of card n more: the cards that have its code, and the earliest and the latest day
unfoldable pub cards_after : ℕ → ℕ → ℕ → ℕ
cards_after cards seen n = cond (eqb seen n) cards (cards + 1)

unfoldable pub earliest_after : ℕ → ℕ → ℕ → ℕ
earliest_after entries earliest day = cond (eqb entries 0) day (min earliest day)

unfoldable pub latest_after : ℕ → ℕ → ℕ
latest_after latest day = max latest day

-- the row with it
unfoldable pub note_row : ℕ → ℕ → Row → Row
note_row n day r =
    record {
      entries = r.entries + 1;
      cards = cards_after r.cards r.seen n;
      earliest = earliest_after r.entries r.earliest day;
      latest = latest_after r.latest day;
      seen = n;
    }

-- the rows with it, with a history of card n, and with the histories of the cards behind the first n
unfoldable pub noted : List Row → ℕ → Slip → List Row
noted rows n f = slice_set rows f.code (note_row n f.day (row_of rows f.code))

unfoldable pub note_history : List Row → ℕ → List Slip → List Row
note_history rows n [] = rows
note_history rows n (f ∷ fs) = note_history (noted rows n f) n fs

unfoldable pub note_all : List Row → ℕ → List (List Slip) → List Row
note_all rows n [] = rows
note_all rows n (h ∷ hs) = note_all (note_history rows (suc n) h) (suc n) hs

abbrev pub slip_of : ℕ → ℕ → Slip
slip_of day code = record { day = day; code = code }

-- the history from fault cell h on
unfoldable pub slips_from : Shape → List ℕ → ℕ → List Slip
slips_from sh w h = map slip (faults_from sh w h)

-- no code is beyond the rows
unfoldable pub codes_fit : List Slip → Bool
codes_fit fs = all (λ f. leb f.code most_code) fs

-- a number that no word of 32 bits has
abbrev pub word_top : ℕ
word_top = 4294967296

-- each row can take so many faults more: no count in it passes 32 bits
pub record Takes (rows : List Row) (more : ℕ) : Type 0 where
  pub long : length rows ≡ rows_long
  pub entries : (k : ℕ) → (row_of rows k).entries + more < word_top
  pub cards : (k : ℕ) → (row_of rows k).cards + more < word_top

-- the histories of the words w noted behind those of `before`, and the totals with theirs
pub record Noted (w : List ℕ) (before : Totals) (rows : List Row) (r : Totals) (left : List Row) : Type 0 where
  pub rows_are : left ≡ note_all rows before.cards (histories_in w)
  pub cards_are : r.cards ≡ before.cards + length (histories_in w)
  pub entries_are : r.entries ≡ before.entries + total length (histories_in w)
