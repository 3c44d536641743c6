-- The example of docs/REPORT.md, by computing the definitions: six cards in two stores, four faults.
use Prim.Native.Nat.{ℕ}
use mathlib.Core.Path.{◌≡◌, refl}
use mathlib.Core.List.{List, [], ◌∷◌}
use Rattle.model.specs.Plain.{Slip}
use Rattle.model.specs.Text.{digits, decimal}
use Rattle.model.specs.Report.{entries_of, cards_with, lowest, highest, earliest, latest, codes_in, numbers_line, code_line, rate_line, total_lines, report_text}

abbrev fault : ℕ → ℕ → Slip
fault day code = record { day = day; code = code }

-- the first reader's 7, 07 and 007, the second one's 7, A-1 and B-22
abbrev held_cards : List (List Slip)
held_cards = (fault 100 12 ∷ fault 130 12 ∷ []) ∷ [] ∷ (fault 90 40 ∷ []) ∷ (fault 110 12 ∷ []) ∷ [] ∷ [] ∷ []

pub report_example : report_text held_cards ≡ 49 ∷ 50 ∷ 32 ∷ 51 ∷ 32 ∷ 50 ∷ 32 ∷ 49 ∷ 48 ∷ 48 ∷ 32 ∷ 49 ∷ 51 ∷ 48 ∷ 10 ∷ 52 ∷ 48 ∷ 32 ∷ 49 ∷ 32 ∷ 49 ∷ 32 ∷ 57 ∷ 48 ∷ 32 ∷ 57 ∷ 48 ∷ 10 ∷ 54 ∷ 10 ∷ 52 ∷ 10 ∷ 54 ∷ 54 ∷ 54 ∷ 32 ∷ 52 ∷ 10 ∷ []
unfolding report_text total_lines rate_line code_line numbers_line codes_in latest earliest highest lowest cards_with entries_of decimal digits
report_example = refl
