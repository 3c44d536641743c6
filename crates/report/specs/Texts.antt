-- The text of a report from the rows of the codes and the totals.
use Rattle.std.specs.Prelude.{cond, List, [], ◌∷◌, ◌++◌, map, ℕ, ◌*◌, eqb}
use Rattle.model.specs.Lists.{join, from}
use Rattle.model.specs.Serial.{most_code}
use Rattle.model.specs.Report.{numbers_line, total_lines, written_report}
use Rattle.store.specs.declared.answer.Wrote.{Wrote}
use Rattle.report.specs.Rows.{row_of}
use Rattle.report.specs.declared.rows.Row.{Row}
use Rattle.report.specs.Reports.{Reports}
use Rattle.report.specs.declared.totals.Totals.{Totals}

-- the line of a code, none where it has no entry
unfoldable pub row_line : ℕ → Row → List ℕ
row_line k r = cond (eqb r.entries 0) [] (numbers_line (k ∷ r.entries ∷ r.cards ∷ r.earliest ∷ r.latest ∷ []))

-- the lines of the n codes from k on
unfoldable pub row_lines : List Row → ℕ → ℕ → List ℕ
row_lines rows k n = join (map (λ k. row_line k (row_of rows k)) (from k n))

-- all of it
unfoldable pub text_of : List Row → Totals → List ℕ
text_of rows t = row_lines rows 1 most_code ++ total_lines t.cards t.entries

-- the most bytes of n numbers: ten digits each, and the space or the LF behind it
abbrev pub longest_of : ℕ → ℕ
longest_of n = 11 * n

-- of a code's line, which has five numbers, and of the totals, which have four
abbrev pub longest_row : ℕ
longest_row = longest_of 5

abbrev pub longest_totals : ℕ
longest_totals = longest_of 4

-- a text at the front of an output, or number 10 and nothing where it does not fit; the scratch has no part in it
abbrev pub PutsReport : List ℕ → List ℕ → Wrote → List ℕ → Type 0
PutsReport text out r left = Reports (written_report text out []) r left []
