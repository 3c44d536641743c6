-- A run of stores as the code goes along it: a scratch that is clean, and all histories noted.
use Rattle.std.specs.Prelude.{◌≡◌, List, ℕ, ◌≤◌, length}
use Rattle.model.specs.Lists.{total}
use Rattle.model.specs.Calls.{cleaned}
use Rattle.model.specs.Report.{pieces, all_histories}
use Rattle.report.specs.Rows.{blank, note_all}
use Rattle.report.specs.declared.rows.Row.{Row}
use Rattle.report.specs.declared.totals.Totals.{Totals}

-- a scratch of n bytes and more, the first n of which are zero
pub record Clean (n : ℕ) (scratch : List ℕ) : Type 0 where
  pub long : n ≤ length scratch
  pub zero : cleaned n scratch ≡ scratch

-- all histories of the run noted in blank rows, and the totals
pub record NotedAll (run lengths : List ℕ) (r : Totals) (rows : List Row) : Type 0 where
  pub rows_are : rows ≡ note_all blank 0 (all_histories (pieces run lengths))
  pub cards_are : r.cards ≡ length (all_histories (pieces run lengths))
  pub entries_are : r.entries ≡ total length (all_histories (pieces run lengths))
