-- The report over one to eight files, which stand one behind another, with their sizes in bytes.
use Rattle.std.specs.Prelude.{ℕ, ◌/◌, ◌≡◌, Bool, not, ◌&&◌, cond, List, [], map, eqb, length}
use Rattle.model.specs.Lists.{between, all, total}
use Rattle.model.specs.Numbers.{not_sound, bad_stores}
use Rattle.model.specs.Report.{most_stores, need_of, Reported, refused_report, report_call}
use Rattle.store.specs.Leaves.{Tells}
use Rattle.store.specs.declared.answer.Wrote.{Wrote}
use Rattle.reader.specs.Depot.{blank}
use Rattle.disk.specs.Bytes.{words_of}
use Rattle.disk.specs.Desk.{sized}

-- how many words a file of so many bytes has
abbrev pub words_in : ℕ → ℕ
words_in n = n / 4

-- each is a length that a store's file can have, and they add up to n
unfoldable pub sizes_ok : ℕ → List ℕ → Bool
sizes_ok n sizes = all sized sizes && eqb (total (λ k. k) sizes) n

-- the model's report on their words, with as much scratch as it needs
abbrev pub report_on : List ℕ → List ℕ → List ℕ → Reported
report_on run ns out = report_call run ns (blank (need_of run ns)) out

-- 14 unless there are one to eight files; 3 where their sizes are no stores'; else the report
unfoldable pub desk_report : List ℕ → List ℕ → List ℕ → Reported
desk_report files sizes out =
    cond (not (between 1 most_stores (length sizes))) (refused_report bad_stores out [])
    (cond (not (sizes_ok (length files) sizes)) (refused_report not_sound out [])
    (report_on (words_of files) (map words_in sizes) out))

-- what the program gives and writes, held to it
pub record Reports (o : Reported) (r : Wrote) (out : List ℕ) : Type 0 where
  pub answer : Tells o.number o.count r
  pub out_is : out ≡ o.out
