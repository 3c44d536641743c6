-- `Bench::run_group` is safe: a report that is not refused is over stores that are sound, and over no more of them than it takes.
use Rattle.std.proofs.Common.{◌≡◌, ℕ, ◌≤◌, true, false, Result, Ok, Err, is_err, List, length, sym, ◌∙◌}
use Rattle.model.specs.Report.{most_stores, run_sound, report_call}
use Rattle.model.proofs.ReportCalls.{report_numbers}
use Rattle.store.specs.declared.numbers.Refusal.{Refusal}
use Rattle.store.specs.Leaves.{wrote_of}
use Rattle.report.specs.Reports.{Reports}
use Rattle.bench_report.proofs.Bench.run_group.Goals as goal

done_sound : (run ns scratch out : List ℕ) (r : Result ℕ Refusal) {left marks : List ℕ} → Reports (report_call run ns scratch out) (wrote_of r) left marks → is_err r ≡ false
    → (run_sound run ns ≡ true) × (length ns ≤ most_stores)
done_sound run ns scratch out (Ok count) h z =
    let n = (report_numbers run ns scratch out).done.0 (sym h.answer.number_is) in
    (n.0.1, n.0.0.2)
done_sound run ns scratch out (Err refusal) h z = cc

pub report_sound-second-requires : goal.report_sound-second-requires
report_sound-second-requires c = done_sound _ _ _ _ _ c.report-first.ensures (sym c.is_err.ensures.value ∙ c.if-is_err.false)
