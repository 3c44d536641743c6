-- `main` is safe: an array has as many elements as it was made of.
use Rattle.std.proofs.Common.{ℕ, sym}
use Rattle.std.proofs.lemmas.List.{length-replicate}
use Rattle.bench_report.proofs.main.Goals as goal

pub slice_bounds-read_full-end : goal.slice_bounds-read_full-end
slice_bounds-read_full-end c = sym (length-replicate {0} {A = ℕ} 524288 0)

pub slice_bounds-run_input-end-3 : goal.slice_bounds-run_input-end-3
slice_bounds-run_input-end-3 c = sym (length-replicate {0} {A = ℕ} 524288 0)
