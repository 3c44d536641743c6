-- What a report writes lies within the output.
use mathlib.Core.Path.{sym}
use lib.Seq.{length-take-le}
use Rattle.disk.proofs.Summing.{report_within}
use Rattle.desk.proofs.shows.report.Goals as goal

pub slice_bounds-out-end : goal.slice_bounds-out-end
slice_bounds-out-end c = report_within _ _ _ c.in-Ok.ensures

pub slice_bounds-show-end : goal.slice_bounds-show-end
slice_bounds-show-end c = sym (length-take-le c.in-Ok.len _ (report_within _ _ _ c.in-Ok.ensures))
