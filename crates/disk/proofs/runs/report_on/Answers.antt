-- `disk::runs::report_on` meets its contract: the scratch is as long as a report over these stores needs.
use Rattle.reader.specs.Depot.{blank}
use Rattle.disk.proofs.Summing.{need_all}
use Rattle.disk.proofs.runs.report_on.Goals as goal

pub returns : goal.returns
unfolding blank
returns c = let a = c.args in let e = c.report.ensures in rw (need_all a.words.now a.lengths.now) (record { answer = e.answer; out_is = e.out_is })
