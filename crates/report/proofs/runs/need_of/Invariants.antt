use Rattle.report.proofs.RunLaws.{Needing}
use Rattle.report.proofs.runs.need_of.Given as goal

abbrev pub invariant-loop-len : goal.invariant-loop-len
invariant-loop-len l = Needing l.words l.lengths l.len-items l.most l.rest l.len-index
