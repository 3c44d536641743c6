use Rattle.report.proofs.RunLaws.{Adding}
use Rattle.report.proofs.runs.note_all.Given as goal

abbrev pub invariant-loop-len : goal.invariant-loop-len
invariant-loop-len l = Adding l.words l.lengths l.rows l.t.0 l.t.1.0 l.rest l.len-index
