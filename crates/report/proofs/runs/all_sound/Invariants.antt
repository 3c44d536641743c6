use Rattle.report.proofs.RunLaws.{Testing}
use Rattle.report.proofs.runs.all_sound.Given as goal

abbrev pub invariant-loop-len : goal.invariant-loop-len
invariant-loop-len l = Testing l.words l.lengths l.initial.scratch l.scratch l.rest l.len-index
