-- `report::runs::need_of` meets its contract: the loop keeps `Needing` over the first eight lengths.
use Rattle.report.proofs.RunLaws.{needing_start, needing_end, needing_next}
use Rattle.report.proofs.runs.need_of.Goals as goal

pub loop-len-init : goal.loop-len-init
loop-len-init c = rw c.min.ensures (needing_start _ _ c.need-most.ensures)

pub loop-len-preserved : goal.loop-len-preserved
loop-len-preserved c =
    let s = c.split_at.ensures in
    needing_next c.loop-len.invariant c.loop-len-test.true c.min-in-loop-len.ensures s.front s.back c.need.ensures c.max-most.ensures

pub returns : goal.returns
returns c = needing_end c.loop-len.invariant c.loop-len-test.false
