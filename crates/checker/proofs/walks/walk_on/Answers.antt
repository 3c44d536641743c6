-- `walks::walk_on` meets its contract: chain j is one of its part, and is walked from its first cell.
use Rattle.checker.proofs.PartRuns.{suits_chain}
use Rattle.checker.proofs.walks.walk_on.Goals as goal

pub walk-requires : goal.walk-requires
walk-requires g c = let p = c.requires in (p.0, rw c.chain.ensures (suits_chain p.0.read g.P.Part.faults _ p.1))
