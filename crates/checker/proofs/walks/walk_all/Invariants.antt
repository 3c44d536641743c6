use Rattle.checker.specs.Checker.{next_in, start_of, base_of}
use Rattle.reads.specs.Cells.{shape_in, limit_of}
use Rattle.checker.proofs.WalkLaws.{Holding}
use Rattle.checker.proofs.walks.walk_all.Given as goal

abbrev pub invariant-loop-j : goal.invariant-loop-j
invariant-loop-j g l =
    Holding (start_of (shape_in l.view.header) l.view.words.now g.P.Part.faults) (next_in (shape_in l.view.header) l.view.words.now g.P.Part.faults) l.initial.scratch (base_of (shape_in l.view.header) g.P.Part.faults) (limit_of (shape_in l.view.header) g.P.Part.faults) l.n l.scratch l.j l.total
