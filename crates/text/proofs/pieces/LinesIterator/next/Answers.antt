-- The next line is the first of those that are left. Assumes nothing.
use Rattle.std.proofs.Common.{rules}
use Rattle.text.proofs.PieceLaws.{no_lines, last_line, first_line}
use Rattle.text.proofs.pieces.LinesIterator.next.Goals as goal

pub returns-then-is_empty-clause-steps : goal.returns-then-is_empty-clause-steps
returns-then-is_empty-clause-steps c = let t = c.args.self.now.rest.now in let e = no_lines t (search rules) in (e, e)

pub returns-in_default-clause-steps : goal.returns-in_default-clause-steps
returns-in_default-clause-steps c = last_line c.args.self.now.rest.now (search rules) c.in_default.ensures

pub returns-clause-steps : goal.returns-clause-steps
returns-clause-steps c = first_line c.args.self.now.rest.now c.in-Some.line.now c.in-Some.rest.now c.in-Some.ensures
