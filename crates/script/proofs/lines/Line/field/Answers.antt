-- `Line::field` meets its contract: each turn goes behind one mark more, and one mark less is left.
use Rattle.std.proofs.Common.{◌≡◌, ◌+◌, ◌-◌, suc, arith}
use Rattle.script.proofs.lines.Line.field.Goals as goal

pub loop-i-preserved : goal.loop-i-preserved
loop-i-preserved c =
    let more : c.args.k - c.loop-i._i ≡ suc (c.args.k - (c.loop-i._i + 1)) = omega arith in
    rw (c.cut.ensures.back, c.cut.ensures.front) (rw more at c.loop-i.invariant)
