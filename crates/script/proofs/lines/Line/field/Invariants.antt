use Rattle.std.proofs.Common.{◌≡◌, ◌-◌}
use Rattle.script.specs.Lines.{behind}
use Rattle.script.proofs.lines.Line.field.Given as goal

abbrev pub invariant-loop-i : goal.invariant-loop-i
invariant-loop-i l = behind l.rest 32 (l.k - l._i) ≡ behind l.fn.self.bytes.now 32 l.k
