use Rattle.std.proofs.Common.{◌≤◌, length, drop}
use Rattle.text.proofs.Sinking.{Left}
use Rattle.text.proofs.sink.put_text.Given as goal

abbrev pub invariant-loop-byte : goal.invariant-loop-byte
invariant-loop-byte g l = (l.byte-index ≤ length l.text) × Left g.S.Sink.Takes l.initial.sink l.text l.sink (drop l.byte-index l.text)
