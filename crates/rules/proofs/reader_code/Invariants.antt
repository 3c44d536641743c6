use Rattle.std.proofs.Common.{◌≡◌, drop}
use Rattle.rules.specs.Code.{code_from, code_of}
use Rattle.rules.proofs.reader_code.Given as goal

abbrev pub invariant-loop-byte : goal.invariant-loop-byte
invariant-loop-byte l = code_from l.code (drop l.byte-index l.bytes) ≡ code_of l.bytes
