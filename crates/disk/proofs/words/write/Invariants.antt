-- The bytes so far, with those of the words that are left, are all bytes.
use Rattle.std.proofs.Common.{◌≡◌, ◌*◌, ◌++◌, take, drop}
use Rattle.disk.specs.Bytes.{file_of}
use Rattle.disk.proofs.words.write.Given as goal

abbrev pub invariant-loop-i : goal.invariant-loop-i
invariant-loop-i l = take (4 * l.i) l.bytes ++ file_of (drop l.i l.words) ≡ file_of l.words
