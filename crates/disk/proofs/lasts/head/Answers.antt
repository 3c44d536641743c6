-- `disk::lasts::head` meets its contract: the four lowest of a number's bytes.
use Rattle.std.proofs.Common.{length, ◌/◌}
use Rattle.disk.specs.Last.{head_of}
use Rattle.disk.proofs.Bytes.{four_is}
use Rattle.disk.proofs.lasts.head.Goals as goal

pub returns : goal.returns
unfolding head_of
returns c = rw c.to_le_bytes.ensures (four_is (length c.args.file.now / 4))
