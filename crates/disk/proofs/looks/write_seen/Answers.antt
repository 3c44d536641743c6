-- `disk::looks::write_seen` meets its contract: whatever is told has room.
use Rattle.std.proofs.Common.{arith}
use Rattle.disk.specs.Check.{seen_in}
use Rattle.disk.proofs.Telling.{told_most}
use Rattle.disk.proofs.looks.write_seen.Goals as goal

pub put_seen-requires : goal.put_seen-requires
put_seen-requires c = omega (arith, c.requires, told_most (seen_in c.args.seen))
