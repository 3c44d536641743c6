-- `disk::texts::write_line` meets its contract: any number and LF have room.
use Rattle.std.proofs.Common.{arith}
use Rattle.disk.proofs.Telling.{line_most}
use Rattle.disk.proofs.texts.write_line.Goals as goal

pub put_line-requires : goal.put_line-requires
put_line-requires c = omega (arith, c.requires, line_most c.args.n)
