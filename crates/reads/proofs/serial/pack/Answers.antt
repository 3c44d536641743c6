-- `serial::pack` meets its contract: four bytes with the first highest are a word of the serial.
use Rattle.reads.proofs.SerialLaws.{four_packed}
use Rattle.reads.proofs.serial.pack.Goals as goal

pub returns : goal.returns
returns c = let e = four_packed c.args.s in cc (e 0, e 4, e 8, e 12)
