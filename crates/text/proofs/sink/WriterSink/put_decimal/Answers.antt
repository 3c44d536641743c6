-- `put_decimal` into a writer meets its contract: a number has a digit, so where the number fits the place lies within. Assumes nothing.
use Rattle.std.proofs.Common.{arith}
use Rattle.text.proofs.DecimalLaws.{decimal_least}
use Rattle.text.proofs.sink.WriterSink.put_decimal.Goals as goal

pub put_decimal-self-requires : goal.put_decimal-self-requires
put_decimal-self-requires c = omega (arith, decimal_least c.args.number)
