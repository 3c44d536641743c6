-- `reader::put_closing` meets its contract: four numbers, and LF behind them. Assumes nothing.
use Rattle.std.proofs.Common.{[], ◌∷◌, arith}
use Rattle.text.proofs.Sinking.{room_first, room_then, takes_then}
use Rattle.job.specs.Answers.{numbers_of}
use Rattle.reader.proofs.Closing.{line_is}
use Rattle.reader.proofs.put_closing.Goals as goal

pub put_numbers-requires : goal.put_numbers-requires
put_numbers-requires g c =
    let n = c.args.number in
    room_first (numbers_of n 0 0 0) (10 ∷ []) (rw (line_is n) at c.requires)

pub put_byte-requires : goal.put_byte-requires
put_byte-requires g c =
    let n = c.args.number in
    omega (arith, room_then g.met.S.Sink.laws (numbers_of n 0 0 0) (10 ∷ []) c.put_numbers.ensures (rw (line_is n) at c.requires))

pub returns : goal.returns
returns g c =
    let n = c.args.number in
    rw (line_is n) (takes_then g.met.S.Sink.laws (numbers_of n 0 0 0) (10 ∷ []) c.put_numbers.ensures c.put_byte.ensures)
