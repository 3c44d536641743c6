-- `disk::texts::put_line` meets its contract: the number and LF, one behind the other.
use Rattle.std.proofs.Common.{[], ◌∷◌, arith}
use Rattle.model.specs.Text.{decimal}
use Rattle.text.proofs.Sinking.{room_first, room_then, takes_then}
use Rattle.disk.specs.Desk.{number_line}
use Rattle.disk.proofs.texts.put_line.Goals as goal

pub put_decimal-requires : goal.put_decimal-requires
unfolding number_line
put_decimal-requires g c = room_first (decimal c.args.n) (10 ∷ []) c.requires

pub put_byte-requires : goal.put_byte-requires
unfolding number_line
put_byte-requires g c = omega (arith, room_then g.met.S.Sink.laws (decimal c.args.n) (10 ∷ []) c.put_decimal.ensures c.requires)

pub returns : goal.returns
unfolding number_line
returns g c = takes_then g.met.S.Sink.laws (decimal c.args.n) (10 ∷ []) c.put_decimal.ensures c.put_byte.ensures
