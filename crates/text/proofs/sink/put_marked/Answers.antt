-- `text::sink::put_marked` meets its contract: the mark, and the number behind it. Assumes nothing.
use Rattle.std.proofs.Common.{[], ◌∷◌, arith}
use Rattle.model.specs.Text.{decimal}
use Rattle.text.specs.Decimals.{marked}
use Rattle.text.proofs.Sinking.{room_then, takes_then}
use Rattle.text.proofs.sink.put_marked.Goals as goal

pub put_byte-requires : goal.put_byte-requires
unfolding marked
put_byte-requires g c = omega arith

pub put_decimal-requires : goal.put_decimal-requires
unfolding marked
put_decimal-requires g c = let t = c.args in room_then g.met.S.Sink.laws (t.mark ∷ []) (decimal t.number) c.put_byte.ensures c.requires

pub returns : goal.returns
unfolding marked
returns g c = let t = c.args in takes_then g.met.S.Sink.laws (t.mark ∷ []) (decimal t.number) c.put_byte.ensures c.put_decimal.ensures
