-- `disk::texts::put_pair` meets its contract: four texts, one behind another.
use Rattle.std.proofs.Common.{◌++◌}
use Rattle.model.specs.Text.{decimal}
use Rattle.text.proofs.Sinking.{room_first, room_then, takes_then}
use Rattle.disk.specs.Desk.{number_line}
use Rattle.disk.specs.Check.{pair_line}
use Rattle.disk.proofs.texts.put_pair.Goals as goal

pub put_text-requires : goal.put_text-requires
unfolding pair_line
put_text-requires g c = let t = c.args in room_first t.word.now (decimal t.a ++ (t.between.now ++ number_line t.b)) c.requires

pub put_decimal-requires : goal.put_decimal-requires
unfolding pair_line
put_decimal-requires g c =
    let t = c.args in
    let rest = t.between.now ++ number_line t.b in
    room_first (decimal t.a) rest (room_then g.met.S.Sink.laws t.word.now (decimal t.a ++ rest) c.put_text.ensures c.requires)

pub put_text-requires-2 : goal.put_text-requires-2
unfolding pair_line
put_text-requires-2 g c =
    let t = c.args in
    let rest = t.between.now ++ number_line t.b in
    room_first t.between.now (number_line t.b)
    (room_then g.met.S.Sink.laws (decimal t.a) rest c.put_decimal.ensures (room_then g.met.S.Sink.laws t.word.now (decimal t.a ++ rest) c.put_text.ensures c.requires))

pub put_line-requires : goal.put_line-requires
unfolding pair_line
put_line-requires g c =
    let t = c.args in
    let rest = t.between.now ++ number_line t.b in
    room_then g.met.S.Sink.laws t.between.now (number_line t.b) c.put_text-2.ensures
    (room_then g.met.S.Sink.laws (decimal t.a) rest c.put_decimal.ensures (room_then g.met.S.Sink.laws t.word.now (decimal t.a ++ rest) c.put_text.ensures c.requires))

pub returns : goal.returns
unfolding pair_line
returns g c =
    let t = c.args in
    let rest = t.between.now ++ number_line t.b in
    takes_then g.met.S.Sink.laws t.word.now (decimal t.a ++ rest) c.put_text.ensures
    (takes_then g.met.S.Sink.laws (decimal t.a) rest c.put_decimal.ensures (takes_then g.met.S.Sink.laws t.between.now (number_line t.b) c.put_text-2.ensures c.put_line.ensures))
