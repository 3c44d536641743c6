-- `text::sink::put_text` meets its contract: the bytes from the index on are what is left to put. Assumes nothing.
use Rattle.std.proofs.Common.{suc, [], ◌∷◌, add-one, arith, drop, drop-cons, drop_of_length-le, get_or}
use Rattle.text.proofs.Sinking.{left_all, left_less, left_room, left_none}
use Rattle.text.proofs.sink.put_text.Goals as goal

pub loop-byte-init : goal.loop-byte-init
loop-byte-init g c = (omega arith, left_all g.met.S.Sink.laws)

pub put_byte-requires : goal.put_byte-requires
put_byte-requires g c =
    let t = c.args.text.now in
    let i = c.loop-byte.byte-index in
    omega (arith, left_room g.met.S.Sink.laws (get_or t i 0 ∷ drop (suc i) t) (rw (drop-cons t i 0 c.loop-byte-test.true) at c.loop-byte.invariant.1) c.requires)

pub loop-byte-preserved : goal.loop-byte-preserved
loop-byte-preserved g c =
    let t = c.args.text.now in
    let i = c.loop-byte.byte-index in (
      omega arith,
      rw (add-one i) (left_less g.met.S.Sink.laws (get_or t i 0 ∷ []) (drop (suc i) t) (rw (drop-cons t i 0 c.loop-byte-test.true) at c.loop-byte.invariant.1) c.put_byte.ensures),
    )

pub returns : goal.returns
returns g c = left_none g.met.S.Sink.laws (rw (drop_of_length-le c.args.text.now c.loop-byte-test.false) at c.loop-byte.invariant.1)
