-- `job::answers::put_pairs` meets its contract: the pairs that the iterator has left are what is left to put. Assumes nothing.
use Rattle.std.proofs.Common.{◌∙◌, get_or, arith}
use Rattle.text.proofs.Sinking.{left_all, left_less, left_room, left_none, room_first}
use Rattle.job.specs.Answers.{pair_of}
use Rattle.job.proofs.AnswerLaws.{pairs_of, pairs_taken, pairs_front, pairs_end}
use Rattle.job.proofs.answers.put_pairs.Goals as goal

pub loop-pair-init : goal.loop-pair-init
loop-pair-init g c =
    let e = c.chunks_exact-pair-items.ensures in
    rw c.into_iter-pair-iterator.ensures.into_iter_gives
    (record { size_is = e.size; left = rw (e.rest, ← (pairs_taken c.args.count c.args.room.now c.requires.pairs)) (left_all g.met.S.Sink.laws) })

pub put_pair-requires : goal.put_pair-requires
put_pair-requires g c =
    let x = c.in-Some.pair.now in
    let rest = c.next.new.self.rest.now in
    let e = c.in-Some.ensures.steps.1 in
    room_first (pair_of (get_or x 0 0) (get_or x 1 0)) (pairs_of rest)
    (left_room g.met.S.Sink.laws _ (rw (e.0, pairs_front x rest (e.1 ∙ c.loop-pair.invariant.size_is)) at c.loop-pair.invariant.left) c.requires.fits)

pub loop-pair-preserved : goal.loop-pair-preserved
loop-pair-preserved g c =
    let x = c.in-Some.pair.now in
    let rest = c.next.new.self.rest.now in
    let e = c.in-Some.ensures.steps.1 in
    record {
      size_is = c.in-Some.ensures.steps.0 ∙ c.loop-pair.invariant.size_is;
      left = left_less g.met.S.Sink.laws (pair_of (get_or x 0 0) (get_or x 1 0)) (pairs_of rest) (rw (e.0, pairs_front x rest (e.1 ∙ c.loop-pair.invariant.size_is)) at c.loop-pair.invariant.left) c.put_pair.ensures;
    }

pub returns : goal.returns
returns g c =
    left_none g.met.S.Sink.laws (rw (pairs_end c.loop-pair.pair-iterator.rest.now (omega (arith, c.in-None.ensures.steps.1.0, c.loop-pair.invariant.size_is))) at c.loop-pair.invariant.left)
