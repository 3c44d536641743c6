-- `job::answers::put_line` meets its contract: the numbers, the pairs and LF, each behind the one before. Assumes nothing.
use Rattle.std.proofs.Common.{[], ◌∷◌, ◌++◌, arith}
use Rattle.model.specs.Job.{pair_text}
use Rattle.text.proofs.Sinking.{room_first, room_then, takes_then}
use Rattle.job.specs.Answers.{numbers_of, answer_of}
use Rattle.job.proofs.answers.put_line.Goals as goal

pub put_numbers-requires : goal.put_numbers-requires
unfolding answer_of
put_numbers-requires g c =
    let t = c.args in
    let a = t.answer in
    room_first (numbers_of a.number a.comparisons a.scanned a.faults) (pair_text t.count t.room.now ++ (10 ∷ [])) c.requires.fits

pub put_pairs-requires : goal.put_pairs-requires
unfolding answer_of
put_pairs-requires g c =
    let t = c.args in
    let a = t.answer in
    let pairs = pair_text t.count t.room.now in
    record {
      pairs = c.requires.pairs;
      fits = room_first pairs (10 ∷ []) (room_then g.met.S.Sink.laws (numbers_of a.number a.comparisons a.scanned a.faults) (pairs ++ (10 ∷ [])) c.put_numbers.ensures c.requires.fits);
    }

pub put_byte-requires : goal.put_byte-requires
unfolding answer_of
put_byte-requires g c =
    let t = c.args in
    let a = t.answer in
    let laws = g.met.S.Sink.laws in
    let pairs = pair_text t.count t.room.now in
    omega (
      arith,
      room_then laws pairs (10 ∷ []) c.put_pairs.ensures
          (room_then laws (numbers_of a.number a.comparisons a.scanned a.faults) (pairs ++ (10 ∷ [])) c.put_numbers.ensures c.requires.fits),
    )

pub returns : goal.returns
unfolding answer_of
returns g c =
    let t = c.args in
    let a = t.answer in
    let laws = g.met.S.Sink.laws in
    let pairs = pair_text t.count t.room.now in
    takes_then laws (numbers_of a.number a.comparisons a.scanned a.faults) (pairs ++ (10 ∷ [])) c.put_numbers.ensures
    (takes_then laws pairs (10 ∷ []) c.put_pairs.ensures c.put_byte.ensures)
