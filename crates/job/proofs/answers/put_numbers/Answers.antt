-- `job::answers::put_numbers` meets its contract: four texts, each behind the one before. Assumes nothing.
use Rattle.std.proofs.Common.{◌++◌}
use Rattle.model.specs.Text.{decimal}
use Rattle.text.specs.Decimals.{marked}
use Rattle.text.proofs.Sinking.{room_first, room_then, takes_then}
use Rattle.job.specs.Answers.{numbers_of}
use Rattle.job.proofs.answers.put_numbers.Goals as goal

pub put_decimal-requires : goal.put_decimal-requires
unfolding numbers_of
put_decimal-requires g c =
    let a = c.args.answer in
    room_first (decimal a.number) (marked 32 a.comparisons ++ (marked 32 a.scanned ++ marked 32 a.faults)) c.requires

pub put_marked-requires : goal.put_marked-requires
unfolding numbers_of
put_marked-requires g c =
    let a = c.args.answer in
    let two = marked 32 a.scanned ++ marked 32 a.faults in
    room_first (marked 32 a.comparisons) two (room_then g.met.S.Sink.laws (decimal a.number) (marked 32 a.comparisons ++ two) c.put_decimal.ensures c.requires)

pub put_marked-requires-2 : goal.put_marked-requires-2
unfolding numbers_of
put_marked-requires-2 g c =
    let a = c.args.answer in
    let laws = g.met.S.Sink.laws in
    let two = marked 32 a.scanned ++ marked 32 a.faults in
    room_first (marked 32 a.scanned) (marked 32 a.faults)
    (room_then laws (marked 32 a.comparisons) two c.put_marked.ensures (room_then laws (decimal a.number) (marked 32 a.comparisons ++ two) c.put_decimal.ensures c.requires))

pub put_marked-requires-3 : goal.put_marked-requires-3
unfolding numbers_of
put_marked-requires-3 g c =
    let a = c.args.answer in
    let laws = g.met.S.Sink.laws in
    let two = marked 32 a.scanned ++ marked 32 a.faults in
    room_then laws (marked 32 a.scanned) (marked 32 a.faults) c.put_marked-2.ensures
    (room_then laws (marked 32 a.comparisons) two c.put_marked.ensures (room_then laws (decimal a.number) (marked 32 a.comparisons ++ two) c.put_decimal.ensures c.requires))

pub returns : goal.returns
unfolding numbers_of
returns g c =
    let a = c.args.answer in
    let laws = g.met.S.Sink.laws in
    let two = marked 32 a.scanned ++ marked 32 a.faults in
    takes_then laws (decimal a.number) (marked 32 a.comparisons ++ two) c.put_decimal.ensures
    (takes_then laws (marked 32 a.comparisons) two c.put_marked.ensures
    (takes_then laws (marked 32 a.scanned) (marked 32 a.faults) c.put_marked-2.ensures c.put_marked-3.ensures))
