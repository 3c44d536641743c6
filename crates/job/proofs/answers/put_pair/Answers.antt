-- `job::answers::put_pair` meets its contract: the code behind the day is one text. Assumes nothing.
use Rattle.text.specs.Decimals.{marked}
use Rattle.text.proofs.Sinking.{room_first, room_then, takes_then}
use Rattle.job.specs.Answers.{pair_of}
use Rattle.job.proofs.answers.put_pair.Goals as goal

pub put_marked-requires : goal.put_marked-requires
unfolding pair_of
put_marked-requires g c = let t = c.args in room_first (marked 32 t.day) (marked 58 t.code) c.requires

pub put_marked-requires-2 : goal.put_marked-requires-2
unfolding pair_of
put_marked-requires-2 g c = let t = c.args in room_then g.met.S.Sink.laws (marked 32 t.day) (marked 58 t.code) c.put_marked.ensures c.requires

pub returns : goal.returns
unfolding pair_of
returns g c = let t = c.args in takes_then g.met.S.Sink.laws (marked 32 t.day) (marked 58 t.code) c.put_marked.ensures c.put_marked-2.ensures
