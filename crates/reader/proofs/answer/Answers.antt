-- `reader::answer` meets its contract: the whole text of a job on a fresh store goes into an array of zeros that is as long as the output and the longest closing line.
use Prim.Native.Nat.{ℕ}
use lib.ListN.{length-replicate}
use Rattle.reader.specs.Depot.{output_size, whole_size, blank, depot_text}
use Rattle.reader.proofs.answer.Goals as goal

pub answer_on-answered-requires : goal.answer_on-answered-requires
unfolding output_size
answer_on-answered-requires c = length-replicate {A = ℕ} whole_size 0

pub returns : goal.returns
unfolding output_size blank depot_text
returns c = rw (← c.fresh_store-words.ensures) c.answer_on-answered.ensures.text_is
