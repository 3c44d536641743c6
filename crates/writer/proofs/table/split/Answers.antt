-- `table::split` meets its contract: the chain is parted, the directory and the state are written, in the order of the definition.
use Rattle.writer.proofs.TableLaws.{split_words_lem}
use Rattle.writer.proofs.table.split.Goals.{Start}
use Rattle.writer.proofs.table.split.Goals as goal

pub returns : goal.returns
returns c =
    split_words_lem c.requires.read c.part.ensures c.set_segment.ensures c.grown.ensures.maxp c.grown.ensures.p c.set_state.ensures
