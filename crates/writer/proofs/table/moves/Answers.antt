-- `table::moves` meets its contract: the code is that of the serial as it stands in the cell.
use Rattle.model.specs.Meaning.{serial_in, bytes_in}
use Rattle.model.specs.Words.{moves_at}
use Rattle.reads.specs.Cells.{bytes_at}
use Rattle.writer.proofs.table.moves.Goals as goal

pub returns : goal.returns
unfolding moves_at serial_in bytes_in bytes_at
returns c = rw (c.serial_code-code.ensures, c.bytes_at.ensures, c.card_word-len.ensures)
