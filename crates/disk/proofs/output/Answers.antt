-- `disk::output` meets its contract: the room has the length that is asked for.
use Rattle.reader.specs.Depot.{output_size}
use Rattle.disk.proofs.output.Goals as goal

pub returns : goal.returns
unfolding output_size
returns c = c.room.ensures
