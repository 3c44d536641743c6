-- A serial of a field is what the field holds. Assumes nothing.
use Rattle.job.specs.Told.{held}
use Rattle.job.proofs.fields.SerialFromRefSliceU8.from.Goals as goal

pub returns : goal.returns
unfolding held
returns c = rw c.sixteen.ensures
