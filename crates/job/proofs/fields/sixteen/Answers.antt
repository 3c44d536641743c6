-- `job::fields::sixteen` meets its contract: the field's bytes over sixteen zeros. Assumes nothing.
use Rattle.std.proofs.Common.{rules}
use Rattle.job.proofs.Padded.{padded_is}
use Rattle.job.proofs.fields.sixteen.Goals as goal

pub returns : goal.returns
returns c = rw c.copy_from_slice.ensures.after (padded_is c.args.field.now c.min-end.result (search rules))
