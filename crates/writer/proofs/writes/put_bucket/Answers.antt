-- `writes::put_bucket` meets its contract: bucket b is word b of the segments, which begin at their offset.
use Rattle.writer.proofs.WriteLaws.{bucket_lent}
use Rattle.writer.proofs.writes.put_bucket.Goals as goal

pub returns : goal.returns
returns c = bucket_lent c.requires.0 _ _ _ c.requires.1 c.set_bucket.ensures
