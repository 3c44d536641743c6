-- `header::header_of` meets its contract: the header of sound words keeps the layout, so `header::read` may read it.
use Rattle.model.proofs.Sound.{sound_is}
use Rattle.reads.proofs.FrontLaws.{limits_from, offsets_from}
use Rattle.reads.proofs.header.header_of.Goals as goal

pub read-requires : goal.read-requires
read-requires c = (let r = (sound_is _ c.requires).0 in (limits_from _ _ r, offsets_from _ _ r))
