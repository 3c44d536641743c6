-- `disk::lasts::answers_at` meets its contract: behind the head and the file's bytes.
use mathlib.Core.Path.{refl}
use Rattle.disk.proofs.Keeping.{belongs_within}
use Rattle.disk.proofs.lasts.answers_at.Goals as goal

pub returns : goal.returns
returns c = let s = c in (refl, belongs_within s.args.file.now s.args.last.now s.requires)
