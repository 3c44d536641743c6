-- `disk::looks::put_seen` meets its contract: five lines, or one.
use Rattle.disk.specs.Check.{check_text}
use Rattle.disk.proofs.looks.put_seen.Goals as goal

pub put_sound-requires : goal.put_sound-requires
unfolding check_text
put_sound-requires g c = rw c.in-Some.is at c.requires

pub put_text-requires : goal.put_text-requires
unfolding check_text
put_text-requires g c = rw c.in-None.is at c.requires

pub returns-in-Some : goal.returns-in-Some
unfolding check_text
returns-in-Some g c = rw c.in-Some.is c.put_sound.ensures

pub returns-in-None : goal.returns-in-None
unfolding check_text
returns-in-None g c = rw c.in-None.is c.put_text.ensures
