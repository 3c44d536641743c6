-- `file` meets its contract: what the one door turns away is refused by its number, and on sound words the call is that on a store known to be sound.
use mathlib.Core.Path.{refl}
use Rattle.store.proofs.CallLaws.{sound_words, refusal_some, call_refused, call_does}
use Rattle.store.proofs.file.Goals as goal

pub returns-in-Err : goal.returns-in-Err
returns-in-Err c = call_refused _ _ c.in-Err.ensures _ _ (refusal_some _) c.into.ensures

pub file_in-requires : goal.file_in-requires
file_in-requires c = sound_words _ _ c.in-Ok.ensures refl

pub returns-in-Ok : goal.returns-in-Ok
returns-in-Ok c = call_does _ _ c.in-Ok.ensures _ _ refl c.file_in.ensures
