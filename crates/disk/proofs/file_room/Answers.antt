-- `disk::file_room` meets its contract: the room has the length that is asked for.
use Prim.Native.Nat.{ℕ, ◌+◌, ◌*◌}
use mathlib.Core.Path.{ap, ◌∙◌}
use Rattle.disk.proofs.Lengths.{most_words_lem}
use Rattle.disk.proofs.file_room.Goals as goal

pub returns : goal.returns
returns c = ap (λ (n : ℕ). 4 * n + 1) most_words_lem ∙ c.room.ensures
