use mathlib.Core.Path.{◌≡◌}
use mathlib.Core.List.{◌∷◌}
use lib.ListN.{length}
use Rattle.model.specs.Layout.{last, follow}
use Rattle.model.specs.Meaning.{next_card, bucket_word}
use Rattle.reads.specs.Chains.{Ends}
use Rattle.writer.specs.Table.{last_from}
use Rattle.reads.specs.Cells.{shape_in}
use Rattle.writer.proofs.table.last_of.Given as goal

abbrev pub invariant-loop-i : goal.invariant-loop-i
invariant-loop-i l = Ends l.view.header.cards (next_card (shape_in l.view.header) l.view.words.now) l.i × (last (l.last ∷ follow l.view.header.cards (next_card (shape_in l.view.header) l.view.words.now) l.i) ≡ last_from (shape_in l.view.header) l.view.words.now (bucket_word (shape_in l.view.header) l.view.words.now l.b))

abbrev pub decreases-loop-i : goal.decreases-loop-i
decreases-loop-i l = length (follow l.view.header.cards (next_card (shape_in l.view.header) l.view.words.now) l.i)
