use Prim.Native.Nat.{◌+◌, ◌-◌}
use lib.ListN.{length}
use Rattle.model.specs.Layout.{follow}
use Rattle.model.specs.Meaning.{next_card}
use Rattle.reads.specs.Cells.{shape_in}
use Rattle.reads.proofs.AlongLaws.{Along}
use Rattle.store.proofs.plans.chain_len.Given as goal

abbrev pub invariant-loop-i : goal.invariant-loop-i
invariant-loop-i t = Along t.view.header.cards (next_card (shape_in t.view.header) t.view.words.now) t.first (length (follow t.view.header.cards (next_card (shape_in t.view.header) t.view.words.now) t.first)) t.i t.n (λ l. t.n + length l)

abbrev pub decreases-loop-i : goal.decreases-loop-i
decreases-loop-i l = length (follow l.view.header.cards (next_card (shape_in l.view.header) l.view.words.now) l.first) - l.n
