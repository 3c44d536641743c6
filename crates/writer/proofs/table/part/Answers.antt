-- `table::part` meets its contract: at each turn the cells that are left are a chain that ends, and the words become what they have to
-- (`Parting`). The measure is what is left of the chain.
use mathlib.Core.Path.{sym, ap, ◌∙◌}
use mathlib.Core.List.{List}
use Prim.Native.Nat.{ℕ, ◌+◌, ◌≤◌, ◌<◌}
use native.Mathlib.Nat.{lt_of_lt_of_le}
use native.Mathlib.Omega.{arith}
use lib.Dec.{lit<}
use lib.ListN.{set}
use Rattle.model.specs.Layout.{to_next}
use Rattle.model.specs.Words.{link_at}
use Rattle.reads.specs.Cells.{shape_in}
use Rattle.reads.proofs.CellLaws.{word_in, sized_same}
use Rattle.writer.proofs.PartingLaws.{part_start, part_long, part_cell, part_go, part_stay, part_end, go_less, stay_less}
use Rattle.writer.proofs.table.part.Goals.{In-loop-x, Start}
use Rattle.writer.proofs.table.part.Goals as goal

-- bucket p is one of the table's
below : (s : Start) → s.args.h.p < s.args.h.top
below s = omega (arith, s.requires.room)

-- in a turn cell x is a card's
cell : (i : In-loop-x) → (1 ≤ i.loop-x.x) × (i.loop-x.x ≤ i.args.h.cards)
cell i = part_cell i.requires i.loop-x.invariant i.loop-x-test.true

pub loop-x-init : goal.loop-x-init
loop-x-init c = part_start c.requires c.bucket_word-x.ensures

pub card_word-next-requires : goal.card_word-next-requires
card_word-next-requires c = ((cell (goal.at.card_word-next-requires c).In-loop-x).0, (cell (goal.at.card_word-next-requires c).In-loop-x).1, word_in c.loop-x.invariant.sized to_next (lit< tt))

pub moves-requires : goal.moves-requires
moves-requires c = (c.requires.some, lt_of_lt_of_le c.requires.room c.loop-x.invariant.sized.room.most, (cell (goal.at.moves-requires c).In-loop-x).0, (cell (goal.at.moves-requires c).In-loop-x).1)

pub link-requires : goal.link-requires
link-requires c =
    (c.loop-x.invariant.sized, c.requires.room, omega (arith, c.loop-x.invariant.low_g, (cell (goal.at.link-requires c).In-loop-x).1))

pub link-requires-else-moves : goal.link-requires-else-moves
link-requires-else-moves c =
    (c.loop-x.invariant.sized, below (goal.at.link-requires-else-moves c).Start, c.loop-x.invariant.low_k)

-- the card goes behind the last one that went, so the new chain keeps their order
pub loop-x-preserved-then-moves : goal.loop-x-preserved-then-moves
loop-x-preserved-then-moves c =
    part_go c.requires c.loop-x.invariant c.loop-x-test.true c.card_word-next.ensures (sym c.moves.ensures ∙ c.if-moves.true) c.link.ensures

pub loop-x-smaller-then-moves : goal.loop-x-smaller-then-moves
loop-x-smaller-then-moves c =
    go_less c.requires c.loop-x.invariant c.loop-x-test.true c.card_word-next.ensures c.link.ensures

pub loop-x-smaller : goal.loop-x-smaller
loop-x-smaller c =
    stay_less c.requires c.loop-x.invariant c.loop-x-test.true c.card_word-next.ensures c.link-else-moves.ensures

pub loop-x-preserved : goal.loop-x-preserved
loop-x-preserved c =
    part_stay c.requires c.loop-x.invariant c.loop-x-test.true c.card_word-next.ensures (sym c.moves.ensures ∙ c.if-moves.false) c.link-else-moves.ensures

pub link-requires-2 : goal.link-requires-2
link-requires-2 c =
    (c.loop-x.invariant.sized, below (goal.at.link-requires-2 c).Start, c.loop-x.invariant.low_k)

pub link-requires-3 : goal.link-requires-3
link-requires-3 c =
    (sized_same c.loop-x.invariant.sized c.link-2.auto.w, c.requires.room, omega (arith, c.loop-x.invariant.low_g))

pub shape_of-w : goal.shape_of-w
shape_of-w c =
    c.link-3.auto.w ∙ c.link-2.auto.w ∙ part_long c.requires c.loop-x.invariant

pub returns : goal.returns
returns c =
    c.link-3.ensures
    ∙ ap (λ (u : List ℕ). set u (link_at (shape_in c.args.h) (c.args.h.maxp + c.args.h.p) c.loop-x.g) 0) c.link-2.ensures
    ∙ part_end c.requires c.loop-x.invariant c.loop-x-test.false

pub overflow_add-n : goal.overflow_add-n
overflow_add-n c = omega (arith, c.requires.room, c.requires.read.sized.room.most)

pub bucket_word-x-requires : goal.bucket_word-x-requires
bucket_word-x-requires c = below (goal.at.bucket_word-x-requires c).Start
