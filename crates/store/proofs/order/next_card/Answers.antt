-- `order::next_card` meets its contract: the next word of the place's cell is the cell of the card behind it in its bucket, and where that is 0 the
-- card behind it is the first of the buckets behind its own.
use mathlib.Core.Path.{◌∙◌}
use native.Mathlib.Omega.{arith}
use lib.Dec.{lit<}
use Rattle.model.specs.Layout.{to_next}
use Rattle.reads.proofs.CellLaws.{word_in}
use Rattle.store.proofs.PlanLaws.{size_room}
use Rattle.store.proofs.OrderLaws.{card_here, place_below, next_some, next_none}
use Rattle.store.proofs.order.next_card.Goals as goal

pub card_word-cell-requires : goal.card_word-cell-requires
card_word-cell-requires c =
    let k = card_here _ c.args.store.now.sound c.args.store.now.read c.requires.n c.requires.inside _ c.requires.is in
    (k.from_one, k.in_limit, word_in c.args.store.now.read.sized to_next (lit< tt))

pub returns-then-cell-ne0 : goal.returns-then-cell-ne0
returns-then-cell-ne0 c =
    record { next_is = λ n l e. next_some c.args.store.now.sound c.args.store.now.read l e c.card_word-cell.ensures c.if-cell-ne0.true }

pub overflow_add-at : goal.overflow_add-at
overflow_add-at c =
    omega (arith, place_below c.args.store.now.sound c.args.store.now.read c.requires.inside c.requires.is, (size_room c.args.store.now.sound c.args.store.now.read).1, c.args.store.now.read.sized.room.most)

pub returns : goal.returns
returns c =
    record { next_is = λ n l e. c.from_bucket.ensures ∙ next_none c.args.store.now.sound c.args.store.now.read l e c.card_word-cell.ensures c.if-cell-ne0.false }
