-- `table::grow` meets its contract: the words are a fair store's, so the load is the store's, and where it asks for a split that may be made.
use mathlib.Core.Path.{sym, ◌∙◌}
use native.Mathlib.Omega.{arith}
use Rattle.writer.proofs.GrowLaws.{fairly_room, may_split, grow_yes, grow_no}
use Rattle.writer.proofs.table.grow.Goals as goal

pub overflow_add-h : goal.overflow_add-h
overflow_add-h c = let p = c.requires in omega (arith, fairly_room p.0 p.1, p.1.sized.room)

pub split-requires : goal.split-requires
split-requires c =
    let p = c.requires in
    may_split p.0 p.1 p.2 (sym c.must_split.ensures ∙ c.if-must_split.true)

pub returns-then-must_split : goal.returns-then-must_split
returns-then-must_split c =
    let p = c.requires in
    grow_yes p.0 p.1 p.2 (sym c.must_split.ensures ∙ c.if-must_split.true) c.split.ensures

pub returns-else-must_split : goal.returns-else-must_split
returns-else-must_split c =
    let p = c.requires in
    grow_no p.0 p.1 p.2 (sym c.must_split.ensures ∙ c.if-must_split.false)
