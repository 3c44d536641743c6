-- `table::shrink` meets its contract: the words are a fair store's, so the load is the store's, and where it asks for a contraction that may be made.
use mathlib.Core.Path.{sym, ◌∙◌}
use native.Mathlib.Omega.{arith}
use Rattle.writer.proofs.GrowLaws.{fairly_room, may_join, shrink_yes, shrink_no}
use Rattle.writer.proofs.table.shrink.Goals as goal

pub overflow_add-h : goal.overflow_add-h
overflow_add-h c = let p = c.requires in omega (arith, fairly_room p.0 p.1, p.1.sized.room)

pub join-requires : goal.join-requires
join-requires c =
    let p = c.requires in
    may_join p.0 p.1

pub returns-then-must_contract : goal.returns-then-must_contract
returns-then-must_contract c =
    let p = c.requires in
    shrink_yes p.0 p.1 c.word-n.ensures (sym c.must_contract.ensures ∙ c.if-must_contract.true) c.join.ensures

pub returns-else-must_contract : goal.returns-else-must_contract
returns-else-must_contract c =
    let p = c.requires in
    shrink_no p.0 p.1 c.word-n.ensures (sym c.must_contract.ensures ∙ c.if-must_contract.false)
