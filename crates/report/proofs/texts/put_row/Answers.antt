-- `report::texts::put_row` meets its contract: the line of a row that has entries, and none of one that has none.
use Rattle.report.proofs.TextLaws.{row_none, row_some}
use Rattle.report.proofs.texts.put_row.Goals as goal

pub put_line-requires : goal.put_line-requires
put_line-requires g c = let t = c.args in rw (row_some t.code t.row c.if-row-ne0.true) at c.requires

pub returns-then-row-ne0 : goal.returns-then-row-ne0
returns-then-row-ne0 g c = let t = c.args in rw (row_some t.code t.row c.if-row-ne0.true) c.put_line.ensures

pub returns-else-row-ne0 : goal.returns-else-row-ne0
returns-else-row-ne0 g c = let t = c.args in rw (row_none t.code t.row c.if-row-ne0.false) (g.met.S.Sink.laws.nothing t.sink.now)
