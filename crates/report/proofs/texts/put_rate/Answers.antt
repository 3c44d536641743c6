-- `report::texts::put_rate` meets its contract: the rate where there are cards, and nothing where there are none.
use Rattle.report.proofs.TextLaws.{rate_none, rate_some}
use Rattle.report.proofs.texts.put_rate.Goals as goal

pub put_line-requires : goal.put_line-requires
put_line-requires g c = let t = c.args.t in rw (rate_some t.cards t.entries c.if-t-ne0.true) at c.requires

pub returns-then-t-ne0 : goal.returns-then-t-ne0
returns-then-t-ne0 g c = let t = c.args.t in rw (rate_some t.cards t.entries c.if-t-ne0.true) c.put_line.ensures

pub returns-else-t-ne0 : goal.returns-else-t-ne0
returns-else-t-ne0 g c = let t = c.args.t in rw (rate_none t.cards t.entries c.if-t-ne0.false) (g.met.S.Sink.laws.nothing c.args.sink.now)
