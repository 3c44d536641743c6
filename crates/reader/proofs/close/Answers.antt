-- `reader::close` meets its contract: no line for 0, else the closing line. Assumes nothing.
use Rattle.std.proofs.Common.{refl, sym, add-zero}
use Rattle.reader.proofs.Closing.{closing_none, closing_some}
use Rattle.reader.proofs.close.Goals as goal

pub returns-then-number-eq0 : goal.returns-then-number-eq0
returns-then-number-eq0 c = let a = c.args in rw (closing_none a.number c.if-number-eq0.true) (record { out_is = refl; end_is = sym (add-zero a.at) })

pub put_closing_at-requires : goal.put_closing_at-requires
put_closing_at-requires c = rw (closing_some c.args.number c.if-number-eq0.false) at c.requires

pub returns : goal.returns
returns c = rw (closing_some c.args.number c.if-number-eq0.false) c.put_closing_at.ensures
