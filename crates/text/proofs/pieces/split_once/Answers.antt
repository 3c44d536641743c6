-- `text::pieces::split_once` meets its contract: the pieces lie before and behind the first separator. Assumes nothing.
use Rattle.std.proofs.Common.{sym, ◌∙◌, ◌+◌, ◌-◌, length, drop, take_all, arith, length-drop}
use Rattle.text.proofs.PieceLaws.{none_found, one_found}
use Rattle.text.proofs.pieces.split_once.Goals as goal

pub returns-in_err-end : goal.returns-in_err-end
returns-in_err-end c = let t = c.args in rw c.from_residual.ensures (none_found t.sep t.text.now (sym c.find.ensures ∙ c.in_err-end.was))

pub returns : goal.returns
returns c =
    let t = c.args in
    let n = c.in_ok-end.end + 1 in
    rw (take_all (length t.text.now - n) (drop n t.text.now) (omega (arith, length-drop n t.text.now)))
    (one_found t.sep t.text.now c.in_ok-end.end (sym c.find.ensures ∙ c.in_ok-end.was))
