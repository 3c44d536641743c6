-- `turn::list_pairs` meets its contract: the pairs of a show or withdraw are those of the card that its plan found, and any other request lists none.
use Rattle.job.proofs.Asking.{holds_pairs, lists_pairs, lists_none}
use Rattle.job.proofs.turn.list_pairs.Goals as goal

pub put_history-requires : goal.put_history-requires
put_history-requires c =
    (c.requires.sound, holds_pairs _ c.requires.sound c.args.ahead c.requires.ahead _ c.requires.long c.in-Withdraw.is)

pub returns-in-Withdraw : goal.returns-in-Withdraw
returns-in-Withdraw c = lists_pairs _ c.requires.sound c.args.ahead c.requires.ahead _ c.requires.long c.in-Withdraw.is c.put_history.ensures

pub returns-in-Enter : goal.returns-in-Enter
returns-in-Enter c = lists_none _ _ _ c.in-Enter.is
