-- `turn::make_change` meets its contract: each request has its change, and a show has none.
use Rattle.job.proofs.Asking.{ready_enter, made_enter, ready_withdraw, made_withdraw, ready_file, made_file, made_show}
use Rattle.job.proofs.turn.make_change.Goals as goal

pub make_enter-requires : goal.make_enter-requires
make_enter-requires c = (c.requires.sound, ready_enter _ c.requires.sound c.args.ahead c.requires.ahead _ c.in-Enter.is)

pub make_withdraw-requires : goal.make_withdraw-requires
make_withdraw-requires c = (c.requires.sound, ready_withdraw _ c.requires.sound c.args.ahead c.requires.ahead _ c.in-Withdraw.is)

pub make_file-requires : goal.make_file-requires
make_file-requires c = (c.requires.sound, ready_file _ c.requires.sound c.args.ahead c.requires.ahead _ _ c.in-File.is)

pub returns-in-Enter : goal.returns-in-Enter
returns-in-Enter c = made_enter _ c.requires.sound c.args.ahead c.requires.ahead _ c.in-Enter.is c.make_enter.ensures

pub returns-in-Withdraw : goal.returns-in-Withdraw
returns-in-Withdraw c = made_withdraw _ c.requires.sound c.args.ahead c.requires.ahead _ c.in-Withdraw.is c.make_withdraw.ensures

pub returns-in-File : goal.returns-in-File
returns-in-File c = made_file _ c.requires.sound c.args.ahead c.requires.ahead _ _ c.in-File.is c.make_file.ensures

pub returns-in-Show : goal.returns-in-Show
returns-in-Show c = made_show _ c.requires.sound c.args.ahead c.requires.ahead _ c.in-Show.is
