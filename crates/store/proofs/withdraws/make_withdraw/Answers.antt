-- `withdraws::make_withdraw` meets its contract: the plan's places are those of the card, the words without it stand for the store without it,
-- and once shrunk they are those of the step.
use Rattle.writer.proofs.GrowLaws.{rep_fairly}
use Rattle.store.proofs.MakeLaws.{withdraw_some, may_remove, rep_remove, read_remove, made_withdraw}
use Rattle.store.proofs.withdraws.make_withdraw.Goals as goal

pub unwrap-cell-requires : goal.unwrap-cell-requires
unwrap-cell-requires c =
    let p = c.requires in
    withdraw_some _ p.0 p.1.bytes p.1.n p.1.room p.1.plan

pub remove_at-requires : goal.remove_at-requires
remove_at-requires c =
    let p = c.requires in
    may_remove _ p.0 p.1.bytes p.1.n p.1.room p.1.plan c.unwrap-cell.ensures

pub shrink-requires : goal.shrink-requires
shrink-requires c =
    let p = c.requires in
    let z = p.1 in (
      rep_fairly (rep_remove _ p.0 z.bytes z.n z.room z.plan c.unwrap-cell.ensures c.remove_at.ensures),
      read_remove _ p.0 z.bytes z.n z.room z.plan c.unwrap-cell.ensures c.remove_at.ensures,
    )

pub returns : goal.returns
returns c =
    let p = c.requires in
    record { leaves = λ bytes n room q. made_withdraw _ p.0 bytes n room q c.unwrap-cell.ensures c.remove_at.ensures c.shrink.ensures }
