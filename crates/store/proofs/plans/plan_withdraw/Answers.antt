-- `plans::plan_withdraw` meets its contract: it refuses where Show does, and where it does not, what it will scan stands beside Show's numbers.
use mathlib.Core.Path.{◌≡◌, sym, ◌∙◌}
use Rattle.std.proofs.lemmas.Result.{err_from_is_err_and}
use Rattle.store.proofs.PlanLaws.{withdraw_invalid, withdraw_refused, withdraw_accepted}
use Rattle.store.proofs.plans.plan_withdraw.Goals as goal

pub returns-then-not-valid_serial : goal.returns-then-not-valid_serial
returns-then-not-valid_serial c =
    rw c.into.ensures (withdraw_invalid _ _ _ (sym c.valid_serial.ensures ∙ c.if-not-valid_serial.true) _)

pub plan_pairs-requires : goal.plan_pairs-requires
plan_pairs-requires c =
    (sym c.valid_serial.ensures ∙ c.if-not-valid_serial.false)

pub returns-in_err-plan : goal.returns-in_err-plan
returns-in_err-plan c =
    let (y, e, q) = err_from_is_err_and {Q = λ y. y ≡ c.in_err-plan.field-0.0} c.from_residual.result c.from_residual.ensures.1 in
    rw (e, q) (withdraw_refused _ c.args.store.now.sound _ _ _ _ c.in_err-plan.ensures)

pub returns : goal.returns
returns c = withdraw_accepted _ c.args.store.now.sound _ _ _ _ c.in_ok-plan.ensures _ c.shrink_scan-scanned.ensures
