-- `turn::plan_request` meets its contract: the plan of each request is that of the step that it asks for.
use Rattle.model.proofs.Jobs.{enough_long}
use Rattle.model.specs.Job.{enough}
use Rattle.job.proofs.turn.plan_request.Goals as goal

pub returns-in-Enter : goal.returns-in-Enter
returns-in-Enter c = rw c.in-Enter.is c.plan_enter.ensures

pub returns-in-Withdraw : goal.returns-in-Withdraw
returns-in-Withdraw c = rw c.in-Withdraw.is (c.plan_withdraw.ensures.with_room enough enough_long)

pub returns-in-File : goal.returns-in-File
returns-in-File c = rw c.in-File.is c.plan_file.ensures

pub returns-in-Show : goal.returns-in-Show
returns-in-Show c = rw c.in-Show.is (c.plan_show.ensures.with_room enough enough_long)
