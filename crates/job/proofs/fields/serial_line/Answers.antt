-- `job::fields::serial_line` meets its contract: each arm says which of the three letters the first field is, and the last that it is none. Assumes nothing.
use Rattle.std.proofs.Common.{arith, refl}
use Rattle.model.specs.Job.{enter, show, withdraw}
use Rattle.job.specs.Told.{request_in}
use Rattle.job.proofs.Forms.{told_as, told_none, two_enter, two_withdraw, two_show, two_other}
use Rattle.job.proofs.fields.serial_line.Goals as goal

pub returns-in-69 : goal.returns-in-69
unfolding request_in
returns-in-69 c =
    let t = c.args in
    told_as _ (enter t.serial.now) (two_enter t.op t.serial.now c.in-69.is) (rw c.from-serial.ensures)

pub returns-in-87 : goal.returns-in-87
unfolding request_in
returns-in-87 c =
    let t = c.args in
    told_as _ (withdraw t.serial.now) (two_withdraw t.op t.serial.now c.in-87.is) (rw c.from-serial.ensures)

pub returns-in-83 : goal.returns-in-83
unfolding request_in
returns-in-83 c =
    let t = c.args in
    told_as _ (show t.serial.now) (two_show t.op t.serial.now c.in-83.is) (rw c.from-serial.ensures)

pub returns-in_default : goal.returns-in_default
returns-in_default c =
    let t = c.args in
    told_none _ (two_other t.op t.serial.now (λ e. omega arith) (λ e. omega arith) (λ e. omega arith)) refl
