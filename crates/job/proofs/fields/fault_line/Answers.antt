-- `job::fields::fault_line` meets its contract: what stands behind the serial is a day and the rest, and both are read only where they are numbers.
-- Assumes nothing.
use Rattle.std.proofs.Common.{refl, ◌∙◌, [], ◌∷◌}
use Rattle.model.specs.Job.{file}
use Rattle.job.specs.Told.{request_in}
use Rattle.job.proofs.Forms.{told_as, told_none, behind_one, behind_two, four_other, four_no_day, four_no_code, four_file}
use Rattle.job.proofs.fields.fault_line.Goals as goal

pub returns-in_err-day : goal.returns-in_err-day
returns-in_err-day c =
    let t = c.args in
    told_none _ (behind_one (t.op ∷ []) t.serial.now t.rest.now c.in_err-day.ensures) c.from_residual.ensures

pub returns-then-op-ne-LETTER_F : goal.returns-then-op-ne-LETTER_F
returns-then-op-ne-LETTER_F c =
    let t = c.args in
    told_none _ (behind_two (t.op ∷ []) t.serial.now _ _ _ c.in_ok-day.ensures ∙ four_other t.op t.serial.now _ _ c.if-op-ne-LETTER_F.true) refl

pub returns-in_err-day-2 : goal.returns-in_err-day-2
returns-in_err-day-2 c =
    let t = c.args in
    told_none _
    (behind_two (t.op ∷ []) t.serial.now _ _ _ c.in_ok-day.ensures ∙ four_no_day t.op t.serial.now _ _ c.if-op-ne-LETTER_F.false c.in_err-day-2.ensures)
    c.from_residual-in_err-day-2.ensures

pub returns-in_err-code : goal.returns-in_err-code
returns-in_err-code c =
    let t = c.args in
    told_none _
    (behind_two (t.op ∷ []) t.serial.now _ _ _ c.in_ok-day.ensures
    ∙ four_no_code t.op t.serial.now _ _ c.if-op-ne-LETTER_F.false c.in_ok-day-2.ensures.0 c.in_err-code.ensures)
    c.from_residual-in_err-code.ensures

pub returns : goal.returns
unfolding request_in
returns c =
    let t = c.args in
    told_as _ (file t.serial.now _ _)
    (behind_two (t.op ∷ []) t.serial.now _ _ _ c.in_ok-day.ensures
    ∙ four_file t.op t.serial.now _ _ c.if-op-ne-LETTER_F.false c.in_ok-day-2.ensures.0 c.in_ok-code.ensures.0)
    (rw (c.from.ensures, c.in_ok-day-2.ensures.1, c.in_ok-code.ensures.1))
