-- `job::fields::parse` meets its contract: the length, the first field and what stands behind it say which form the line has. Assumes nothing.
use Rattle.std.proofs.Common.{refl, ◌∙◌, arith}
use Rattle.job.proofs.Forms.{told_as, told_none, line_long, line_short, line_one, line_first, line_two, line_more}
use Rattle.job.proofs.fields.parse.Goals as goal

pub returns-then-line-gt-LONGEST_LINE : goal.returns-then-line-gt-LONGEST_LINE
returns-then-line-gt-LONGEST_LINE c = told_none _ (line_long c.args.line.now (omega arith)) refl

pub returns-in_err-op : goal.returns-in_err-op
returns-in_err-op c =
    let l = c.args.line.now in
    told_none _ (line_short l (omega arith) ∙ line_one l c.in_err-op.ensures) c.from_residual.ensures

pub returns-then-op-ne1 : goal.returns-then-op-ne1
returns-then-op-ne1 c =
    let l = c.args.line.now in
    told_none _ (line_short l (omega arith) ∙ line_first l _ _ c.in_ok-op.ensures c.if-op-ne1.true) refl

pub returns-in_default : goal.returns-in_default
returns-in_default c =
    let l = c.args.line.now in
    told_as _ _ (line_short l (omega arith) ∙ line_two l _ _ c.in_ok-op.ensures c.if-op-ne1.false c.in_default.ensures) c.serial_line.ensures

pub returns : goal.returns
returns c =
    let l = c.args.line.now in
    told_as _ _ (line_short l (omega arith) ∙ line_more l _ _ c.in_ok-op.ensures c.if-op-ne1.false _ _ c.in-Some.ensures) c.fault_line.ensures
