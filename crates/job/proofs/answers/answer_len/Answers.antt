-- `job::answers::answer_len` meets its contract: what was counted is the length, and an answer of 32-bit numbers is far below the top. Assumes nothing.
use Rattle.std.proofs.Common.{arith}
use Rattle.job.proofs.AnswerLaws.{answer_most}
use Rattle.job.proofs.answers.answer_len.Goals as goal

pub put_line-requires : goal.put_line-requires
put_line-requires c =
    let t = c.args in
    let fits = c.well_formed in
    let most = answer_most t.answer t.count t.room.now (omega arith) (omega arith) (omega arith) (omega arith) (λ k. (c.type_inv.room k).fits) in
    record { pairs = c.requires; fits = omega (arith, most, c.ranges.count) }

pub returns : goal.returns
returns c =
    let t = c.args in
    let fits = c.well_formed in
    let most = answer_most t.answer t.count t.room.now (omega arith) (omega arith) (omega arith) (omega arith) (λ k. (c.type_inv.room k).fits) in
    record { is = omega (arith, c.put_line.ensures.bytes_are); most = omega (arith, most, c.put_line.ensures.bytes_are) }
