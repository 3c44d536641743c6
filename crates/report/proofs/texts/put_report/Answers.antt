-- `report::texts::put_report` meets its contract: the text is counted first, and refused where the output is shorter; else it stands at its front.
use Rattle.std.proofs.Common.{arith}
use Rattle.report.proofs.TextLaws.{text_few, report_written}
use Rattle.report.proofs.texts.put_report.Goals as goal

pub put_text-requires : goal.put_text-requires
put_text-requires c = let t = c.args in omega (arith, text_few t.rows.now t.t)

pub returns : goal.returns
returns c = report_written _ _ (omega (arith, c.put_text.ensures.bytes_are)) c.write_text.ensures

pub overflow_cast-result : goal.overflow_cast-result
overflow_cast-result c = let t = c.args in omega (arith, c.write_text.ensures.end_is, text_few t.rows.now t.t)
