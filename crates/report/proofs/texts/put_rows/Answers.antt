-- `report::texts::put_rows` meets its contract: the lines of the codes from `code` on are what is left to put.
use Rattle.std.proofs.Common.{◌+◌, ◌-◌, arith}
use Rattle.model.specs.Serial.{most_code}
use Rattle.text.proofs.Sinking.{room_first, left_less, left_room, left_none}
use Rattle.report.specs.Rows.{row_of}
use Rattle.report.specs.Texts.{row_line, row_lines}
use Rattle.report.proofs.TextLaws.{rows_turn, rows_done}
use Rattle.report.proofs.texts.put_rows.Goals as goal

pub put_row-requires : goal.put_row-requires
unfolding row_of
put_row-requires g c =
    let rows = c.args.rows.now in
    let k = c.loop-code.code in
    room_first (row_line k (row_of rows k)) (row_lines rows (k + 1) (most_code + 1 - (k + 1)))
    (left_room g.met.S.Sink.laws _ (rw (rows_turn rows k most_code (omega arith)) at c.loop-code.invariant.1) c.requires)

pub loop-code-preserved : goal.loop-code-preserved
unfolding row_of
loop-code-preserved g c =
    let rows = c.args.rows.now in
    let k = c.loop-code.code in (
      omega arith,
      left_less g.met.S.Sink.laws (row_line k (row_of rows k)) (row_lines rows (k + 1) (most_code + 1 - (k + 1))) (rw (rows_turn rows k most_code (omega arith)) at c.loop-code.invariant.1) c.put_row.ensures,
    )

pub returns : goal.returns
returns g c = left_none g.met.S.Sink.laws (rw (rows_done c.args.rows.now c.loop-code.code most_code (omega arith)) at c.loop-code.invariant.1)
