-- `report::texts::put_text` meets its contract: the lines of the codes, and the totals behind them.
use Rattle.model.specs.Serial.{most_code}
use Rattle.model.specs.Report.{total_lines}
use Rattle.text.proofs.Sinking.{room_first, room_then, takes_then}
use Rattle.report.specs.Texts.{row_lines, text_of}
use Rattle.report.proofs.texts.put_text.Goals as goal

pub put_rows-requires : goal.put_rows-requires
unfolding text_of
put_rows-requires g c = let t = c.args in room_first (row_lines t.rows.now 1 most_code) (total_lines t.t.cards t.t.entries) c.requires

pub put_totals-requires : goal.put_totals-requires
unfolding text_of
put_totals-requires g c =
    let t = c.args in
    room_then g.met.S.Sink.laws (row_lines t.rows.now 1 most_code) (total_lines t.t.cards t.t.entries) c.put_rows.ensures c.requires

pub returns : goal.returns
unfolding text_of
returns g c =
    let t = c.args in
    takes_then g.met.S.Sink.laws (row_lines t.rows.now 1 most_code) (total_lines t.t.cards t.t.entries) c.put_rows.ensures c.put_totals.ensures
