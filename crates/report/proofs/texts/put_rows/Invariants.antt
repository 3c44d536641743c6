use Rattle.std.proofs.Common.{◌+◌, ◌-◌, ◌≤◌}
use Rattle.model.specs.Serial.{most_code}
use Rattle.text.proofs.Sinking.{Left}
use Rattle.report.specs.Texts.{row_lines}
use Rattle.report.proofs.texts.put_rows.Given as goal

abbrev pub invariant-loop-code : goal.invariant-loop-code
invariant-loop-code g l =
    (l.code ≤ most_code + 1) × Left g.S.Sink.Takes l.initial.sink (row_lines l.rows 1 most_code) l.sink (row_lines l.rows l.code (most_code + 1 - l.code))
