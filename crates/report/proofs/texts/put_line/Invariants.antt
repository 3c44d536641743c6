use Rattle.std.proofs.Common.{[], ◌∷◌, ◌++◌, drop}
use Rattle.model.specs.Text.{lf}
use Rattle.text.proofs.Sinking.{Left}
use Rattle.report.proofs.TextLaws.{marks}
use Rattle.report.proofs.texts.put_line.Given as goal

abbrev pub invariant-loop-number : goal.invariant-loop-number
invariant-loop-number g l =
    Left g.S.Sink.Takes l.initial.sink (marks l.others ++ (lf ∷ [])) l.sink (marks (drop l.number-index l.others) ++ (lf ∷ []))
