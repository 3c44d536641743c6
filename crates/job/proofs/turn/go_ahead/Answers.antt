-- `turn::go_ahead` meets its contract: the answer that its plan and its pairs give is the model's, so it fits where the model's fits; then the change, the
-- text and the tally are those of the line.
use Rattle.job.proofs.OneLine.{asked_sound}
use Rattle.job.proofs.Turning.{ahead_stops, ahead_answers}
use Rattle.job.proofs.turn.go_ahead.Goals as goal

pub returns-then-not-fits : goal.returns-then-not-fits
returns-then-not-fits c = λ x told.
    ahead_stops _ x c.requires.sound c.args.ahead told c.requires.ahead _ _ c.list_pairs-count.ensures _ _ _ c.answer_len-long.ensures c.if-not-fits.ensures

pub buckets-after-requires : goal.buckets-after-requires
buckets-after-requires c = rw c.make_change.ensures (asked_sound _ c.requires.sound c.args.ahead.request)

pub returns : goal.returns
returns c = λ x told.
    ahead_answers _ x c.requires.sound c.args.ahead told c.requires.ahead _ _ c.list_pairs-count.ensures _ _ _ c.answer_len-long.ensures c.if-not-fits.ensures
    c.put_answer-end.ensures c.make_change.ensures c.buckets-before.ensures c.buckets-after.ensures c.count-tally.ensures
