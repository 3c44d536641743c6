-- `turn::stay` meets its contract: the answer of a line that is refused is the model's, and nothing else changes but the tally.
use Rattle.job.proofs.Turning.{stay_stops, stay_answers}
use Rattle.job.proofs.turn.stay.Goals as goal

pub returns-then-not-fits : goal.returns-then-not-fits
returns-then-not-fits c = λ w x ok p. stay_stops w x ok c.args.answer p _ _ _ c.answer_len-long.ensures c.if-not-fits.ensures

pub returns : goal.returns
returns c = λ w x ok p. stay_answers w x ok c.args.answer p _ _ _ c.answer_len-long.ensures c.if-not-fits.ensures c.put_answer-end.ensures c.count-tally.ensures
