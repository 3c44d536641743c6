-- `job::run_lines` meets its contract: at each turn the lines left answer what all lines answer from the start (`Going`). Each line takes a byte of the text
-- and gives at most the longest answer, so both counts fit.
use Rattle.std.proofs.Common.{◌≤◌, ◌<◌, refl, ◌∙◌, arith}
use Rattle.model.specs.Job.{most_text}
use Rattle.job.proofs.Going.{going_start, going_end, going_stop, going_on}
use Rattle.job.proofs.run_lines.Goals.{At-loop-line}
use Rattle.job.proofs.run_lines.Goals as goal

pub loop-line-init : goal.loop-line-init
loop-line-init c = record { words_long = refl; room_long = refl; going = rw (c.into_iter-line-iterator.ensures.into_iter_gives, c.new-line-items.ensures) (going_start _ _ _ _ c.requires.0) }

-- few lines and few bytes
lines_fit : (c : At-loop-line) → c.loop-line.lines ≤ 16384
unfolding most_text
lines_fit c = omega (arith, c.loop-line.invariant.going.few, c.requires.2)

bytes_fit : (c : At-loop-line) → c.loop-line.bytes < 1000000000
bytes_fit c = omega (arith, c.loop-line.invariant.going.most, lines_fit c)

pub overflow_cast-result : goal.overflow_cast-result
overflow_cast-result c = omega (arith, bytes_fit (goal.at.overflow_cast-result c).At-loop-line)

pub returns-in_default : goal.returns-in_default
returns-in_default c =
    rw c.into.ensures (going_stop _ _ _ _ c.loop-line.invariant.going c.in-Some.line.now c.next.new.self.rest.now c.in-Some.ensures.steps (c.in-Some.ensures.goes.on tt).2 (rw c.in_default.is at c.turn.ensures))

pub overflow_add-lines : goal.overflow_add-lines
overflow_add-lines c = omega (arith, lines_fit (goal.at.overflow_add-lines c).At-loop-line)

pub loop-line-preserved : goal.loop-line-preserved
loop-line-preserved c = record {
  words_long = c.turn.auto.words ∙ c.loop-line.invariant.words_long;
  room_long = c.turn.auto.room ∙ c.loop-line.invariant.room_long;
  going = going_on _ _ _ _ c.loop-line.invariant.going c.in-Some.line.now c.next.new.self.rest.now c.in-Some.ensures.steps (c.in-Some.ensures.goes.on tt).2 (rw c.in-Some-turn.is at c.turn.ensures);
}

pub overflow_cast-result-2 : goal.overflow_cast-result-2
overflow_cast-result-2 c = omega (arith, bytes_fit (goal.at.overflow_cast-result-2 c).At-loop-line)

pub returns : goal.returns
returns c = going_end _ _ _ _ c.loop-line.invariant.going c.in-None.ensures.steps.0
