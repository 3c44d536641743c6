use Rattle.std.proofs.Common.{◌≡◌, length}
use Rattle.job.specs.Counts.{tally_of}
use Rattle.job.proofs.Going.{Going}
use Rattle.job.proofs.run_lines.Given as goal

abbrev pub invariant-loop-line : goal.invariant-loop-line
invariant-loop-line l = record {
  words_long : length l.words ≡ length l.initial.words;
  room_long : length l.room ≡ length l.initial.room;
  going : Going l.initial.words l.text l.initial.out (tally_of l.initial.sum) l.words l.out (tally_of l.sum) l.lines l.bytes l.line-iterator.rest.now;
}
