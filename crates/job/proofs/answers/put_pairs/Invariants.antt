use Rattle.std.proofs.Common.{◌≡◌}
use Rattle.model.specs.Job.{pair_text}
use Rattle.text.proofs.Sinking.{Left}
use Rattle.job.proofs.AnswerLaws.{pairs_of}
use Rattle.job.proofs.answers.put_pairs.Given as goal

abbrev pub invariant-loop-pair : goal.invariant-loop-pair
invariant-loop-pair g l = record {
  size_is : l.pair-iterator.size ≡ 2;
  left : Left g.S.Sink.Takes l.initial.sink (pair_text l.count l.room) l.sink (pairs_of l.pair-iterator.rest.now);
}
