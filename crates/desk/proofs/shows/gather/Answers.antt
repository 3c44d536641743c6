-- The bytes of the longest store are far fewer than a word counts.
use native.Mathlib.Omega.{arith}
use Rattle.disk.proofs.Lengths.{most_words_lem}
use Rattle.desk.proofs.shows.gather.Goals as goal

pub overflow_cast-size : goal.overflow_cast-size
overflow_cast-size c = omega (arith, most_words_lem, c.in_ok-len.ensures.1)
