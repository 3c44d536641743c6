-- `writes::card_words` meets its contract: the four packed words of all sixteen bytes are the serial's, since the unused bytes are zero.
use native.Mathlib.Omega.{arith}
use Rattle.reads.proofs.SerialLaws.{valid_short}
use Rattle.writer.proofs.WriteLaws.{new_words_lem}
use Rattle.writer.proofs.writes.card_words.Goals as goal

pub overflow_cast-result : goal.overflow_cast-result
overflow_cast-result c = omega (arith, valid_short _ _ c.requires)

pub returns : goal.returns
returns c = rw (c.pack.ensures, new_words_lem c.args.serial c.args.len c.requires)
