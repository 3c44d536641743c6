-- `rules::reader_code` meets its contract. The loop's invariant: the code so far, with the bytes that are left, makes the code of the whole.
-- Assumes nothing.
use Rattle.std.proofs.Common.{sym, refl, ◌∙◌, arith}
use Rattle.rules.specs.Code.{code_of}
use Rattle.rules.proofs.Codes.{code_more, code_end}
use Rattle.rules.proofs.reader_code.Goals as goal

pub loop-byte-init : goal.loop-byte-init
unfolding code_of
loop-byte-init c = refl

pub loop-byte-preserved : goal.loop-byte-preserved
loop-byte-preserved c =
    code_more c.args.bytes.now c.loop-byte.byte-index c.loop-byte.code (omega arith) c.code_step-code.ensures ∙ c.loop-byte.invariant

pub returns : goal.returns
returns c = sym (code_end c.args.bytes.now c.loop-byte.byte-index c.loop-byte.code (omega arith)) ∙ c.loop-byte.invariant
