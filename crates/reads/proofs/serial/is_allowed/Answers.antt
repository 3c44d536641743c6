-- `serial::is_allowed` meets its contract: no byte before the hyphen or behind Z is allowed, and of those between them the table tells which are.
use mathlib.Core.Path.{sym}
use native.Mathlib.Omega.{arith}
use borrow.Author.Rules.{rules}
use Rattle.reads.proofs.SerialLaws.{early_not_allowed, late_not_allowed, table_tells}
use Rattle.reads.proofs.serial.is_allowed.Goals as goal

pub returns-then-b-lt-HYPHEN : goal.returns-then-b-lt-HYPHEN
returns-then-b-lt-HYPHEN c = sym (early_not_allowed c.args.b c.if-b-lt-HYPHEN.true)

pub returns-then-b-gt-LAST_LETTER : goal.returns-then-b-gt-LAST_LETTER
returns-then-b-gt-LAST_LETTER c = sym (late_not_allowed c.args.b c.if-b-gt-LAST_LETTER.true (omega arith))

pub overflow_cast-result : goal.overflow_cast-result
overflow_cast-result c = search rules

pub overflow_shr-result : goal.overflow_shr-result
overflow_shr-result c = search rules

pub returns : goal.returns
returns c = table_tells c.args.b (omega arith) (omega arith)
