-- `text::numbers::is_number` meets its contract: its tests are those of the definition. Assumes nothing.
use Rattle.std.proofs.Common.{length, arith, rules, ◌≡◌, ◌<◌}
use borrow.Author.Tests.{le-leb, lt-leb}
use Rattle.model.specs.Lists.{between}
use Rattle.model.specs.Text.{is_number}
use Rattle.text.proofs.numbers.is_number.Goals as goal

pub returns-then-field-gt-MOST_DIGITS : goal.returns-then-field-gt-MOST_DIGITS
unfolding is_number between
returns-then-field-gt-MOST_DIGITS c =
    let n = length c.args.field.now in
    simp (le-leb 1 n (omega arith), lt-leb n 9 (omega arith))

pub returns-then-not-is_empty : goal.returns-then-not-is_empty
unfolding is_number between
returns-then-not-is_empty c =
    let n = length c.args.field.now in
    let some : 0 < n = search rules in
    simp (le-leb 1 n (omega arith), le-leb n 9 (omega arith)) c.all_digits.ensures

pub returns-else-not-is_empty : goal.returns-else-not-is_empty
unfolding is_number between
returns-else-not-is_empty c =
    let n = length c.args.field.now in
    let none : n ≡ 0 = search rules in
    simp (lt-leb 1 n (omega arith)) (search rules)
