-- `serial::valid_serial` meets its contract: its three tests are those of `valid_is`, and the two parts are lent on as they stand.
use mathlib.Core.Path.{◌≡◌, sym, ◌∙◌}
use native.Mathlib.Omega.{arith}
use borrow.Author.Rules.{rules}
use Rattle.model.specs.Lists.{between}
use Rattle.model.specs.Serial.{most_bytes}
use Rattle.reads.proofs.Rows.{and_rest, and_fails}
use Rattle.reads.proofs.SerialLaws.{valid_is}
use Rattle.reads.proofs.serial.valid_serial.Goals.{then-contains, else-contains}
use Rattle.reads.proofs.serial.valid_serial.Goals as goal

pub returns-then-all_allowed : goal.returns-then-all_allowed
unfolding between
returns-then-all_allowed c =
    let e : c.contains.result ≡ between 1 most_bytes c.args.len = search rules in
    elim c.if-contains.branch [
      | then-contains w ↦
          c.all_zero.ensures
          ∙ sym (valid_is _ _ (omega arith) ∙ and_rest _ (and_rest _ (sym e ∙ w.if-contains.true) ∙ sym w.all_allowed.ensures ∙ sym w.value-is ∙ c.if-all_allowed.true))
      | else-contains w ↦ cc
    ]

pub returns-else-all_allowed : goal.returns-else-all_allowed
unfolding between
returns-else-all_allowed c =
    let e : c.contains.result ≡ between 1 most_bytes c.args.len = search rules in
    let f = c.if-all_allowed.false in
    elim c.if-contains.branch [
      | then-contains w ↦ f ∙ sym (valid_is _ _ (omega arith) ∙ and_fails _ (and_rest _ (sym e ∙ w.if-contains.true) ∙ sym w.all_allowed.ensures ∙ sym w.value-is ∙ f))
      | else-contains w ↦ f ∙ sym (valid_is _ _ (omega arith) ∙ and_fails _ (and_fails _ (sym e ∙ w.if-contains.false)))
    ]
