-- `check` meets its contract: over cleaned marks the tests decide soundness (`checked_is_sound`), and what is cleaned in the end does not show
-- what was marked.
use mathlib.Core.Path.{ap, ◌∙◌}
use Prim.Native.Nat.{ℕ}
use lib.ListN.{drop}
use Rattle.model.specs.Shape.{need}
use Rattle.model.specs.Layout.{shape_of}
use Rattle.model.specs.Calls.{cleaned}
use Rattle.checker.specs.Checker.{checked}
use Rattle.checker.proofs.MarkLaws.{rest_cleaned, cleaned_again}
use Rattle.checker.proofs.Decides.{checked_is_sound}
use Rattle.checker.proofs.check.Goals as goal

pub returns : goal.returns
returns c =
    let n = c.need-n.ensures in
    let a = c.args in
    let e = c.clear.ensures ∙ ap (λ (m : ℕ). cleaned m a.scratch.now) n in
    let d = c.all_fit-ok.ensures in
    let m = need (shape_of a.words.now) in (
      d.ok_is ∙ ap (checked a.words.now) e ∙ checked_is_sound a.words.now a.scratch.now c.requires,
      c.clear-2.ensures ∙ cleaned_again m a.scratch.now n _ (d.rest ∙ ap (drop m) e ∙ rest_cleaned m a.scratch.now),
    )
