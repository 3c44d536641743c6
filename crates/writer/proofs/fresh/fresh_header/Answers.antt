-- `fresh::fresh_header` meets its contract: the sixteen words are those of a fresh store's header, and its offsets fit a word.
use mathlib.Core.Path.{sym, ◌∙◌}
use mathlib.Core.List.{[], ◌∷◌}
use native.Mathlib.Omega.{arith}
use Rattle.rules.specs.Table.{least}
use Rattle.model.specs.Layout.{directory_at}
use Rattle.reads.specs.Cells.{shape_by}
use Rattle.writer.proofs.FreshLaws.{header_fresh, spans}
use Rattle.writer.proofs.fresh.fresh_header.Goals as goal

pub returns : goal.returns
returns c =
    let a = c.args.s in
    (λ k. a.format ∷ a.cards ∷ a.faults ∷ least ∷ 0 ∷ 0 ∷ 0 ∷ 1 ∷ 1 ∷ directory_at ∷ c.segments_at-segments.ensures k ∷ c.cards_at-base.ensures k
    ∷ c.faults_at-behind.ensures k ∷ c.length_for-end.ensures k ∷ c.bounds_word-bounds.ensures k ∷ c.rule_word-rule.ensures k ∷ [])
    ∙ sym (header_fresh (shape_by a) c.requires)

pub overflow_cast-result-2 : goal.overflow_cast-result-2
overflow_cast-result-2 c = let p = spans _ c.requires in omega (arith, c.segments_at-segments.ensures)

pub overflow_cast-result-3 : goal.overflow_cast-result-3
overflow_cast-result-3 c = let p = spans _ c.requires in omega (arith, c.cards_at-base.ensures)

pub overflow_cast-result-4 : goal.overflow_cast-result-4
overflow_cast-result-4 c = let p = spans _ c.requires in omega (arith, c.faults_at-behind.ensures)

pub overflow_cast-result-5 : goal.overflow_cast-result-5
overflow_cast-result-5 c = let p = spans _ c.requires in omega (arith, c.length_for-end.ensures)
