-- The contract of `report` admits one outcome only: all that it speaks of is fixed by equations, so two programs that meet it give the same number and
-- count and leave the same output and scratch. The run and the lengths are lent to be read alone.
use mathlib.Core.Path.{◌≡◌, sym, ◌∙◌}
use mathlib.Core.List.{List}
use Prim.Native.Nat.{ℕ}
use Rattle.model.specs.Report.{Reported}
use Rattle.store.specs.declared.answer.Wrote.{Wrote}
use Rattle.report.specs.Reports.{Reports}

pub one_report : (o : Reported) (a b : Wrote) (out out' scratch scratch' : List ℕ) → Reports o a out scratch → Reports o b out' scratch' → (a ≡ b) × (out ≡ out') × (scratch ≡ scratch')
one_report o a b out out' scratch scratch' p q = (
  λ i. record { number = (p.answer.number_is ∙ sym q.answer.number_is) i; count = (p.answer.count_is ∙ sym q.answer.count_is) i },
  p.out_is ∙ sym q.out_is,
  p.scratch_is ∙ sym q.scratch_is,
)
