-- `layout::faults_at` meets its contract: the card cells stand before.
use Prim.Native.Nat.{◌+◌, ◌*◌, ◌<◌}
use mathlib.Core.Path.{◌≡◌}
use native.Mathlib.Omega.{arith}
use Rattle.model.specs.Layout.{faults_at}
use Rattle.reads.specs.Cells.{shape_by}
use Rattle.reads.proofs.FrontLaws.{behind_few}
use Rattle.reads.proofs.layout.faults_at.Goals.{After-card_width-width}
use Rattle.reads.proofs.layout.faults_at.Goals as goal

-- the sum that the code makes is what the contract says
sum : (c : After-card_width-width) → c.cards_at-base.result + c.card_width-width.result * c.args.s.cards ≡ faults_at (shape_by c.args.s)
unfolding faults_at
sum c = λ i. c.cards_at-base.ensures i + c.card_width-width.ensures i * c.args.s.cards

few : (c : After-card_width-width) → faults_at (shape_by c.args.s) < 68719476736
few c = behind_few _ (omega (arith, c.well_formed))

pub overflow_mul-result : goal.overflow_mul-result
overflow_mul-result c = omega (arith, sum (goal.at.overflow_mul-result c).After-card_width-width, few (goal.at.overflow_mul-result c).After-card_width-width)

pub overflow_add-result : goal.overflow_add-result
overflow_add-result c = omega (arith, sum (goal.at.overflow_add-result c).After-card_width-width, few (goal.at.overflow_add-result c).After-card_width-width)

pub returns : goal.returns
returns c = sum (goal.at.returns c).After-card_width-width
