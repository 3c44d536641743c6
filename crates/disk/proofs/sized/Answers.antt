-- `disk::sized` meets its contract: its tests are those of the definition.
use mathlib.Core.Path.{◌≡◌, sym, ◌∙◌}
use native.Mathlib.Omega.{arith}
use Rattle.model.specs.Lists.{between}
use Rattle.disk.specs.Desk.{least_bytes, most_bytes, sized}
use Rattle.disk.proofs.Lengths.{within, least_words_lem, most_words_lem}
use Rattle.disk.proofs.sized.Goals.{After-contains}
use Rattle.disk.proofs.sized.Goals as goal

told : (c : After-contains) → c.contains.result ≡ between least_bytes most_bytes c.args.n
told c =
    let r = c.new.ensures in
    within least_bytes most_bytes _ c.contains.ensures.value (omega (arith, least_words_lem, r.start)) (omega (arith, most_words_lem, r.end)) r.exhausted

pub returns-then-contains : goal.returns-then-contains
unfolding sized
returns-then-contains c = rw (sym (told (goal.at.returns-then-contains c).After-contains) ∙ c.if-contains.true, least_words_lem)

pub returns-else-contains : goal.returns-else-contains
unfolding sized
returns-else-contains c = rw (sym (told (goal.at.returns-else-contains c).After-contains) ∙ c.if-contains.false) c.if-contains.false
