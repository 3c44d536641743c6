-- `disk::runs::sizes_ok` meets its contract: each size is tested, and then their sum.
use Rattle.std.proofs.Common.{rules, ◌≡◌, sum, sym, ◌∙◌}
use borrow.Author.Tests.{tests}
use Rattle.std.specs.List.{list_all}
use Rattle.std.proofs.lemmas.Iterator.{YieldsList-from_slice}
use Rattle.std.proofs.lemmas.Iterator.Search.{all_from_yields_List}
use Rattle.disk.specs.Desk.{sized}
use Rattle.disk.specs.Report.{sizes_ok}
use Rattle.disk.proofs.Summing.{all_is, sum_is}
use Rattle.disk.proofs.runs.sizes_ok.Goals as goal

pub returns-then-all : goal.returns-then-all
unfolding sizes_ok
returns-then-all c =
    let sizes = c.args.sizes.now in
    let tested : c.all.result ≡ list_all sized sizes = all_from_yields_List _ c.all.new.self c.all.new.f c.all.result c.all.ensures.ran (YieldsList-from_slice sizes cc) (λ x b q k. search (rules, tests)) in
    let added : c.sum.result ≡ sum sizes = search rules in
    rw (sym (all_is sized sizes) ∙ sym tested ∙ c.if-all.true, added, sum_is sizes)

pub returns-else-all : goal.returns-else-all
unfolding sizes_ok
returns-else-all c =
    let sizes = c.args.sizes.now in
    let tested : c.all.result ≡ list_all sized sizes = all_from_yields_List _ c.all.new.self c.all.new.f c.all.result c.all.ensures.ran (YieldsList-from_slice sizes cc) (λ x b q k. search (rules, tests)) in
    rw (sym (all_is sized sizes) ∙ sym tested ∙ c.if-all.false) c.if-all.false
