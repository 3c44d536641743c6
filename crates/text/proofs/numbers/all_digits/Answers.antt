-- `text::numbers::all_digits` meets its contract: std's `all`, at the test of a digit. Assumes nothing.
use Rattle.std.proofs.Common.{rules, ◌∙◌, tests}
use Rattle.std.proofs.lemmas.Iterator.{YieldsList-from_slice}
use Rattle.std.proofs.lemmas.Iterator.Search.{all_from_yields_List}
use Rattle.model.specs.Lists.{between}
use Rattle.text.proofs.ListWords.{list_all_is}
use Rattle.text.proofs.numbers.all_digits.Goals as goal

pub returns : goal.returns
unfolding between
returns c =
    let t = c.args.field.now in
    all_from_yields_List (between 48 57) _ _ _ c.all.ensures.ran (YieldsList-from_slice t cc) (λ x b q k. search (rules, tests)) ∙ list_all_is (between 48 57) t
