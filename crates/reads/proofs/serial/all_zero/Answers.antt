-- `serial::all_zero` meets its contract: std's test of all elements is the model's.
use mathlib.Core.Path.{◌∙◌}
use lib.Dec.{eqb}
use Rattle.std.proofs.Common.{rules, tests}
use Rattle.std.proofs.lemmas.Iterator.{YieldsList-from_slice}
use Rattle.std.proofs.lemmas.Iterator.Search.{all_from_yields_List}
use Rattle.reads.proofs.Rows.{list_all_is}
use Rattle.reads.proofs.serial.all_zero.Goals as goal

pub returns : goal.returns
returns c =
    let xs = c.args.bytes.now in
    all_from_yields_List (eqb 0) _ _ c.all.result c.all.ensures.ran (YieldsList-from_slice xs cc) (λ x b q k. search (rules, tests)) ∙ list_all_is (eqb 0) xs
