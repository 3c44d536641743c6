-- `fresh::put_first` meets its contract: zeros, and one word in front of them.
use mathlib.Core.Path.{ap, ◌∙◌}
use mathlib.Core.List.{List}
use Prim.Native.Nat.{ℕ}
use lib.ListN.{set}
use Rattle.writer.proofs.FreshLaws.{lead_set}
use Rattle.writer.proofs.fresh.put_first.Goals as goal

pub returns : goal.returns
returns c =
    ap (λ (l : List ℕ). set l 0 c.args.first) (c.fill.ensures.after (λ y e. e)) ∙ lead_set _ c.args.first c.requires
