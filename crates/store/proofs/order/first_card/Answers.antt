-- `order::first_card` meets its contract: the first card is that of the buckets from bucket 0 on.
use mathlib.Core.Path.{◌∙◌}
use Rattle.store.proofs.OrderLaws.{first_place}
use Rattle.store.proofs.order.first_card.Goals as goal

pub returns : goal.returns
returns c = c.from_bucket.ensures ∙ first_place _
