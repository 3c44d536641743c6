-- `reader::fresh_store` meets its contract: Open accepts these limits and bounds for so many words, whatever they hold.
use Rattle.std.proofs.Common.{ℕ, ◌∙◌}
use lib.ListN.{length-replicate}
use Rattle.model.specs.Shape.{entries, card_width}
use Rattle.model.specs.Layout.{cards_at, faults_at, length_for}
use Rattle.model.specs.Calls.{shape_for}
use Rattle.reader.specs.Depot.{depot_shape}
use Rattle.reader.proofs.Opening.{opens_fresh, opens_done}
use Rattle.reader.proofs.fresh_store.Goals as goal

pub unwrap-requires : goal.unwrap-requires
unfolding length_for faults_at cards_at card_width entries shape_for
unwrap-requires c = opens_done _ (length-replicate {A = ℕ} (length_for depot_shape) 0) _ c.«open».ensures.number_is

pub returns : goal.returns
unfolding length_for faults_at cards_at card_width entries shape_for
returns c = c.«open».ensures.words_are ∙ opens_fresh _ (length-replicate {A = ℕ} (length_for depot_shape) 0)
