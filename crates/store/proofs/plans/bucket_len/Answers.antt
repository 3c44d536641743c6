-- `plans::bucket_len` meets its contract: the bucket's word leads through the cells of its cards.
use mathlib.Core.Path.{◌∙◌}
use Rattle.store.proofs.PlanLaws.{bucket_below, bucket_chain, bucket_length}
use Rattle.store.proofs.plans.bucket_len.Goals as goal

pub chain_len-requires : goal.chain_len-requires
chain_len-requires c = (rw c.bucket_word-first.ensures (bucket_chain c.args.store.now.sound c.args.store.now.read c.requires))

pub returns : goal.returns
returns c =
    c.chain_len.ensures ∙ rw c.bucket_word-first.ensures (bucket_length c.args.store.now.sound c.args.store.now.read c.requires)

pub bucket_word-first-requires : goal.bucket_word-first-requires
bucket_word-first-requires c = (bucket_below c.args.store.now.sound c.args.store.now.read c.requires)
