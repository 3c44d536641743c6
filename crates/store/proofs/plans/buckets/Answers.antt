-- `plans::buckets` meets its contract: words 3 and 4 are the state that the store has, and their sum is at most the most buckets.
use native.Mathlib.Omega.{arith}
use Rattle.reads.proofs.StoredLaws.{read_store}
use Rattle.store.proofs.PlanLaws.{size_room}
use Rattle.store.proofs.plans.buckets.Goals as goal

pub overflow_add-result : goal.overflow_add-result
overflow_add-result c = omega (arith, (size_room c.of-store.result.sound c.of-store.result.read).1, c.of-store.result.read.sized.room)

pub returns : goal.returns
returns c = let r = read_store (rw c.of-store.ensures at c.of-store.result.read) in omega (arith, r.1, r.2)
