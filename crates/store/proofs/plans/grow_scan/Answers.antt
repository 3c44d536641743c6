-- `plans::grow_scan` meets its contract: word 5 is the number of cards held, and with one more of them the load splits bucket p or not.
use mathlib.Core.Path.{◌≡◌, sym, ◌∙◌}
use mathlib.Core.Bool.{true}
use Prim.Native.Nat.{◌+◌}
use native.Mathlib.Omega.{arith}
use borrow.Author.Tests.{eq-eqb, ne_eqb}
use lib.ListN.{get_or}
use Rattle.rules.specs.Table.{splits}
use Rattle.store.proofs.PlanLaws.{size_room, held_room, bucket_room, grow_none, grow_some}
use Rattle.model.specs.Layout.{held_at}
use Rattle.store.proofs.plans.grow_scan.Goals.{Else-not-must_split}
use Rattle.store.proofs.plans.grow_scan.Goals as goal

pub overflow_add-n : goal.overflow_add-n
overflow_add-n c = omega (arith, c.word-n.ensures, held_room c.args.store.now.sound c.args.store.now.read)

pub overflow_add-h : goal.overflow_add-h
overflow_add-h c = omega (arith, (size_room c.args.store.now.sound c.args.store.now.read).1, c.args.store.now.read.sized.room)

pub returns-then-not-must_split : goal.returns-then-not-must_split
returns-then-not-must_split c =
    grow_none c.args.store.now.sound c.args.store.now.read c.args.b
    (rw (← c.word-n.ensures) (sym c.must_split.ensures ∙ c.if-not-must_split.true))

-- past the test bucket p is split
splits_p : (c : Else-not-must_split) → splits c.args.store.now.view.header.top c.args.store.now.view.header.upper (get_or c.args.store.now.view.words.now held_at 0 + 1) (c.args.store.now.view.header.maxp + c.args.store.now.view.header.p) ≡ true
splits_p c = rw (← c.word-n.ensures) (sym c.must_split.ensures ∙ c.if-not-must_split.false)

pub bucket_len-k-requires : goal.bucket_len-k-requires
bucket_len-k-requires c = (omega (arith, (size_room c.args.store.now.sound c.args.store.now.read).2))

pub overflow_add-result : goal.overflow_add-result
overflow_add-result c =
    omega (arith, c.bucket_len-k.ensures, bucket_room c.args.store.now.sound c.args.store.now.read {b = c.args.store.now.view.header.p} (omega (arith, (size_room c.args.store.now.sound c.args.store.now.read).2)))

pub returns-then-b-h : goal.returns-then-b-h
returns-then-b-h c =
    rw c.bucket_len-k.ensures (rw (eq-eqb c.args.b c.args.store.now.view.header.p c.if-b-h.true) at (grow_some c.args.store.now.sound c.args.store.now.read c.args.b (splits_p (goal.at.returns-then-b-h c).Else-not-must_split)))

pub returns-else-b-h : goal.returns-else-b-h
returns-else-b-h c =
    omega (arith, c.bucket_len-k.ensures, rw (ne_eqb c.args.b c.args.store.now.view.header.p c.if-b-h.false) at (grow_some c.args.store.now.sound c.args.store.now.read c.args.b (splits_p (goal.at.returns-else-b-h c).Else-not-must_split)))
