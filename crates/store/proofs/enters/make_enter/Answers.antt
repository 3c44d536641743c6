-- `enters::make_enter` meets its contract: the plan's places are those of the serial, the words with the new card stand for the store with it
-- and count it, and once grown they are those of the step.
use native.Mathlib.Omega.{arith}
use Rattle.writer.proofs.GrowLaws.{rep_fairly}
use Rattle.store.proofs.MakeLaws.{may_place, rep_place, read_place, held_place, made_enter}
use Rattle.store.proofs.enters.make_enter.Goals as goal

pub overflow_add-n : goal.overflow_add-n
overflow_add-n c =
    let p = c.requires in
    let m = may_place _ p.0 _ _ p.1 in
    omega (arith, m.held, m.sized.room)

pub place-requires : goal.place-requires
place-requires c =
    let p = c.requires in
    (may_place _ p.0 _ _ p.1, p.1.places.valid)

pub grow-requires : goal.grow-requires
grow-requires c =
    let p = c.requires in
    let i = c.place.ensures in
    (rep_fairly (rep_place _ p.0 _ _ p.1 i), read_place _ p.0 _ _ p.1 i, omega (arith, held_place _ p.0 _ _ p.1 i))

pub returns : goal.returns
returns c =
    let p = c.requires in
    made_enter _ p.0 _ _ p.1 c.place.ensures c.grow.ensures
