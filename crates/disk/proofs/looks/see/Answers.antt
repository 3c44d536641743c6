-- `disk::looks::see` meets its contract: a file of a length that no store has is none; of any other the words have room.
use Prim.Native.Nat.{ℕ, ◌*◌}
use mathlib.Core.Path.{sym, ap, ◌∙◌}
use native.Mathlib.Omega.{arith}
use lib.Seq.{length-take-le}
use Rattle.disk.specs.Check.{desk_check}
use Rattle.disk.proofs.Lengths.{most_words_lem, sized_is}
use Rattle.disk.proofs.looks.see.Goals as goal

pub returns-then-not-sized : goal.returns-then-not-sized
unfolding desk_check
returns-then-not-sized c = let d = c.sized in rw (sym d.ensures ∙ c.if-not-sized.true)

pub slice_bounds-space-end : goal.slice_bounds-space-end
slice_bounds-space-end c = let d = c.sized in omega (arith, most_words_lem, c.room-space.ensures, (sized_is _ (sym d.ensures ∙ c.if-not-sized.false)).0)

pub slice_bounds-see_in-end : goal.slice_bounds-see_in-end
slice_bounds-see_in-end c =
    let d = c.sized in
    let r = c.room-space in
    sym (length-take-le _ r.result (omega (arith, most_words_lem, r.ensures, (sized_is _ (sym d.ensures ∙ c.if-not-sized.false)).0)))

pub see_in-requires : goal.see_in-requires
see_in-requires c =
    let d = c.sized in
    let r = c.room-space in
    let z = sized_is _ (sym d.ensures ∙ c.if-not-sized.false) in
    z.1 ∙ ap (λ (n : ℕ). 4 * n) (sym (length-take-le _ r.result (omega (arith, most_words_lem, r.ensures, z.0))))

pub returns : goal.returns
unfolding desk_check
returns c = let d = c.sized in rw (sym d.ensures ∙ c.if-not-sized.false) c.see_in.ensures
