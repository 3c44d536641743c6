-- `disk::serve` meets its contract: a file of a length that no store has stays; of any other the words have room.
use native.Mathlib.Omega.{arith}
use Prim.Native.Nat.{ℕ, ◌*◌}
use mathlib.Core.Path.{refl, sym, ap, ◌∙◌}
use lib.Seq.{length-take-le}
use Rattle.disk.proofs.Lengths.{most_words_lem, sized_is}
use Rattle.disk.proofs.Served.{serves_none, serves_some}
use Rattle.disk.proofs.serve.Goals as goal

pub returns-then-not-sized : goal.returns-then-not-sized
returns-then-not-sized c =
    let d = c.sized in
    serves_none c.args.file.now c.args.text.now c.args.out.now refl (sym d.ensures ∙ c.if-not-sized.true) c.answer_on-e.ensures

pub slice_bounds-space-end : goal.slice_bounds-space-end
slice_bounds-space-end c = let d = c.sized in omega (arith, most_words_lem, c.room-space.ensures, (sized_is _ (sym d.ensures ∙ c.if-not-sized.false)).0)

pub slice_bounds-serve_in-end : goal.slice_bounds-serve_in-end
slice_bounds-serve_in-end c = let d = c.sized in let r = c.room-space in sym (length-take-le _ r.result (omega (arith, most_words_lem, r.ensures, (sized_is _ (sym d.ensures ∙ c.if-not-sized.false)).0)))

pub serve_in-requires : goal.serve_in-requires
serve_in-requires c =
    let d = c.sized in
    let r = c.room-space in
    let z = sized_is _ (sym d.ensures ∙ c.if-not-sized.false) in
    (z.1 ∙ ap (λ (n : ℕ). 4 * n) (sym (length-take-le _ r.result (omega (arith, most_words_lem, r.ensures, z.0)))), c.requires)

pub returns : goal.returns
returns c = let d = c.sized in serves_some c.args.file.now c.args.text.now c.args.out.now (sym d.ensures ∙ c.if-not-sized.false) c.serve_in.ensures
