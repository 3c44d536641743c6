-- `disk::runs::report_in` meets its contract: the words are read, and their lengths are the sizes' quarters.
use mathlib.Core.Path.{sym, ap, ◌∙◌}
use native.Mathlib.Omega.{arith}
use lib.ListN.{length, drop, length-append, length-map, replicate}
use lib.Seq.{length-take-le, take_at}
use Rattle.disk.specs.Report.{words_in}
use Rattle.disk.proofs.runs.report_in.Goals as goal

pub slice_bounds-lengths_of-end : goal.slice_bounds-lengths_of-end
slice_bounds-lengths_of-end c = sym (length-take-le _ _ (omega (arith, c.requires.1)))

pub lengths_of-requires : goal.lengths_of-requires
lengths_of-requires c = sym (length-take-le _ _ (omega (arith, c.requires.1)))

pub slice_bounds-lengths-end-2 : goal.slice_bounds-lengths-end-2
slice_bounds-lengths-end-2 c =
    let l = c.lengths_of in
    omega (arith, ap length l.ensures, length-map c.args.sizes.now words_in, length-append l.new.lengths (drop (length c.args.sizes.now) (replicate 8 0)))

pub slice_bounds-report_on-end : goal.slice_bounds-report_on-end
slice_bounds-report_on-end c =
    let l = c.lengths_of in
    sym (length-take-le _ _ (omega (arith, ap length l.ensures, length-map c.args.sizes.now words_in, length-append l.new.lengths (drop (length c.args.sizes.now) (replicate 8 0)))))

pub returns : goal.returns
returns c =
    let l = c.lengths_of in
    let n = length c.args.sizes.now in
    let t = take_at l.new.lengths _ n (ap length l.ensures ∙ length-map c.args.sizes.now words_in) in
    rw (← c.read.ensures.are, ← l.ensures, ← t) c.report_on.ensures
