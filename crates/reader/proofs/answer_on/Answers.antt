-- `reader::answer_on` meets its contract: the job stands in the front of the output, and behind it is room for any closing line.
use mathlib.Core.Path.{sym}
use native.Mathlib.Omega.{arith}
use lib.Seq.{length-take-le}
use Rattle.reader.specs.Depot.{output_size}
use Rattle.reader.proofs.Wholes.{whole_fits, whole_answers}
use Rattle.reader.proofs.answer_on.Goals as goal

pub slice_bounds-run_on-end : goal.slice_bounds-run_on-end
unfolding output_size
slice_bounds-run_on-end c = omega arith

pub slice_bounds-run_on-end-2 : goal.slice_bounds-run_on-end-2
unfolding output_size
slice_bounds-run_on-end-2 c = sym (length-take-le output_size c.args.out.now (omega (arith, c.requires)))

pub close-len-requires : goal.close-len-requires
unfolding output_size
close-len-requires c =
    whole_fits _ _ c.args.out.now c.requires c.run_on-done.ensures

pub returns : goal.returns
unfolding output_size
returns c =
    whole_answers _ _ c.args.out.now c.requires c.run_on-done.ensures c.close-len.ensures
