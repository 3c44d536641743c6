-- `reader::run_on` meets its contract: the job ran with zero scratch and a tally of nothing, which is the default of a tally.
use Rattle.std.proofs.Common.{◌≡◌}
use Rattle.model.specs.Shape.{most_cards, most_faults, need}
use Rattle.job.specs.Counts.{tally_of}
use Rattle.reader.specs.Depot.{blank, nothing}
use Rattle.reader.proofs.run_on.Goals as goal

pub returns : goal.returns
unfolding need most_cards most_faults blank nothing
returns c =
    let z = c.default-none.ensures in
    let none : tally_of c.default-none.result ≡ nothing = rw (z.0, z.1.0, z.1.1.0, z.1.1.1.0, z.1.1.1.1.0, z.1.1.1.1.1) in
    let d = rw none at c.work-ran.ensures in
    record { number_is = d.number_is; bytes_are = d.bytes_are; words_are = d.words_are; out_is = d.out_is }
