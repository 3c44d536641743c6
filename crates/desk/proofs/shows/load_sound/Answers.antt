-- A file that is told by 0 is no longer than the longest store.
use Rattle.std.proofs.Common.{length, take}
use mathlib.Core.Path.{sym, ap, ◌∙◌}
use native.Mathlib.Omega.{arith}
use lib.Seq.{length-take-le}
use borrow.Author.Tests.{not-false}
use Rattle.disk.specs.Check.{number_for}
use Rattle.disk.proofs.Lengths.{sized_is}
use Rattle.disk.proofs.Telling.{seen_sized}
use Rattle.desk.proofs.shows.load_sound.Goals as goal

pub returns : goal.returns
returns c =
    let file = c.load.new.file in
    let n = c.in_ok-len.len in
    let fits = c.in_ok-len.ensures.0 in
    let read = take n file in
    let l = length-take-le n file fits in
    let z = sized_is (length read) (seen_sized read (sym c.look.ensures.number_is ∙ ap number_for (not-false _ c.if-not-look.false))) in
    (fits, omega (arith, l, z.0, z.1))
