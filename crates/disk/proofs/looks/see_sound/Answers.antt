-- `disk::looks::see_sound` meets its contract: the header has the limits and the bounds, and the counts stand in its words.
use mathlib.Core.Path.{refl, sym, ap}
use native.Mathlib.Omega.{arith}
use Rattle.model.specs.Shape.{Shape}
use Rattle.disk.proofs.Telling.{sound_long, told_is}
use Rattle.disk.proofs.looks.see_sound.Goals as goal

pub bounds-w-5 : goal.bounds-w-5
bounds-w-5 c = omega (arith, sound_long c.args.w.now c.requires)

pub bounds-w-6 : goal.bounds-w-6
bounds-w-6 c = omega (arith, sound_long c.args.w.now c.requires)

pub returns : goal.returns
returns c =
    let h = sym c.header_of-h.ensures.shape in
    told_is c.args.w.now c.requires (ap (λ (sh : Shape). sh.limit) h) (ap (λ (sh : Shape). sh.fault_limit) h) (ap (λ (sh : Shape). sh.upper) h) (ap (λ (sh : Shape). sh.lower) h) refl refl c.buckets.ensures
