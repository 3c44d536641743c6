-- `writes::set_words` meets its contract: cell i stands whole in the part.
use Prim.Native.Nat.{◌-◌, ◌*◌}
use native.Mathlib.Omega.{arith}
use Rattle.writer.proofs.WriteLaws.{cell_whole, written_over}
use Rattle.writer.proofs.writes.set_words.Goals as goal

pub returns : goal.returns
returns c =
    let p = c.requires in
    rw c.copy_from_slice.ensures.after (written_over c.args.part.now c.args.words.now (c.args.width * (c.args.i - 1)) (omega (arith, p, cell_whole _ _ _ p.0 p.1)))
