-- `disk::names::folder_end` meets its contract: behind the slash that is found there is no other.
use Rattle.std.proofs.Common.{rules, ◌+◌, refl, sym, arith}
use lib.Seq.{length-take-le}
use Rattle.disk.proofs.Slashes.{slash_none, slash_last}
use Rattle.disk.proofs.names.folder_end.Goals as goal

pub returns-in-Some : goal.returns-in-Some
returns-in-Some c =
    let path = c.args.path.now in
    let n = c.in-Some.slash in
    let e = slash_last 0 0 path n (search rules) (search rules) (search rules) in
    record { is = omega (arith, e); within = search rules; cut = sym (length-take-le (n + 1) path (search rules)) }

pub returns-in-None : goal.returns-in-None
returns-in-None c =
    let e = slash_none 0 0 c.args.path.now (search rules) in
    record { is = sym e; within = omega arith; cut = refl }
