-- `disk::names::beside` meets its contract: the path and its ending, one behind the other.
use Rattle.std.proofs.Common.{rules}
use mathlib.Core.Path.{sym}
use mathlib.Core.List.{◌++◌}
use native.Mathlib.Omega.{arith}
use lib.ListN.{length-append}
use lib.Seq.{length-take-le}
use Rattle.text.specs.Decimals.{Puts}
use Rattle.text.specs.Writing.{puts_then}
use Rattle.text.proofs.Putting.{puts_length}
use Rattle.disk.proofs.names.beside.Goals as goal

pub put_text-requires-2 : goal.put_text-requires-2
put_text-requires-2 c = let p = c.put_text.ensures.puts in omega (arith, c.requires, p.end_is, puts_length c.args.path.now p)

pub returns : goal.returns
returns c =
    let path = c.args.path.now in
    let ending = c.args.ending.now in
    let p : Puts c.args.out.now 0 (path ++ ending) _ _ = puts_then path ending c.put_text.ensures.puts c.put_text-2.ensures.puts in
    let l = puts_length (path ++ ending) p in
    let h = length-append path ending in
    record { puts = search (rules, p); within = omega (arith, p.end_is, c.requires); cut = sym (length-take-le _ _ (omega (arith, p.end_is, c.requires))) }
