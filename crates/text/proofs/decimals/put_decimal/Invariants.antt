use Rattle.std.proofs.Common.{◌≡◌, ◌+◌, ◌≤◌, length}
use Rattle.std.proofs.lemmas.List.Edits.{sets}
use Rattle.model.specs.Text.{decimal}
use Rattle.text.proofs.decimals.put_decimal.Given as goal

abbrev pub invariant-loop-i : goal.invariant-loop-i
invariant-loop-i l = record {
  less : l.m ≤ l.n;
  next : l.i ≡ l.at + length (decimal l.m);
  whole : sets l.out l.at (decimal l.m) ≡ sets l.initial.out l.at (decimal l.n);
}
