-- What it is to count a text.
use Rattle.std.specs.Prelude.{◌≡◌, List, ℕ, ◌+◌, ◌-◌, length}
use Rattle.std.proofs.Common.{arith, length-append}
use Rattle.text.specs.SinkLaws.{SinkLaws}
use Rattle.text.specs.declared.sink.Count.{Count}

-- a count takes what fits 64 bits
abbrev pub count_room : Count → ℕ
count_room s = 18446744073709551615 - s.bytes

-- the text's length is added
pub record Counts (s : Count) (text : List ℕ) (t : Count) : Type 0 where
  pub bytes_are : t.bytes ≡ s.bytes + length text

pub count_laws : SinkLaws count_room Counts
count_laws = record {
  nothing = λ s. record { bytes_are = omega arith };
  together = λ s t u a b p q. record { bytes_are = omega (arith, length-append a b, p.bytes_are, q.bytes_are) };
  room_after = λ s t a p. omega (arith, p.bytes_are);
}
