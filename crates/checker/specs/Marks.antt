-- Marks of visited cells in a list of bytes: number k has bit k % 8 of byte k / 8.
use Rattle.std.specs.Prelude.{Bool, List, ℕ, ◌/◌, ◌%◌, ◌^◌, eqb, get_or, set}
use Rattle.std.specs.Int.Bits.{bit_or}

-- bit j of a byte
unfoldable pub bit_of : ℕ → ℕ → ℕ
bit_of b j = b / 2 ^ j % 2

-- whether number k is marked
unfoldable pub mark_at : List ℕ → ℕ → Bool
mark_at bytes k = eqb (bit_of (get_or bytes (k / 8) 0) (k % 8)) 1

-- the bytes with number k marked too
unfoldable pub marked_at : List ℕ → ℕ → List ℕ
marked_at bytes k = set bytes (k / 8) (bit_or (get_or bytes (k / 8) 0) (2 ^ (k % 8)))
