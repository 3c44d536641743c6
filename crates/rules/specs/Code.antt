-- The serial code: hash_x33 of source document 002, modulo 2 ^ 32. Assumes nothing.
use Rattle.std.specs.Prelude.{ℕ, ◌+◌, ◌*◌, ◌%◌, ◌^◌, List, [], ◌∷◌}

-- the code c with one byte more: 33 × code + byte, wrapped to 32 bits
abbrev pub code_step : ℕ → ℕ → ℕ
code_step c b = (33 * c + b) % 2 ^ 32

-- the code c with the bytes of a list more, from the first to the last
unfoldable pub code_from : ℕ → List ℕ → ℕ
code_from c [] = c
code_from c (b ∷ bs) = code_from (code_step c b) bs

-- the code of a byte string starts at 0
unfoldable pub code_of : List ℕ → ℕ
code_of bytes = code_from 0 bytes
