-- What it is to write a text, and a number as text.
use Rattle.std.specs.Prelude.{◌≡◌, List, ◌∷◌, ℕ, ◌+◌, ◌≤◌, length}
use Rattle.std.proofs.lemmas.List.Edits.{sets}
use Rattle.model.specs.Text.{decimal}

-- from `at` on the output has the bytes of the text, all else is as it was, and `end` is the place behind the text
pub record Puts (out : List ℕ) (at : ℕ) (text : List ℕ) (end : ℕ) (left : List ℕ) : Type 0 where
  pub out_is : left ≡ sets out at text
  pub end_is : end ≡ at + length text

-- the digits of a 32-bit number
pub record Digits (n r : ℕ) : Type 0 where
  pub is : r ≡ length (decimal n)
  pub most : r ≤ 10

-- a number with a mark before it: ` n` or `:n`
unfoldable pub marked : ℕ → ℕ → List ℕ
marked mark n = mark ∷ decimal n
