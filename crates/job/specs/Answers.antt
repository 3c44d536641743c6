-- The text of an answer from its numbers.
use Rattle.std.specs.Prelude.{◌≡◌, List, [], ◌∷◌, ◌++◌, ℕ, ◌+◌, ◌*◌, ◌≤◌, length}
use Rattle.model.specs.Text.{lf, space, decimal}
use Rattle.model.specs.Job.{colon, pair_text}
use Rattle.text.specs.Decimals.{marked}

-- a fault: ` day:code`
unfoldable pub pair_of : ℕ → ℕ → List ℕ
pair_of day code = marked space day ++ marked colon code

-- number, comparisons, scanned and faults, one space between
unfoldable pub numbers_of : ℕ → ℕ → ℕ → ℕ → List ℕ
numbers_of number comparisons scanned faults = decimal number ++ (marked space comparisons ++ (marked space scanned ++ marked space faults))

-- an answer line: the four numbers, the pairs listed, LF
unfoldable pub answer_of : ℕ → ℕ → ℕ → ℕ → ℕ → List ℕ → List ℕ
answer_of number comparisons scanned faults count room = numbers_of number comparisons scanned faults ++ (pair_text count room ++ (lf ∷ []))

-- how long an answer line with its LF is
pub record AnswerLong (answer : List ℕ) (count r : ℕ) : Type 0 where
  pub is : r ≡ length answer
  pub most : r ≤ 44 + 22 * count
