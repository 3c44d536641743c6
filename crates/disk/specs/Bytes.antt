-- The words of a store as the bytes of a file: four bytes a word, the lowest first.
use Rattle.std.specs.Prelude.{ℕ, ◌+◌, ◌*◌, ◌/◌, ◌%◌, ◌≡◌, List, [], ◌∷◌, ◌++◌, get_or}

unfoldable pub word_of : ℕ → ℕ → ℕ → ℕ → ℕ
word_of a b c d = a + 256 * (b + 256 * (c + 256 * d))

-- the word of the four bytes from `at` on
abbrev pub word_at : List ℕ → ℕ → ℕ
word_at bytes at = word_of (get_or bytes at 0) (get_or bytes (at + 1) 0) (get_or bytes (at + 2) 0) (get_or bytes (at + 3) 0)

-- bytes left over at the end, fewer than four, make no word
unfoldable pub words_of : List ℕ → List ℕ
words_of [] = []
words_of (a ∷ []) = []
words_of (a ∷ b ∷ []) = []
words_of (a ∷ b ∷ c ∷ []) = []
words_of (a ∷ b ∷ c ∷ d ∷ bs) = word_of a b c d ∷ words_of bs

unfoldable pub four : ℕ → List ℕ
four w = w % 256 ∷ w / 256 % 256 ∷ w / 256 / 256 % 256 ∷ w / 256 / 256 / 256 % 256 ∷ []

unfoldable pub file_of : List ℕ → List ℕ
file_of [] = []
file_of (w ∷ ws) = four w ++ file_of ws

-- words read from bytes, and written as bytes: each the other's way back
pub record ReadAs (bytes words : List ℕ) : Type 0 where
  pub are : words ≡ words_of bytes
  pub back : file_of words ≡ bytes

pub record WrittenAs (words bytes : List ℕ) : Type 0 where
  pub are : bytes ≡ file_of words
  pub back : words_of bytes ≡ words
