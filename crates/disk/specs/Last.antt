-- The saved answers of a job, in FILE.last: how many words the store has, in four bytes, lowest first; the file's bytes as the job left them; the answers.
use Rattle.std.specs.Prelude.{ℕ, ◌+◌, ◌/◌, Bool, ◌&&◌, List, ◌++◌, length, take, drop}
use Rattle.model.specs.Lists.{same}
use Rattle.disk.specs.Bytes.{four}

-- the four bytes before the file's
unfoldable pub head_of : List ℕ → List ℕ
head_of file = four (length file / 4)

abbrev pub head_size : ℕ
head_size = 4

unfoldable pub last_of : List ℕ → List ℕ → List ℕ
last_of file text = head_of file ++ (file ++ text)

-- a part stands in a text at a place
abbrev pub stands_at : List ℕ → ℕ → List ℕ → Bool
stands_at text at part = same (take (length part) (drop at text)) part

-- saved answers are those of the job that left exactly these bytes
unfoldable pub belongs : List ℕ → List ℕ → Bool
belongs file last = stands_at last 0 (head_of file) && stands_at last head_size file

-- and then the answers are what stands behind
abbrev pub answers_in : List ℕ → List ℕ → List ℕ
answers_in file last = drop (head_size + length file) last
