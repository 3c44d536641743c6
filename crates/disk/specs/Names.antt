-- The names beside a file's: its own with an ending, as FILE.new, FILE.last and FILE.last.new; and the folder that it stands in.
use Rattle.std.specs.Prelude.{ℕ, suc, ◌≤◌, ◌≡◌, cond, List, [], ◌∷◌, ◌++◌, eqb, length, take}
use Rattle.text.specs.Decimals.{Puts}

-- a slash ends the name of a folder
abbrev pub slash : ℕ
slash = 47

-- how many bytes lie up to and with the last slash: r so far, at place i
unfoldable pub slash_end : ℕ → ℕ → List ℕ → ℕ
slash_end r i [] = r
slash_end r i (b ∷ bs) = slash_end (cond (eqb b slash) (suc i) r) (suc i) bs

pub record Folder (path : List ℕ) (r : ℕ) : Type 0 where
  pub is : r ≡ slash_end 0 0 path
  pub within : r ≤ length path
  pub cut : r ≡ length (take r path)

-- a path with an ending stands at the front of a buffer, r bytes long
pub record Named (path ending before : List ℕ) (r : ℕ) (out : List ℕ) : Type 0 where
  pub puts : Puts before 0 (path ++ ending) r out
  pub within : r ≤ length out
  pub cut : r ≡ length (take r out)
