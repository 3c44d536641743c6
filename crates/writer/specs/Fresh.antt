-- The words of a fresh store's cells, one behind another.
use Rattle.std.specs.Prelude.{cond, List, ◌∷◌, map, ℕ, ◌+◌, ◌-◌, ltb, replicate}
use Rattle.model.specs.Lists.{join, from}

-- the cell behind cell i of n cells, 0 behind the last
unfoldable pub behind : ℕ → ℕ → ℕ
behind n i = cond (ltb i n) (i + 1) 0

-- a free cell that leads to `next`: zero but for that word
unfoldable pub leading : ℕ → ℕ → List ℕ
leading width next = next ∷ replicate (width - 1) 0

-- free cells 1 to i of n, each leading to the one behind it
unfoldable pub cells_to : ℕ → ℕ → ℕ → List ℕ
cells_to width n i = join (map (λ k. leading width (behind n k)) (from 1 i))
