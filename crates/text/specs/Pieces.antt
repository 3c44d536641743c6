-- A text taken apart at a separator.
use Rattle.std.specs.Prelude.{◌≡◌, List, ◌∷◌, ◌++◌, ℕ}
use Rattle.model.specs.Text.{fields}

-- the first piece, and what stands behind the separator that ends it
pub record Parts (sep : ℕ) (text piece rest : List ℕ) : Type 0 where
  pub joined : text ≡ piece ++ sep ∷ rest
  pub first : fields sep text ≡ piece ∷ fields sep rest
