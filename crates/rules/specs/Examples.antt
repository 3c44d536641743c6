-- The twelve marked examples of document 01, as one table. `proofs/Examples.antt` has the claim about it. Assumes nothing.
use Rattle.std.specs.Prelude.{◌≡◌, ℕ, Bool, true, false, not, ◌&&◌, List, [], ◌∷◌, ◌==◌}
use Rattle.rules.specs.Code.{code_of}
use Rattle.rules.specs.Table.{top, no_address, state_ok, address_of, splits, contracts}

-- a line of the table
pub data Example : Type 0 where
  code_is : List ℕ → ℕ → Example
  address_is : ℕ → ℕ → ℕ → ℕ → Example
  no_state : ℕ → ℕ → Example
  split_from : ℕ → ℕ → ℕ → Example
  contracts_from : ℕ → ℕ → ℕ → Example

-- what a line says of the rules
abbrev pub Says : Example → Type 0
Says (code_is bytes code) = code_of bytes ≡ code
Says (address_is code maxp p a) = address_of code maxp p ≡ a
Says (no_state maxp p) = (code : ℕ) → address_of code maxp p ≡ no_address
Says (split_from b n k) = (splits top 4 n b ≡ false) × (splits top 4 k b ≡ true)
Says (contracts_from b n k) = (contracts 2 n b ≡ false) × (contracts 2 k b ≡ true)

-- the same as a test
unfoldable pub holds : Example → Bool
holds (code_is bytes code) = code_of bytes == code
holds (address_is code maxp p a) = address_of code maxp p == a
holds (no_state maxp p) = not (state_ok top maxp p)
holds (split_from b n k) = not (splits top 4 n b) && splits top 4 k b
holds (contracts_from b n k) = not (contracts 2 n b) && contracts 2 k b

unfoldable pub all_hold : List Example → Bool
all_hold [] = true
all_hold (e ∷ es) = holds e && all_hold es

unfoldable pub marked : List Example
marked =
    code_is (55 ∷ []) 55
    ∷ code_is (48 ∷ 55 ∷ []) 1639
    ∷ code_is (48 ∷ 48 ∷ 55 ∷ []) 53911
    ∷ address_is 55 16 7 7
    ∷ address_is 55 16 8 23
    ∷ address_is 1639 16 8 7
    ∷ address_is 53911 16 8 23
    ∷ address_is 53911 256 0 151
    ∷ no_state 24 0
    ∷ no_state 256 1
    ∷ split_from 16 64 65
    ∷ contracts_from 17 34 33
    ∷ []
