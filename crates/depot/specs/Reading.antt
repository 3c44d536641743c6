-- What the answer of a read says, and how many bytes may come of it.
use Rattle.std.specs.Prelude.{ℕ, zero, suc, ◌≤◌, ◌<◌, Option, Some, None, IfSome, Result, Ok, Err, IfOk}

-- an error is a failure, 0 is the end of the input, any other number so many bytes
abbrev pub step_of : {E : Type 0} → Result ℕ E → Result (Option ℕ) E
step_of (Ok zero) = Ok None
step_of (Ok (suc k)) = Ok (Some (suc k))
step_of (Err e) = Err e

-- what comes is at least one byte and fits the room
abbrev pub Brings : {E : Type 0} → ℕ → Result (Option ℕ) E → Type 0
Brings room step = IfOk step (λ o. IfSome o (λ n. (0 < n) × (n ≤ room)))

-- an input that was read to its end lies within the room
abbrev pub Within : {E : Type 0} → ℕ → Result ℕ E → Type 0
Within room input = IfOk input (λ len. len ≤ room)
