-- The number that digits stand for, and the checksum of numbers. Assumes nothing.
use Rattle.std.specs.Prelude.{◌≡◌, ℕ, ◌+◌, ◌*◌, ◌%◌, ◌^◌, List, fold}

-- a number with one decimal digit more, modulo 2^32
abbrev pub with_digit : ℕ → ℕ → ℕ
with_digit n digit = (10 * n + digit % 16) % 2 ^ 32

-- a checksum with one number more: a polynomial modulo 2^32
abbrev pub mixed : ℕ → ℕ → ℕ
mixed sum x = (16777619 * sum + x) % 2 ^ 32

-- the second checksum is the first with a list more, whose items convert to numbers
abbrev pub MixesIn : {T : Type 0} → (T → ℕ → Type 0) → ℕ → List T → ℕ → Type 0
MixesIn {T} converts sum xs after =
    (number : T → ℕ) → ((x : T) (n : ℕ) → converts x n → n ≡ number x) → after ≡ fold (λ s x. mixed s (number x)) sum xs
