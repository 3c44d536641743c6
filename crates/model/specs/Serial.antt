-- Which serials and faults are valid.
use Rattle.std.specs.Prelude.{ℕ, List, Bool, ◌&&◌, ◌||◌, eqb, length, take, drop}
use Rattle.model.specs.Lists.{between, all}

-- a digit, an upper-case letter or a hyphen
unfoldable pub allowed : ℕ → Bool
allowed b = between 48 57 b || between 65 90 b || eqb b 45

-- the most bytes of a serial; it travels in as many
abbrev pub most_bytes : ℕ
most_bytes = 16

-- a serial: 1 to 16 bytes, each allowed
unfoldable pub serial_ok : List ℕ → Bool
serial_ok y = between 1 most_bytes (length y) && all allowed y

-- sixteen bytes and a length, as a serial travels: the first n are a serial, the unused ones zero
unfoldable pub valid_serial : List ℕ → ℕ → Bool
valid_serial bytes n = eqb (length (take n bytes)) n && (serial_ok (take n bytes) && all (eqb 0) (drop n bytes))

-- the highest code
abbrev pub most_code : ℕ
most_code = 9999

-- a fault: a day, 1 to 65,535, and a code, 1 to 9,999
unfoldable pub valid_fault : ℕ → ℕ → Bool
valid_fault day code = between 1 65535 day && between 1 most_code code
