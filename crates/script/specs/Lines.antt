-- The lines of a script and their fields. Assumes nothing.
use Rattle.std.specs.Prelude.{ℕ, zero, suc, ◌+◌, ◌-◌, ◌==◌, List, length, take, drop, position, unwrap_or, fold, slice_index_or, if◌then◌else◌}
use Rattle.script.specs.Numbers.{with_digit}

-- the bytes before the first mark, all of them where there is none
abbrev pub before : List ℕ → ℕ → List ℕ
before bytes mark = take (unwrap_or (position (λ b. b == mark) bytes) (length bytes)) bytes

-- what stands behind so many marks, nothing where there are fewer
abbrev pub behind : List ℕ → ℕ → ℕ → List ℕ
behind bytes mark zero = bytes
behind bytes mark (suc k) = behind (drop (length (before bytes mark) + 1) bytes) mark k

-- a piece without the LF at its end, the whole of it where it ends otherwise
abbrev pub without_lf : List ℕ → List ℕ
without_lf piece =
    let n = length piece - 1 in
    if slice_index_or piece n 0 == 10 then take n piece else piece

-- a field of a line, which single spaces part
abbrev pub field : List ℕ → ℕ → List ℕ
field line k = before (behind line 32 k) 32

-- the number in a field
abbrev pub number_in : List ℕ → ℕ → ℕ
number_in line k = fold with_digit 0 (field line k)
