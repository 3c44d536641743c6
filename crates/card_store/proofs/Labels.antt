-- A label through `reader_pad`: one of at most sixteen bytes is kept, and with its length it is taken for a serial exactly where it is one. So no label is
-- cut or stretched into another card's serial: a longer one is refused by 4.
use mathlib.Core.Path.{◌≡◌, refl, sym, ◌∙◌}
use mathlib.Core.Bool.{Bool, true, false}
use mathlib.Core.List.{List, [], ◌∷◌, ◌++◌}
use Prim.Native.Nat.{ℕ, zero, suc, ◌≤◌, ◌<◌}
use native.Mathlib.Omega.{arith}
use lib.Dec.{eqb, ltb}
use lib.ListN.{length, take, drop, replicate}
use lib.Seq.{take-take, take-append_seam}
use borrow.Author.Tests.{eq-eqb, ltb-true, ltb-false}
use Rattle.rules.proofs.Tests.{by_cases, and_true}
use Rattle.model.specs.Lists.{all}
use Rattle.model.specs.Serial.{most_bytes, serial_ok, valid_serial}
use Rattle.model.specs.Job.{padded}
use Rattle.model.proofs.Valid.{serial_means, valid_means}

pub label_kept : (x : List ℕ) → length x ≤ most_bytes → take (length x) (padded x) ≡ x
unfolding padded
label_kept x h = take-take (length x) most_bytes (x ++ replicate most_bytes 0) h ∙ take-append_seam x (replicate most_bytes 0)

-- behind it all bytes are zero
zeros : (m k : ℕ) → all (eqb 0) (take m (replicate k 0)) ≡ true
zeros zero k = refl
zeros (suc m) zero = refl
zeros (suc m) (suc k) = zeros m k

zeros_behind : (x : List ℕ) (m k : ℕ) → all (eqb 0) (drop (length x) (take m (x ++ replicate k 0))) ≡ true
zeros_behind [] m k = zeros m k
zeros_behind (b ∷ x) zero k = refl
zeros_behind (b ∷ x) (suc m) k = zeros_behind x m k

-- a label that fits
unused : (x : List ℕ) → all (eqb 0) (drop (length x) (padded x)) ≡ true
unfolding padded
unused x = zeros_behind x most_bytes most_bytes

fits : (x : List ℕ) → length x ≤ most_bytes → valid_serial (padded x) (length x) ≡ serial_ok x
unfolding valid_serial
fits x h = rw (label_kept x h, eq-eqb (length x) (length x) refl, unused x) (and_true (serial_ok x))

-- one that is too long: neither is so long
denied : (b : Bool) → (b ≡ true → ⊥) → b ≡ false
denied b never = by_cases b (λ e. absurd (never e)) (λ e. e)

too_long : (x : List ℕ) → most_bytes < length x → valid_serial (padded x) (length x) ≡ serial_ok x
too_long x h =
    denied (valid_serial (padded x) (length x)) (λ e. let m = ((valid_means (padded x) (length x)).0 e).most in omega arith)
    ∙ sym (denied (serial_ok x) (λ e. let m = ((serial_means x).0 e).most in omega arith))

pub label_valid : (x : List ℕ) → valid_serial (padded x) (length x) ≡ serial_ok x
label_valid x = by_cases (ltb most_bytes (length x)) (λ e. too_long x (ltb-true most_bytes (length x) e)) (λ e. fits x (ltb-false most_bytes (length x) e))
