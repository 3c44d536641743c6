-- The closing line: none for 0 (`closing_none`), else its line (`closing_some`) of four numbers and LF (`line_is`), at most nine bytes for a number of two digits (`closing_long`).
use Prim.Native.Nat.{ℕ, ◌/◌, ◌≤◌}
use mathlib.Core.Path.{◌≡◌}
use mathlib.Core.List.{[], ◌∷◌, ◌++◌, append_assoc}
use mathlib.Core.Logic.{⊎_elim}
use native.Mathlib.Omega.{arith}
use lib.ListN.{length, length-append}
use borrow.Author.Tests.{eq-eqb, ne_eqb}
use Rattle.rules.proofs.Tests.{eq?, lt?}
use Rattle.model.specs.Text.{decimal}
use Rattle.text.specs.Decimals.{marked}
use Rattle.text.proofs.DecimalLaws.{decimal_small, decimal_one, decimal_less}
use Rattle.job.specs.Answers.{numbers_of}
use Rattle.reader.specs.Depot.{closing_size, closing, closing_line}

pub closing_none : (n : ℕ) → n ≡ 0 → closing n ≡ []
unfolding closing
closing_none n e = rw e

zero_text : decimal 0 ≡ 48 ∷ []
zero_text = decimal_small 0 (omega arith)

pub closing_some : (n : ℕ) → (n ≡ 0 → ⊥) → closing n ≡ closing_line n
unfolding closing
closing_some n h = rw (ne_eqb n 0 h)

pub line_is : (n : ℕ) → closing_line n ≡ numbers_of n 0 0 0 ++ (10 ∷ [])
unfolding numbers_of marked
line_is n = rw (zero_text, append_assoc (decimal n) _ (10 ∷ []))

two_digits : (n : ℕ) → n ≤ 99 → length (decimal n) ≤ 2
two_digits n h =
    ⊎_elim (λ l. omega (arith, decimal_one n l)) (λ l. omega (arith, decimal_less n l (omega arith), decimal_one (n / 10) (omega arith))) (lt? n 10)

pub closing_long : (n : ℕ) → n ≤ 99 → length (closing n) ≤ closing_size
unfolding closing
closing_long n h =
    ⊎_elim (λ e. rw (eq-eqb n 0 e) (omega arith)) (λ e. rw (ne_eqb n 0 e) (omega (arith, length-append (decimal n) (32 ∷ 48 ∷ 32 ∷ 48 ∷ 32 ∷ 48 ∷ 10 ∷ []), two_digits n h))) (eq? n 0)
