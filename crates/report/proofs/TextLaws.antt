-- The text of a report, part by part. A line is its first number and the others with a space before each (`line_parts`); the line of a code is that of
-- its row, and none where the row has no entry (`row_some`, `row_none`); the rate stands where there are cards (`rate_some`, `rate_none`). `rows_turn`
-- is a turn of a loop over the codes. All of it is less than 32 bits count (`text_few`). A text at the front of an output is the
-- report that the model says (`report_written`). Assumes nothing.
use lib.Dec.{ltb, eqb}
use Prim.Native.Nat.{ℕ, zero, suc, ◌^◌, ◌+◌, ◌-◌, ◌*◌, ◌/◌, ◌%◌, ◌≤◌, ◌<◌}
use mathlib.Core.Path.{◌≡◌, refl, sym, ap, ◌∙◌}
use mathlib.Core.List.{List, [], ◌∷◌, ◌++◌, append_assoc}
use native.Mathlib.Omega.{arith}
use lib.ListN.{length, drop, length-append}
use lib.Seq.{sets-eq}
use borrow.Author.Tests.{eq-eqb, ne_eqb, le-ltb}
use Rattle.model.specs.Lists.{total}
use Rattle.model.specs.Serial.{most_code}
use Rattle.model.specs.Text.{lf, space, digits, decimal}
use Rattle.model.specs.Report.{numbers_line, rate_line, total_lines}
use Rattle.text.specs.Decimals.{Puts, marked}
use Rattle.rules.proofs.Tests.{by_cases}
use Rattle.report.specs.declared.rows.Row.{Row}
use Rattle.report.specs.Rows.{row_of}
use Rattle.store.specs.Leaves.{wrote_of}
use Rattle.std.proofs.Common.{Ok}
use Rattle.report.specs.Texts.{row_line, row_lines, text_of, PutsReport}
use Rattle.report.specs.declared.totals.Totals.{Totals}

-- a line is its first number, the others with a space before each, and LF

unfoldable pub marks : List ℕ → List ℕ
marks [] = []
marks (n ∷ ns) = marked space n ++ marks ns

pub line_parts : (a : ℕ) (ns : List ℕ) → numbers_line (a ∷ ns) ≡ decimal a ++ (marks ns ++ (lf ∷ []))
unfolding numbers_line marks marked
line_parts a [] = refl
line_parts a (b ∷ ns) =
    ap (λ (l : List ℕ). decimal a ++ (space ∷ l)) (line_parts b ns)
    ∙ ap (λ (l : List ℕ). decimal a ++ l) (sym (append_assoc (space ∷ decimal b) (marks ns) (lf ∷ [])))

-- the line of a code

pub row_none : (k : ℕ) (r : Row) → r.entries ≡ 0 → row_line k r ≡ []
unfolding row_line
row_none k r z = rw (eq-eqb r.entries 0 z)

pub row_some : (k : ℕ) (r : Row) → (r.entries ≡ 0 → ⊥) → row_line k r ≡ numbers_line (k ∷ r.entries ∷ r.cards ∷ r.earliest ∷ r.latest ∷ [])
unfolding row_line
row_some k r n = rw (ne_eqb r.entries 0 n)

-- the lines of the codes from k to the highest

pub rows_turn : (rows : List Row) (k most : ℕ) → k ≤ most
    → row_lines rows k (most + 1 - k) ≡ row_line k (row_of rows k) ++ row_lines rows (k + 1) (most + 1 - (k + 1))
unfolding row_lines
rows_turn rows k most h =
    let e : most + 1 - k ≡ suc (most + 1 - (k + 1)) = omega arith in
    let s : k + 1 ≡ suc k = omega arith in
    rw (e, s)

pub rows_done : (rows : List Row) (k most : ℕ) → most < k → row_lines rows k (most + 1 - k) ≡ []
unfolding row_lines
rows_done rows k most h = let e : most + 1 - k ≡ 0 = omega arith in rw e

-- the rate

pub rate_none : (cards entries : ℕ) → cards ≡ 0 → rate_line cards entries ≡ []
unfolding rate_line
rate_none cards entries z = rw (eq-eqb cards 0 z)

pub rate_some : (cards entries : ℕ) → (cards ≡ 0 → ⊥) → rate_line cards entries ≡ numbers_line (1000 * entries / cards ∷ 1000 * entries % cards ∷ [])
unfolding rate_line
rate_some cards entries n = rw (ne_eqb cards 0 n)

-- the whole text is not long: a number has twenty digits at most, whatever it is

digits_few : (fuel n : ℕ) (acc : List ℕ) → length (digits fuel n acc) ≤ fuel + length acc
unfolding digits
digits_few zero n acc = omega arith
digits_few (suc fuel) n acc =
    by_cases (ltb n 10)
    (λ t. rw t (omega arith))
    (λ t. rw t (omega (arith, digits_few fuel (n / 10) ((48 + n % 10) ∷ acc))))

decimal_few : (n : ℕ) → length (decimal n) ≤ 20
unfolding decimal
decimal_few n = digits_few 20 n []

-- a line is as long as its numbers, with a byte behind each
pub line_long : (a : ℕ) (ns : List ℕ) → length (numbers_line (a ∷ ns)) ≡ total (λ n. length (decimal n) + 1) (a ∷ ns)
unfolding numbers_line
line_long a [] = omega (arith, length-append (decimal a) (lf ∷ []))
line_long a (b ∷ ns) = omega (arith, line_long b ns, length-append (decimal a) (space ∷ numbers_line (b ∷ ns)))

row_few : (k : ℕ) (r : Row) → length (row_line k r) ≤ 105
unfolding row_line
row_few k r =
    by_cases (eqb r.entries 0)
    (λ t. rw t (omega arith))
    (λ t. rw t (omega (
      arith,
      line_long k (r.entries ∷ r.cards ∷ r.earliest ∷ r.latest ∷ []),
      decimal_few k,
      decimal_few r.entries,
      decimal_few r.cards,
      decimal_few r.earliest,
      decimal_few r.latest,
    )))

rows_few : (rows : List Row) (k n : ℕ) → length (row_lines rows k n) ≤ 105 * n
unfolding row_lines
rows_few rows k zero = omega arith
rows_few rows k (suc n) =
    omega (arith, length-append (row_line k (row_of rows k)) (row_lines rows (suc k) n), row_few k (row_of rows k), rows_few rows (suc k) n)

rate_few : (cards entries : ℕ) → length (rate_line cards entries) ≤ 42
unfolding rate_line
rate_few cards entries =
    let all = 1000 * entries in
    by_cases (eqb cards 0)
    (λ t. rw t (omega arith))
    (λ t. rw t (omega (arith, line_long (all / cards) (all % cards ∷ []), decimal_few (all / cards), decimal_few (all % cards))))

pub text_few : (rows : List Row) (t : Totals) → length (text_of rows t) < 2 ^ 32
unfolding text_of total_lines
text_few rows t =
    let rate = rate_line t.cards t.entries in
    omega (
      arith,
      length-append (row_lines rows 1 most_code) (numbers_line (t.cards ∷ []) ++ (numbers_line (t.entries ∷ []) ++ rate)),
      length-append (numbers_line (t.cards ∷ [])) (numbers_line (t.entries ∷ []) ++ rate),
      length-append (numbers_line (t.entries ∷ [])) rate,
      rows_few rows 1 most_code,
      line_long t.cards [],
      line_long t.entries [],
      decimal_few t.cards,
      decimal_few t.entries,
      rate_few t.cards t.entries,
    )

-- the report that it is

pub report_written : (text out : List ℕ) {left : List ℕ} {end : ℕ} → length text ≤ length out → Puts out 0 text end left
    → PutsReport text out (wrote_of (Ok end)) left
report_written text out {left} h p =
    let e : 0 + length text ≡ length text = omega arith in
    let front : left ≡ text ++ drop (length text) out = p.out_is ∙ sets-eq text out 0 (omega arith) ∙ ap (λ (n : ℕ). text ++ drop n out) e in
    rw (le-ltb (length out) (length text) h) (record { answer = record { number_is = refl; count_is = p.end_is ∙ e }; out_is = front; scratch_is = refl })
