-- How long a report can be. Every number in the report of a sound run has ten digits at most, since entries, cards and days are 32-bit numbers; so the line of a code
-- takes 55 bytes at most, and the totals 44 (`report_few`): 549,989 bytes are always enough (`report_most`). Assumes nothing.
use Prim.Native.Nat.{ℕ, zero, suc, ◌+◌, ◌*◌, ◌/◌, ◌%◌, ◌^◌, ◌≤◌, ◌<◌}
use mathlib.Core.Path.{◌≡◌}
use mathlib.Core.List.{List, [], ◌∷◌, ◌++◌, map}
use mathlib.Core.Bool.{true}
use native.Mathlib.Nat.{pow-succ', div-le_self, mod-le}
use native.Mathlib.Omega.{arith}
use lib.Dec.{ltb, eqb}
use lib.ListN.{length, length-append}
use borrow.Author.Tests.{ltb-false}
use Rattle.rules.proofs.Tests.{by_cases}
use Rattle.model.specs.Lists.{keep, join, from, total}
use Rattle.model.specs.Serial.{most_code}
use Rattle.model.specs.Plain.{Slip}
use Rattle.model.specs.Meaning.{In}
use Rattle.model.specs.Text.{digits, decimal}
use Rattle.model.specs.Report.{most_stores, pieces, run_sound, all_histories, of_code, entries_of, cards_with, days_of, earliest, latest, codes_in, numbers_line, code_line, rate_line, total_lines, report_text}
use Rattle.model.proofs.Lists.{Every, every_keep, every_imp, map_every}
use Rattle.model.proofs.Sums.{length_total, total_keep}
use Rattle.model.proofs.Walks.{all_every, every_in, in_every}
use Rattle.model.proofs.ReportLaws.{join_long}
use Rattle.model.proofs.Reports.{ValidSlip, ValidFaults, line_says, codes_occur, stores_faults}
use Rattle.report.specs.Texts.{longest_row, longest_totals}
use Rattle.report.proofs.TextLaws.{line_long}
use Rattle.report.proofs.RunLaws.{stores_sound, bounded}

-- a number of 32 bits has ten digits at most

digits_less : (k fuel n : ℕ) (acc : List ℕ) → n < 10 ^ suc k → length (digits fuel n acc) ≤ suc k + length acc
unfolding digits
digits_less k zero n acc h = omega arith
digits_less zero (suc fuel) n acc h =
    by_cases (ltb n 10) (λ t. rw t (omega arith)) (λ t. absurd (omega (arith, ltb-false n 10 t)))
digits_less (suc k) (suc fuel) n acc h =
    by_cases (ltb n 10)
    (λ t. rw t (omega arith))
    (λ t. rw t (omega (arith, digits_less k fuel (n / 10) ((48 + n % 10) ∷ acc) (omega (arith, pow-succ' 10 (suc k))))))

ten_digits : (n : ℕ) → n < 2 ^ 32 → length (decimal n) ≤ 10
unfolding decimal
ten_digits n h = digits_less 9 20 n [] (omega arith)

-- lines of codes

lines_few : (f : ℕ → List ℕ) (ks : List ℕ) → Every (λ k. length (f k) ≤ longest_row) ks → length (join (map f ks)) ≤ longest_row * length ks
lines_few f [] e = omega arith
lines_few f (k ∷ ks) e = omega (arith, e.0, lines_few f ks e.1, length-append (f k) (join (map f ks)))

from_long : (k n : ℕ) → length (from k n) ≡ n
from_long k zero = omega arith
from_long k (suc n) = omega (arith, from_long (suc k) n)

module _ (hs : List (List Slip)) (ok : ValidFaults hs) (few : length hs < 2 ^ 32) (rated : 1000 * total length hs < 2 ^ 32) where
  entries_few : (k : ℕ) → entries_of k hs ≤ total length hs
  unfolding entries_of
  entries_few k =
      let kept = of_code k (join hs) in
      omega (arith, join_long hs, length_total kept, length_total (join hs), total_keep (λ x. 1) (λ (f : Slip). eqb f.code k) (join hs))

  days_few : (k : ℕ) → Every (λ d. d < 2 ^ 32) (days_of k hs)
  days_few k =
      map_every (λ d. d < 2 ^ 32) (λ (f : Slip). f.day) (of_code k (join hs))
      (every_keep (λ f. f.day < 2 ^ 32) (λ f. eqb f.code k) (join hs) (every_imp ValidSlip (λ f. f.day < 2 ^ 32) (join hs) (λ f v. omega (arith, v.last_day)) ok))

  code_few : (k : ℕ) → In k (codes_in hs) → length (code_line hs k) ≤ longest_row
  unfolding code_line
  code_few k i =
      let o = codes_occur hs k i in
      let s = line_says k hs o.0 in
      let day = every_in (λ d. d < 2 ^ 32) (days_of k hs) (days_few k) in
      let e = entries_few k in
      omega (
        arith,
        line_long k (entries_of k hs ∷ cards_with k hs ∷ earliest k hs ∷ latest k hs ∷ []),
        ten_digits k (omega (arith, o.2)),
        ten_digits (entries_of k hs) (omega (arith, e, rated)),
        ten_digits (cards_with k hs) (omega (arith, e, rated, s.few)),
        ten_digits (earliest k hs) (day (earliest k hs) s.first_day),
        ten_digits (latest k hs) (day (latest k hs) s.last_day),
      )

  totals_few : length (total_lines (length hs) (total length hs)) ≤ longest_totals
  unfolding total_lines rate_line
  totals_few =
      let cards = length hs in
      let entries = total length hs in
      let all = 1000 * entries in
      let one = ten_digits cards few in
      let two = ten_digits entries (omega (arith, rated)) in
      by_cases (eqb cards 0)
      (λ t. rw t (omega (arith, length-append (numbers_line (cards ∷ [])) (numbers_line (entries ∷ []) ++ []), length-append (numbers_line (entries ∷ [])) [], line_long cards [], line_long entries [], one, two)))
      (λ t. let rate = numbers_line (all / cards ∷ all % cards ∷ []) in
      rw t (omega (
        arith,
        length-append (numbers_line (cards ∷ [])) (numbers_line (entries ∷ []) ++ rate),
        length-append (numbers_line (entries ∷ [])) rate,
        line_long cards [],
        line_long entries [],
        line_long (all / cards) (all % cards ∷ []),
        one,
        two,
        ten_digits (all / cards) (omega (arith, rated, div-le_self all cards)),
        ten_digits (all % cards) (omega (arith, rated, mod-le all cards)),
      )))

  text_few : length (report_text hs) ≤ longest_row * length (codes_in hs) + longest_totals
  unfolding report_text
  text_few =
      omega (
        arith,
        length-append (join (map (code_line hs) (codes_in hs))) (total_lines (length hs) (total length hs)),
        lines_few (code_line hs) (codes_in hs) (in_every (λ k. length (code_line hs k) ≤ longest_row) (codes_in hs) code_few),
        totals_few,
      )

codes_few : (hs : List (List Slip)) → length (codes_in hs) ≤ most_code
unfolding codes_in
codes_few hs =
    let all = from 1 most_code in
    let occurs = λ (k : ℕ). ltb 0 (entries_of k hs) in
    omega (arith, length_total (keep occurs all), length_total all, total_keep (λ x. 1) occurs all, from_long 1 most_code)

-- the text over a sound run of eight stores at most
module _ (run ns : List ℕ) (ok : run_sound run ns ≡ true) (l : length ns ≤ most_stores) where
  pub report_few : length (report_text (all_histories (pieces run ns))) ≤ longest_row * length (codes_in (all_histories (pieces run ns))) + longest_totals
  report_few =
      let b = bounded run ns ok l in
      text_few (all_histories (pieces run ns)) (stores_faults (pieces run ns) (all_every _ (pieces run ns) (stores_sound run ns ok))) (omega (arith, b.cards)) (omega (arith, b.entries))

  pub report_most : length (report_text (all_histories (pieces run ns))) ≤ 549989
  report_most = omega (arith, report_few, codes_few (all_histories (pieces run ns)))
