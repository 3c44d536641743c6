-- The report read back. Its text is the numbers that it has to say, in decimal, one space between those of a line and an LF behind each line, and nothing else
-- (`report_lines`). No LF and no space stands among digits, so the lines and their fields are these, and a number below 10 ^ 20 is read as it was written. The
-- numbers of a report over valid faults are: its bytes, read as lines of numbers, say what the rules ask for (`report_read`).
use Prim.Native.Nat.{ℕ, ◌*◌, ◌/◌, ◌%◌, ◌^◌, ◌≤◌, ◌<◌}
use mathlib.Core.Path.{◌≡◌, refl, sym, ap, ◌∙◌}
use mathlib.Core.List.{List, [], ◌∷◌, ◌++◌, map, append-nil, append_assoc}
use mathlib.Core.Bool.{cond}
use native.Mathlib.Nat.{div-le_self, mod-le}
use native.Mathlib.Omega.{arith}
use lib.Dec.{eqb}
use lib.ListN.{length, length-map}
use Rattle.rules.proofs.Tests.{by_cases}
use Rattle.model.specs.Lists.{join, total}
use Rattle.model.specs.Plain.{Slip}
use Rattle.model.specs.Meaning.{In}
use Rattle.model.specs.Text.{fields, drop_empty_last, lines_of, value_from, decimal}
use Rattle.model.specs.Report.{of_code, entries_of, cards_with, days_of, earliest, latest, codes_in, numbers_line, code_line, rate_line, total_lines, report_text}
use Rattle.model.specs.ReportSays.{numbers_of, code_says, totals_say, report_says}
use Rattle.model.proofs.Lists.{Every, every_append, every_keep, every_imp, map_every}
use Rattle.model.proofs.Sums.{length_total, total_keep}
use Rattle.model.proofs.Walks.{every_in, in_every}
use Rattle.model.proofs.Fields.{Without, glued, fields_mean, ended}
use Rattle.model.proofs.Decimals.{Digit, decimal_back, decimal_without}
use Rattle.model.proofs.Heard.{glued_without, first_line}
use Rattle.model.proofs.ReportLaws.{join_long}
use Rattle.model.proofs.Reports.{ValidSlip, ValidFaults, line_says, codes_occur}

-- what is written

-- numbers in decimal, a space between each two
abbrev pub spaced : List ℕ → List ℕ
spaced ns = glued 32 (map decimal ns)

line_is : (n : ℕ) (ns text : List ℕ) → numbers_line (n ∷ ns) ++ text ≡ spaced (n ∷ ns) ++ (10 ∷ text)
unfolding numbers_line
line_is n [] text = append_assoc (decimal n) (10 ∷ []) text
line_is n (m ∷ ns) text =
    append_assoc (decimal n) (32 ∷ numbers_line (m ∷ ns)) text
    ∙ ap (λ (l : List ℕ). decimal n ++ (32 ∷ l)) (line_is m ns text)
    ∙ sym (append_assoc (decimal n) (32 ∷ spaced (m ∷ ns)) (10 ∷ text))

rate_lines : (cards entries : ℕ) → rate_line cards entries ≡ ended (map spaced (cond (eqb cards 0) [] ((1000 * entries / cards ∷ 1000 * entries % cards ∷ []) ∷ [])))
unfolding rate_line
rate_lines cards entries =
    let line = numbers_line (1000 * entries / cards ∷ 1000 * entries % cards ∷ []) in
    by_cases (eqb cards 0) (λ e. rw e) (λ e. rw e (sym (append-nil line) ∙ line_is (1000 * entries / cards) (1000 * entries % cards ∷ []) []))

total_lines_lem : (cards entries : ℕ) → total_lines cards entries ≡ ended (map spaced (totals_say cards entries))
unfolding total_lines
total_lines_lem cards entries =
    line_is cards [] (numbers_line (entries ∷ []) ++ rate_line cards entries)
    ∙ ap (λ (t : List ℕ). decimal cards ++ (10 ∷ t)) (line_is entries [] (rate_line cards entries))
    ∙ ap (λ (t : List ℕ). decimal cards ++ (10 ∷ (decimal entries ++ (10 ∷ t)))) (rate_lines cards entries)

code_lines : (hs : List (List Slip)) (ks : List ℕ) (ls : List (List ℕ))
    → join (map (code_line hs) ks) ++ ended (map spaced ls) ≡ ended (map spaced (map (code_says hs) ks ++ ls))
unfolding code_line
code_lines hs [] ls = refl
code_lines hs (k ∷ ks) ls =
    let more = join (map (code_line hs) ks) in
    append_assoc (code_line hs k) more (ended (map spaced ls))
    ∙ line_is k (entries_of k hs ∷ cards_with k hs ∷ earliest k hs ∷ latest k hs ∷ []) (more ++ ended (map spaced ls))
    ∙ ap (λ (t : List ℕ). spaced (code_says hs k) ++ (10 ∷ t)) (code_lines hs ks ls)

pub report_lines : (hs : List (List Slip)) → report_text hs ≡ ended (map spaced (report_says hs))
unfolding report_text
report_lines hs =
    ap (λ (t : List ℕ). join (map (code_line hs) (codes_in hs)) ++ t) (total_lines_lem (length hs) (total length hs))
    ∙ code_lines hs (codes_in hs) (totals_say (length hs) (total length hs))

-- what is read

-- a number that decimal writes whole, and a line of them
abbrev Fits : ℕ → Type 0
Fits n = n < 10 ^ 20

abbrev Readable : List ℕ → Type 0
Readable ns = (1 ≤ length ns) × Every Fits ns

decimals_without : (b : ℕ) → (Digit b → ⊥) → (ns : List ℕ) → Every (Without b) (map decimal ns)
decimals_without b d [] = tt
decimals_without b d (n ∷ ns) = (decimal_without n b d, decimals_without b d ns)

decimals_back : (ns : List ℕ) → Every Fits ns → map (value_from 0) (map decimal ns) ≡ ns
decimals_back [] r = refl
decimals_back (n ∷ ns) r = rw (decimal_back n r.0, decimals_back ns r.1)

line_back : (ns : List ℕ) → Readable ns → map (value_from 0) (fields 32 (spaced ns)) ≡ ns
line_back ns r =
    ap (map (value_from 0))
    ((fields_mean 32 (spaced ns) (map decimal ns)).1
    (record { some = omega (arith, r.0, length-map ns decimal); whole = decimals_without 32 (omega arith) ns; text_is = refl }))
    ∙ decimals_back ns r.1

lines_back : (ls : List (List ℕ)) → Every Readable ls → numbers_of (ended (map spaced ls)) ≡ ls
unfolding numbers_of lines_of fields drop_empty_last
lines_back [] r = refl
lines_back (ns ∷ ls) r =
    ap (map (λ y. map (value_from 0) (fields 32 y)))
    (first_line (spaced ns) (ended (map spaced ls)) (glued_without 10 32 (omega arith) (map decimal ns) (decimals_without 10 (omega arith) ns)))
    ∙ (λ i. line_back ns r.0 i ∷ lines_back ls r.1 i)

-- over valid faults, with no more cards and faults than decimal can tell
module _ (hs : List (List Slip)) (ok : ValidFaults hs) (few : length hs < 10 ^ 20) (rated : 1000 * total length hs < 10 ^ 20) where
  entries_few : (k : ℕ) → entries_of k hs ≤ total length hs
  unfolding entries_of
  entries_few k =
      let kept = of_code k (join hs) in
      omega (arith, join_long hs, length_total kept, length_total (join hs), total_keep (λ x. 1) (λ (f : Slip). eqb f.code k) (join hs))

  days_fit : (k : ℕ) → Every Fits (days_of k hs)
  days_fit k =
      map_every Fits (λ (f : Slip). f.day) (of_code k (join hs))
      (every_keep (λ f. Fits f.day) (λ f. eqb f.code k) (join hs) (every_imp ValidSlip (λ f. Fits f.day) (join hs) (λ f v. omega (arith, v.last_day)) ok))

  code_readable : (k : ℕ) → In k (codes_in hs) → Readable (code_says hs k)
  code_readable k i =
      let o = codes_occur hs k i in
      let s = line_says k hs o.0 in
      let day = every_in Fits (days_of k hs) (days_fit k) in
      let e = entries_few k in
      (omega arith, (omega (arith, o.2), (omega arith, (omega (arith, s.few), (day (earliest k hs) s.first_day, (day (latest k hs) s.last_day, tt))))))

  totals_readable : Every Readable (totals_say (length hs) (total length hs))
  totals_readable =
      let cards = length hs in
      let all = 1000 * total length hs in
      let rate : Every Readable (cond (eqb cards 0) [] ((all / cards ∷ all % cards ∷ []) ∷ [])) =
      by_cases (eqb cards 0)
      (λ e. rw e tt)
      (λ e. rw e ((omega arith, (omega (arith, div-le_self all cards), (omega (arith, mod-le all cards), tt))), tt)) in
      ((omega arith, (few, tt)), ((omega arith, (omega arith, tt)), rate))

  pub report_read : numbers_of (report_text hs) ≡ report_says hs
  report_read =
      ap numbers_of (report_lines hs)
      ∙ lines_back (report_says hs)
      (every_append Readable (map (code_says hs) (codes_in hs)) (totals_say (length hs) (total length hs)) (map_every Readable (code_says hs) (codes_in hs) (in_every (λ k. Readable (code_says hs k)) (codes_in hs) code_readable))
      totals_readable)
