-- The report by its tests, in the model's order: each way out gives what the model's report gives.
use mathlib.Core.Path.{◌≡◌, refl, ap}
use mathlib.Core.Bool.{Bool, true, false}
use mathlib.Core.List.{List}
use Prim.Native.Nat.{ℕ, ◌≤◌, ◌<◌}
use native.Mathlib.Omega.{arith}
use borrow.Author.Tests.{lt-ltb, le-ltb}
use lib.Dec.{ltb}
use lib.ListN.{length}
use Rattle.rules.proofs.Tests.{by_cases}
use Rattle.model.specs.Lists.{between}
use Rattle.model.specs.Calls.{cleaned}
use Rattle.model.specs.Report.{most_stores, pieces, run_sound, need_of, all_histories, report_text, written_report, report_call}
use Rattle.checker.proofs.MarkLaws.{rest_cleaned, length_cleaned, cleaned_again}
use Rattle.std.proofs.Common.{Err, Some}
use Rattle.std.proofs.lemmas.Bool.Decides.{nat_tests}
use Rattle.std.specs.declared.ops.RangeInclusive.{RangeInclusive}
use Rattle.std.specs.Range.{range_inclusive_start, range_inclusive_end, range_inclusive_exhausted, range_inclusive_contains}
use Rattle.std.specs.Ordering.{nat_cmp}
use Rattle.store.specs.Leaves.{wrote_of}
use Rattle.store.specs.declared.answer.Wrote.{Wrote}
use Rattle.store.specs.declared.numbers.Refusal.TheVariants.{NotSound, ShortScratch, BadStores}
use Rattle.report.specs.Runs.{Clean}
use Rattle.report.specs.Reports.{Reports}
use Rattle.report.specs.Texts.{PutsReport}

-- a scratch that was cleaned is clean
pub cleaned_clean : (n : ℕ) (scratch : List ℕ) {left : List ℕ} → n ≤ length scratch → left ≡ cleaned n scratch → Clean n left
cleaned_clean n scratch h e =
    record {
      long = omega (arith, ap length e, length_cleaned n scratch h);
      zero = rw e (cleaned_again n scratch refl (cleaned n scratch) (rest_cleaned n scratch));
    }

-- what is written has no part in the scratch
with_scratch : (text out : List ℕ) {scratch left : List ℕ} {r : Wrote} {out' : List ℕ} → PutsReport text out r out' → left ≡ scratch → Reports (written_report text out scratch) r out' left
with_scratch text out {scratch} {left} {r} {out'} p c =
    by_cases (ltb (length out) (length text))
    (λ e. let q = rw e at p in rw e (record { answer = q.answer; out_is = q.out_is; scratch_is = c }))
    (λ e. let q = rw e at p in rw e (record { answer = q.answer; out_is = q.out_is; scratch_is = c }))

-- the range of the code tells a count of 1 to 8 as the model does
pub counted : (n : ℕ) {r : RangeInclusive ℕ} {b : Bool} → b ≡ range_inclusive_contains (λ (x y : ℕ). Some (nat_cmp x y)) r n → range_inclusive_start r ≡ 1
    → range_inclusive_end r ≡ most_stores → range_inclusive_exhausted r ≡ false → b ≡ between 1 most_stores n
unfolding between
counted n {r} {b} e lo hi open_ = rw (e, lo, hi, open_) (grind (arith, nat_tests))

module _ (run ns scratch out : List ℕ) where
  pub report_short : length scratch < need_of run ns → Reports (report_call run ns scratch out) (wrote_of (Err ShortScratch)) out scratch
  unfolding report_call
  report_short h = rw (lt-ltb (length scratch) (need_of run ns) h) (record { answer = record { number_is = refl; count_is = refl }; out_is = refl; scratch_is = refl })

  module _ (enough : need_of run ns ≤ length scratch) {left : List ℕ} (clean : left ≡ cleaned (need_of run ns) scratch) where
    pub report_stores : between 1 most_stores (length ns) ≡ false → Reports (report_call run ns scratch out) (wrote_of (Err BadStores)) out left
    unfolding report_call
    report_stores h =
        rw (le-ltb (length scratch) (need_of run ns) enough, h) (record { answer = record { number_is = refl; count_is = refl }; out_is = refl; scratch_is = clean })

    module _ (some : between 1 most_stores (length ns) ≡ true) where
      pub report_unsound : run_sound run ns ≡ false → Reports (report_call run ns scratch out) (wrote_of (Err NotSound)) out left
      unfolding report_call
      report_unsound s =
          rw (le-ltb (length scratch) (need_of run ns) enough, some, s) (record { answer = record { number_is = refl; count_is = refl }; out_is = refl; scratch_is = clean })

      pub report_text_lem : {r : Wrote} {out' : List ℕ} → run_sound run ns ≡ true → PutsReport (report_text (all_histories (pieces run ns))) out r out' → Reports (report_call run ns scratch out) r out' left
      unfolding report_call
      report_text_lem s p =
          rw (le-ltb (length scratch) (need_of run ns) enough, some, s) (with_scratch (report_text (all_histories (pieces run ns))) out p clean)
