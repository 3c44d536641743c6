-- The four steps by number, each with its exact condition, for a good store: whatever holds of each answer under its condition holds
-- of the step (`X-cases`). The tests of the definitions become facts on the way: a serial is held once or not at all, so what is not
-- held is `[]`, and no more is held than there are cells, so what is not full has room.
use Prim.Native.Nat.{ℕ, ◌+◌, ◌*◌, ◌≤◌, ◌<◌}
use mathlib.Core.Path.{◌≡◌}
use mathlib.Core.List.{List, []}
use mathlib.Core.Bool.{true, false}
use native.Mathlib.Omega.{arith}
use lib.Dec.{ltb, eqb}
use lib.ListN.{length, take}
use borrow.Author.Tests.{eqb-true, eqb-false, ltb-true, ltb-false}
use Rattle.rules.proofs.Tests.{by_cases}
use Rattle.model.specs.Serial.{valid_serial, valid_fault}
use Rattle.model.specs.Model.{Store, held, faults_held, chain_for, comparisons, placed, removed, split_scan, contract_scan, entered, filed, history_in, withdrawn}
use Rattle.model.specs.Calls.{Step, gives, refused, stays, written, enter_step, file_step, show_step, withdraw_step}
use Rattle.model.proofs.Lists.{length_none}
use Rattle.model.proofs.Fair.{Good, card_count, fault_count}
use Rattle.model.proofs.Look.{look, look_once}

-- no more cards or faults are held than there are cells
pub cards_fit : (s : Store) → Good s → held s ≤ s.shape.limit
cards_fit s g = omega (arith, card_count s, g.fair.cells.count)

pub faults_fit : (s : Store) → Good s → faults_held s ≤ s.shape.fault_limit
faults_fit s g = omega (arith, fault_count s, g.fair.fault_cells.count)

-- what the search answers: the comparisons in the chain of a serial
abbrev pub place : Store → List ℕ → ℕ
place s y = comparisons y (chain_for s y)

-- held once or not at all, by the tests of the length
module _ (s : Store) (g : Good s) (y : List ℕ) where
  none : eqb (length (look s y)) 0 ≡ true → look s y ≡ []
  none e = length_none (look s y) (eqb-true (length (look s y)) 0 e)

  not_one : eqb (length (look s y)) 1 ≡ false → look s y ≡ []
  not_one e = length_none (look s y) (omega (arith, eqb-false (length (look s y)) 1 e, look_once s g.fair y))

  not_none : eqb (length (look s y)) 0 ≡ false → length (look s y) ≡ 1
  not_none e = omega (arith, eqb-false (length (look s y)) 0 e, look_once s g.fair y)

module _ (s : Store) (g : Good s) (bytes : List ℕ) (n : ℕ) (P : Step → Type 0) where
  pub enter_cases :
      (valid_serial bytes n ≡ false → P (stays (refused 4) s []))
      → (valid_serial bytes n ≡ true → length (look s (take n bytes)) ≡ 1 → P (stays (gives 6 (place s (take n bytes)) 0 0) s []))
      → (valid_serial bytes n ≡ true → look s (take n bytes) ≡ [] → held s ≡ s.shape.limit → P (stays (gives 8 (place s (take n bytes)) 0 0) s []))
      → (valid_serial bytes n ≡ true → look s (take n bytes) ≡ [] → held s < s.shape.limit
      → P (stays (gives 0 (place s (take n bytes)) (split_scan (placed s (take n bytes))) 0) (entered s (take n bytes)) []))
      → P (enter_step s bytes n)
  unfolding enter_step
  enter_cases invalid twice full done =
      let y = take n bytes in
      by_cases (valid_serial bytes n)
      (λ v. rw v (by_cases (eqb (length (look s y)) 1)
      (λ e. rw e (twice v (eqb-true (length (look s y)) 1 e)))
      (λ e. rw e (by_cases (eqb (held s) s.shape.limit)
      (λ f. rw f (full v (not_one s g y e) (eqb-true (held s) s.shape.limit f)))
      (λ f. rw f (done v (not_one s g y e) (omega (arith, eqb-false (held s) s.shape.limit f, cards_fit s g))))))))
      (λ v. rw v (invalid v))

  pub file_cases : (day code : ℕ)
      → (valid_serial bytes n ≡ false → P (stays (refused 4) s []))
      → (valid_serial bytes n ≡ true → valid_fault day code ≡ false → P (stays (refused 5) s []))
      → (valid_serial bytes n ≡ true → valid_fault day code ≡ true → look s (take n bytes) ≡ [] → P (stays (gives 7 (place s (take n bytes)) 0 0) s []))
      → (valid_serial bytes n ≡ true → valid_fault day code ≡ true → length (look s (take n bytes)) ≡ 1 → faults_held s ≡ s.shape.fault_limit
      → P (stays (gives 9 (place s (take n bytes)) 0 0) s []))
      → (valid_serial bytes n ≡ true → valid_fault day code ≡ true → length (look s (take n bytes)) ≡ 1 → faults_held s < s.shape.fault_limit
      → P (stays (gives 0 (place s (take n bytes)) 0 (length (history_in s (take n bytes)) + 1)) (filed s (take n bytes) day code) []))
      → P (file_step s bytes n day code)
  unfolding file_step
  file_cases day code invalid bad missing full done =
      let y = take n bytes in
      by_cases (valid_serial bytes n)
      (λ v. rw v (by_cases (valid_fault day code)
      (λ w. rw w (by_cases (eqb (length (look s y)) 0)
      (λ e. rw e (missing v w (none s g y e)))
      (λ e. rw e (by_cases (eqb (faults_held s) s.shape.fault_limit)
      (λ f. rw f (full v w (not_none s g y e) (eqb-true (faults_held s) s.shape.fault_limit f)))
      (λ f. rw f (done v w (not_none s g y e) (omega (arith, eqb-false (faults_held s) s.shape.fault_limit f, faults_fit s g))))))))
      (λ w. rw w (bad v w))))
      (λ v. rw v (invalid v))

  pub show_cases : (room : List ℕ)
      → (valid_serial bytes n ≡ false → P (stays (refused 4) s room))
      → (valid_serial bytes n ≡ true → look s (take n bytes) ≡ [] → P (stays (gives 7 (place s (take n bytes)) 0 0) s room))
      → (valid_serial bytes n ≡ true → length (look s (take n bytes)) ≡ 1 → length room < 2 * length (history_in s (take n bytes))
      → P (stays (gives 10 (place s (take n bytes)) 0 (length (history_in s (take n bytes)))) s room))
      → (valid_serial bytes n ≡ true → length (look s (take n bytes)) ≡ 1 → 2 * length (history_in s (take n bytes)) ≤ length room
      → P (stays (gives 0 (place s (take n bytes)) 0 (length (history_in s (take n bytes)))) s (written (history_in s (take n bytes)) room)))
      → P (show_step s bytes n room)
  unfolding show_step
  show_cases room invalid missing small done =
      let y = take n bytes in
      by_cases (valid_serial bytes n)
      (λ v. rw v (by_cases (eqb (length (look s y)) 0)
      (λ e. rw e (missing v (none s g y e)))
      (λ e. rw e (by_cases (ltb (length room) (2 * length (history_in s y)))
      (λ f. rw f (small v (not_none s g y e) (ltb-true (length room) (2 * length (history_in s y)) f)))
      (λ f. rw f (done v (not_none s g y e) (ltb-false (length room) (2 * length (history_in s y)) f)))))))
      (λ v. rw v (invalid v))

  pub withdraw_cases : (room : List ℕ)
      → (valid_serial bytes n ≡ false → P (stays (refused 4) s room))
      → (valid_serial bytes n ≡ true → look s (take n bytes) ≡ [] → P (stays (gives 7 (place s (take n bytes)) 0 0) s room))
      → (valid_serial bytes n ≡ true → length (look s (take n bytes)) ≡ 1 → length room < 2 * length (history_in s (take n bytes))
      → P (stays (gives 10 (place s (take n bytes)) 0 (length (history_in s (take n bytes)))) s room))
      → (valid_serial bytes n ≡ true → length (look s (take n bytes)) ≡ 1 → 2 * length (history_in s (take n bytes)) ≤ length room
      → P (stays (gives 0 (place s (take n bytes)) (contract_scan (removed s (take n bytes))) (length (history_in s (take n bytes))))
      (withdrawn s (take n bytes)) (written (history_in s (take n bytes)) room)))
      → P (withdraw_step s bytes n room)
  unfolding withdraw_step
  withdraw_cases room invalid missing small done =
      let y = take n bytes in
      by_cases (valid_serial bytes n)
      (λ v. rw v (by_cases (eqb (length (look s y)) 0)
      (λ e. rw e (missing v (none s g y e)))
      (λ e. rw e (by_cases (ltb (length room) (2 * length (history_in s y)))
      (λ f. rw f (small v (not_none s g y e) (ltb-true (length room) (2 * length (history_in s y)) f)))
      (λ f. rw f (done v (not_none s g y e) (ltb-false (length room) (2 * length (history_in s y)) f)))))))
      (λ v. rw v (invalid v))
