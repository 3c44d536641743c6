-- The table of numbers for a good store: each number is given exactly when its condition holds. The conditions shut one another out, so
-- each line of `X-cases` gives both halves of one equivalence and refutes the others.
use Prim.Native.Nat.{ℕ, ◌*◌, ◌≤◌, ◌<◌}
use mathlib.Core.Path.{◌≡◌, refl, ap}
use mathlib.Core.Logic.{◌↔◌}
use mathlib.Core.List.{List, []}
use mathlib.Core.Bool.{true, false}
use native.Mathlib.Omega.{arith}
use lib.ListN.{length, take}
use Rattle.rules.proofs.Tests.{not_both}
use Rattle.model.specs.Serial.{valid_serial, valid_fault}
use Rattle.model.specs.Model.{Store, held, faults_held, history_in}
use Rattle.model.specs.Calls.{enter_step, file_step, show_step, withdraw_step}
use Rattle.model.specs.Runs.{Act, Act.enter, Act.file, Act.show, Act.withdraw, perform}
use Rattle.model.proofs.Fair.{Good}
use Rattle.model.proofs.Look.{look}
use Rattle.model.proofs.Cases.{enter_cases, file_cases, show_cases, withdraw_cases}

pub hit : {A B : Type 0} → A → B → A ↔ B
hit a b = (λ x. b, λ y. a)

pub miss : {A B : Type 0} → (A → ⊥) → (B → ⊥) → A ↔ B
miss f g = (λ x. absurd (f x), λ y. absurd (g y))

pub record EnterNumbers (s : Store) (bytes : List ℕ) (n k : ℕ) : Type 0 where
  pub invalid : (k ≡ 4) ↔ (valid_serial bytes n ≡ false)
  pub twice : (k ≡ 6) ↔ ((valid_serial bytes n ≡ true) × (length (look s (take n bytes)) ≡ 1))
  pub full : (k ≡ 8) ↔ ((valid_serial bytes n ≡ true) × (look s (take n bytes) ≡ []) × (held s ≡ s.shape.limit))
  pub done : (k ≡ 0) ↔ ((valid_serial bytes n ≡ true) × (look s (take n bytes) ≡ []) × (held s < s.shape.limit))

pub enter_numbers : (s : Store) → Good s → (bytes : List ℕ) (n : ℕ) → EnterNumbers s bytes n (enter_step s bytes n).answer.number
enter_numbers s g bytes n =
    enter_cases s g bytes n (λ r. EnterNumbers s bytes n r.answer.number)
    (λ v. record {
      invalid = hit refl v;
      twice = miss (omega arith) (λ c. not_both c.0 v);
      full = miss (omega arith) (λ c. not_both c.0 v);
      done = miss (omega arith) (λ c. not_both c.0 v);
    })
    (λ v l. record {
      invalid = miss (omega arith) (λ c. not_both v c);
      twice = hit refl (v, l);
      full = miss (omega arith) (λ c. omega (arith, ap length c.1));
      done = miss (omega arith) (λ c. omega (arith, ap length c.1));
    })
    (λ v l f. record {
      invalid = miss (omega arith) (λ c. not_both v c);
      twice = miss (omega arith) (λ c. omega (arith, ap length l));
      full = hit refl (v, l, f);
      done = miss (omega arith) (λ c. omega arith);
    })
    (λ v l f. record {
      invalid = miss (omega arith) (λ c. not_both v c);
      twice = miss (omega arith) (λ c. omega (arith, ap length l));
      full = miss (omega arith) (λ c. omega arith);
      done = hit refl (v, l, f);
    })

pub record FileNumbers (s : Store) (bytes : List ℕ) (n day code k : ℕ) : Type 0 where
  pub invalid : (k ≡ 4) ↔ (valid_serial bytes n ≡ false)
  pub bad : (k ≡ 5) ↔ ((valid_serial bytes n ≡ true) × (valid_fault day code ≡ false))
  pub missing : (k ≡ 7) ↔ ((valid_serial bytes n ≡ true) × (valid_fault day code ≡ true) × (look s (take n bytes) ≡ []))
  pub full : (k ≡ 9) ↔ ((valid_serial bytes n ≡ true) × (valid_fault day code ≡ true) × (length (look s (take n bytes)) ≡ 1) × (faults_held s ≡ s.shape.fault_limit))
  pub done : (k ≡ 0) ↔ ((valid_serial bytes n ≡ true) × (valid_fault day code ≡ true) × (length (look s (take n bytes)) ≡ 1) × (faults_held s < s.shape.fault_limit))

pub file_numbers : (s : Store) → Good s → (bytes : List ℕ) (n day code : ℕ) → FileNumbers s bytes n day code (file_step s bytes n day code).answer.number
file_numbers s g bytes n day code =
    file_cases s g bytes n (λ r. FileNumbers s bytes n day code r.answer.number) day code
    (λ v. record {
      invalid = hit refl v;
      bad = miss (omega arith) (λ c. not_both c.0 v);
      missing = miss (omega arith) (λ c. not_both c.0 v);
      full = miss (omega arith) (λ c. not_both c.0 v);
      done = miss (omega arith) (λ c. not_both c.0 v);
    })
    (λ v w. record {
      invalid = miss (omega arith) (λ c. not_both v c);
      bad = hit refl (v, w);
      missing = miss (omega arith) (λ c. not_both c.1 w);
      full = miss (omega arith) (λ c. not_both c.1 w);
      done = miss (omega arith) (λ c. not_both c.1 w);
    })
    (λ v w l. record {
      invalid = miss (omega arith) (λ c. not_both v c);
      bad = miss (omega arith) (λ c. not_both w c.1);
      missing = hit refl (v, w, l);
      full = miss (omega arith) (λ c. omega (arith, ap length l));
      done = miss (omega arith) (λ c. omega (arith, ap length l));
    })
    (λ v w l f. record {
      invalid = miss (omega arith) (λ c. not_both v c);
      bad = miss (omega arith) (λ c. not_both w c.1);
      missing = miss (omega arith) (λ c. omega (arith, ap length c.2));
      full = hit refl (v, w, l, f);
      done = miss (omega arith) (λ c. omega arith);
    })
    (λ v w l f. record {
      invalid = miss (omega arith) (λ c. not_both v c);
      bad = miss (omega arith) (λ c. not_both w c.1);
      missing = miss (omega arith) (λ c. omega (arith, ap length c.2));
      full = miss (omega arith) (λ c. omega arith);
      done = hit refl (v, w, l, f);
    })

-- Show and Withdraw have the same numbers
pub record PairsNumbers (s : Store) (bytes : List ℕ) (n : ℕ) (room : List ℕ) (k : ℕ) : Type 0 where
  pub invalid : (k ≡ 4) ↔ (valid_serial bytes n ≡ false)
  pub missing : (k ≡ 7) ↔ ((valid_serial bytes n ≡ true) × (look s (take n bytes) ≡ []))
  pub small : (k ≡ 10) ↔ ((valid_serial bytes n ≡ true) × (length (look s (take n bytes)) ≡ 1) × (length room < 2 * length (history_in s (take n bytes))))
  pub done : (k ≡ 0) ↔ ((valid_serial bytes n ≡ true) × (length (look s (take n bytes)) ≡ 1) × (2 * length (history_in s (take n bytes)) ≤ length room))

module _ (s : Store) (bytes : List ℕ) (n : ℕ) (room : List ℕ) where
  invalid : valid_serial bytes n ≡ false → PairsNumbers s bytes n room 4
  invalid v =
      record {
        invalid = hit refl v;
        missing = miss (omega arith) (λ c. not_both c.0 v);
        small = miss (omega arith) (λ c. not_both c.0 v);
        done = miss (omega arith) (λ c. not_both c.0 v);
      }

  missing : valid_serial bytes n ≡ true → look s (take n bytes) ≡ [] → PairsNumbers s bytes n room 7
  missing v l =
      record {
        invalid = miss (omega arith) (λ c. not_both v c);
        missing = hit refl (v, l);
        small = miss (omega arith) (λ c. omega (arith, ap length l));
        done = miss (omega arith) (λ c. omega (arith, ap length l));
      }

  small : valid_serial bytes n ≡ true → length (look s (take n bytes)) ≡ 1 → length room < 2 * length (history_in s (take n bytes)) → PairsNumbers s bytes n room 10
  small v l f =
      record {
        invalid = miss (omega arith) (λ c. not_both v c);
        missing = miss (omega arith) (λ c. omega (arith, ap length c.1));
        small = hit refl (v, l, f);
        done = miss (omega arith) (λ c. omega arith);
      }

  done : valid_serial bytes n ≡ true → length (look s (take n bytes)) ≡ 1 → 2 * length (history_in s (take n bytes)) ≤ length room → PairsNumbers s bytes n room 0
  done v l f =
      record {
        invalid = miss (omega arith) (λ c. not_both v c);
        missing = miss (omega arith) (λ c. omega (arith, ap length c.1));
        small = miss (omega arith) (λ c. omega arith);
        done = hit refl (v, l, f);
      }

  pub show_numbers : Good s → PairsNumbers s bytes n room (show_step s bytes n room).answer.number
  show_numbers g = show_cases s g bytes n (λ r. PairsNumbers s bytes n room r.answer.number) room invalid missing small done

  pub withdraw_numbers : Good s → PairsNumbers s bytes n room (withdraw_step s bytes n room).answer.number
  withdraw_numbers g = withdraw_cases s g bytes n (λ r. PairsNumbers s bytes n room r.answer.number) room invalid missing small done

-- an act's own number is none of 3, 11 and 12, which stand for the words, the scratch and the form of a line
abbrev pub Own : ℕ → Type 0
Own k = (k ≡ 3 → ⊥) × (k ≡ 11 → ⊥) × (k ≡ 12 → ⊥)

pub act_numbers : (s : Store) → Good s → (a : Act) → Own (perform s a).answer.number
act_numbers s g (enter bytes n) =
    enter_cases s g bytes n (λ r. Own r.answer.number) (λ v. omega arith) (λ v l. omega arith) (λ v l f. omega arith) (λ v l f. omega arith)
act_numbers s g (file bytes n day code) =
    file_cases s g bytes n (λ r. Own r.answer.number) day code
    (λ v. omega arith) (λ v w. omega arith) (λ v w l. omega arith) (λ v w l f. omega arith) (λ v w l f. omega arith)
act_numbers s g (show bytes n room) =
    show_cases s g bytes n (λ r. Own r.answer.number) room (λ v. omega arith) (λ v l. omega arith) (λ v l f. omega arith) (λ v l f. omega arith)
act_numbers s g (withdraw bytes n room) =
    withdraw_cases s g bytes n (λ r. Own r.answer.number) room (λ v. omega arith) (λ v l. omega arith) (λ v l f. omega arith) (λ v l f. omega arith)
