-- Each number of each call on words, exactly when it is given, for any words, any scratch and any arguments: `enter_gives`, `file_gives`,
-- `show_gives` and `withdraw_gives`. The fields stand in the order of refusals, each condition denying those before it; `done` is for 0, and
-- `none_else` says that no other number is given. 11 and 3 come before the act (`call_numbers`). Past them the number is the act's own on the
-- store that the words stand for (`number_cases`), so the tables of `Numbers` pass on (`past`), with what `Valid` says of serials and faults.
use Prim.Native.Nat.{ℕ, ◌*◌, ◌≤◌, ◌<◌}
use mathlib.Core.Path.{◌≡◌, refl}
use mathlib.Core.Logic.{◌↔◌}
use mathlib.Core.List.{List, [], ◌∷◌, Memᴰ}
use mathlib.Core.Bool.{true, false}
use native.Mathlib.Omega.{arith}
use lib.Dec.{ltb}
use lib.ListN.{length, take}
use borrow.Author.Tests.{ltb-true, ltb-false}
use Rattle.rules.proofs.Tests.{by_cases, not_both}
use Rattle.model.specs.Shape.{need}
use Rattle.model.specs.Serial.{valid_serial, valid_fault}
use Rattle.model.specs.Model.{held, faults_held, history_in}
use Rattle.model.specs.Layout.{shape_of, decode, sound}
use Rattle.model.specs.Calls.{admission, swept, call}
use Rattle.model.specs.Runs.{Act, Act.enter, Act.file, Act.show, Act.withdraw, perform, outcome}
use Rattle.model.proofs.Look.{look}
use Rattle.model.proofs.Fair.{Good}
use Rattle.model.proofs.Sound.{sound_good}
use Rattle.model.proofs.Cases.{enter_cases, file_cases, show_cases, withdraw_cases}
use Rattle.model.proofs.Numbers.{miss, Own, PairsNumbers, enter_numbers, file_numbers, show_numbers, withdraw_numbers}
use Rattle.model.proofs.Outcomes.{call_numbers}
use Rattle.model.proofs.Valid.{ValidMeans, valid_means, invalid_means, FaultMeans, fault_means, no_fault_means}

-- neither 11 nor 3: enough scratch and a sound store
abbrev pub Admitted : List ℕ → List ℕ → Type 0
Admitted w scratch = (need (shape_of w) ≤ length scratch) × (sound w ≡ true)

-- the store that the words stand for has a card of this serial, or none
abbrev pub Held : List ℕ → List ℕ → Type 0
Held w serial = length (look (decode w) serial) ≡ 1

abbrev pub Missing : List ℕ → List ℕ → Type 0
Missing w serial = look (decode w) serial ≡ []

pub record EnterGives (w scratch bytes : List ℕ) (n k : ℕ) : Type 0 where
  pub short : (k ≡ 11) ↔ (length scratch < need (shape_of w))
  pub unsound : (k ≡ 3) ↔ ((need (shape_of w) ≤ length scratch) × (sound w ≡ false))
  pub invalid : (k ≡ 4) ↔ (Admitted w scratch × (ValidMeans bytes n → ⊥))
  pub twice : (k ≡ 6) ↔ (Admitted w scratch × ValidMeans bytes n × Held w (take n bytes))
  pub full : (k ≡ 8) ↔ (Admitted w scratch × ValidMeans bytes n × Missing w (take n bytes) × (held (decode w) ≡ (decode w).shape.limit))
  pub done : (k ≡ 0) ↔ (Admitted w scratch × ValidMeans bytes n × Missing w (take n bytes) × (held (decode w) < (decode w).shape.limit))
  pub none_else : Memᴰ k (11 ∷ 3 ∷ 4 ∷ 6 ∷ 8 ∷ 0 ∷ [])

pub record FileGives (w scratch bytes : List ℕ) (n day code k : ℕ) : Type 0 where
  pub short : (k ≡ 11) ↔ (length scratch < need (shape_of w))
  pub unsound : (k ≡ 3) ↔ ((need (shape_of w) ≤ length scratch) × (sound w ≡ false))
  pub invalid : (k ≡ 4) ↔ (Admitted w scratch × (ValidMeans bytes n → ⊥))
  pub bad : (k ≡ 5) ↔ (Admitted w scratch × ValidMeans bytes n × (FaultMeans day code → ⊥))
  pub missing : (k ≡ 7) ↔ (Admitted w scratch × ValidMeans bytes n × FaultMeans day code × Missing w (take n bytes))
  pub full : (k ≡ 9) ↔ (Admitted w scratch × ValidMeans bytes n × FaultMeans day code × Held w (take n bytes) × (faults_held (decode w) ≡ (decode w).shape.fault_limit))
  pub done : (k ≡ 0) ↔ (Admitted w scratch × ValidMeans bytes n × FaultMeans day code × Held w (take n bytes) × (faults_held (decode w) < (decode w).shape.fault_limit))
  pub none_else : Memᴰ k (11 ∷ 3 ∷ 4 ∷ 5 ∷ 7 ∷ 9 ∷ 0 ∷ [])

-- Show and Withdraw have the same numbers
pub record PairsGives (w scratch bytes : List ℕ) (n : ℕ) (room : List ℕ) (k : ℕ) : Type 0 where
  pub short : (k ≡ 11) ↔ (length scratch < need (shape_of w))
  pub unsound : (k ≡ 3) ↔ ((need (shape_of w) ≤ length scratch) × (sound w ≡ false))
  pub invalid : (k ≡ 4) ↔ (Admitted w scratch × (ValidMeans bytes n → ⊥))
  pub missing : (k ≡ 7) ↔ (Admitted w scratch × ValidMeans bytes n × Missing w (take n bytes))
  pub small : (k ≡ 10) ↔ (Admitted w scratch × ValidMeans bytes n × Held w (take n bytes) × (length room < 2 * length (history_in (decode w) (take n bytes))))
  pub done : (k ≡ 0) ↔ (Admitted w scratch × ValidMeans bytes n × Held w (take n bytes) × (2 * length (history_in (decode w) (take n bytes)) ≤ length room))
  pub none_else : Memᴰ k (11 ∷ 3 ∷ 4 ∷ 7 ∷ 10 ∷ 0 ∷ [])

module _ (w scratch : List ℕ) (a : Act) where
  -- the number of a call: 11, 3, or its act's own
  number_cases : (P : ℕ → Type 0)
      → (length scratch < need (shape_of w) → P 11)
      → (need (shape_of w) ≤ length scratch → sound w ≡ false → P 3)
      → (Admitted w scratch → P (perform (decode w) a).answer.number)
      → P (outcome w scratch a).answer.number
  unfolding call admission swept
  number_cases P short unsound own =
      by_cases (ltb (length scratch) (need (shape_of w)))
      (λ e. rw e (short (ltb-true (length scratch) (need (shape_of w)) e)))
      (λ e. let enough = ltb-false (length scratch) (need (shape_of w)) e in
      rw e (by_cases (sound w) (λ ok. rw ok (own (enough, ok))) (λ no. rw no (unsound enough no))))

  -- a condition for a number of the act's own, with the admission in it, is that of the call
  past : {A : Type 0} (k : ℕ) → Own k → (A → Admitted w scratch) → (Admitted w scratch → Good (decode w) → ((perform (decode w) a).answer.number ≡ k) ↔ A)
      → ((outcome w scratch a).answer.number ≡ k) ↔ A
  past {A} k other admitted own =
      number_cases (λ n. (n ≡ k) ↔ A)
      (λ h. miss (λ e. other.1 (omega arith)) (λ c. omega (arith, (admitted c).0)))
      (λ h no. miss (λ e. other.0 (omega arith)) (λ c. not_both (admitted c).1 no))
      (λ m. own m (sound_good w m.1).0)

  few : (l : List ℕ) → (Good (decode w) → Memᴰ (perform (decode w) a).answer.number l) → Memᴰ (outcome w scratch a).answer.number (11 ∷ 3 ∷ l)
  few l own =
      number_cases (λ n. Memᴰ n (11 ∷ 3 ∷ l)) (λ h. Memᴰ.head refl) (λ h no. Memᴰ.tail (Memᴰ.head refl))
      (λ m. Memᴰ.tail (Memᴰ.tail (own (sound_good w m.1).0)))

-- a number in its place of a list
module _ {k : ℕ} where
  first : {l : List ℕ} → Memᴰ k (k ∷ l)
  first = Memᴰ.head refl

  second : {a : ℕ} {l : List ℕ} → Memᴰ k (a ∷ k ∷ l)
  second = Memᴰ.tail first

  third : {a b : ℕ} {l : List ℕ} → Memᴰ k (a ∷ b ∷ k ∷ l)
  third = Memᴰ.tail second

  fourth : {a b c : ℕ} {l : List ℕ} → Memᴰ k (a ∷ b ∷ c ∷ k ∷ l)
  fourth = Memᴰ.tail third

  fifth : {a b c d : ℕ} {l : List ℕ} → Memᴰ k (a ∷ b ∷ c ∷ d ∷ k ∷ l)
  fifth = Memᴰ.tail fourth

module _ (w scratch bytes : List ℕ) (n : ℕ) where
  -- conditions on a valid serial, behind the admission and in the words of `Valid`
  invalid : {K : Type 0} → Admitted w scratch → K ↔ (valid_serial bytes n ≡ false) → K ↔ (Admitted w scratch × (ValidMeans bytes n → ⊥))
  invalid m e = let v = invalid_means bytes n in (λ k. (m, v.0 (e.0 k)), λ c. e.1 (v.1 c.1))

  valid : {K C : Type 0} → Admitted w scratch → K ↔ ((valid_serial bytes n ≡ true) × C) → K ↔ (Admitted w scratch × ValidMeans bytes n × C)
  valid m e = let v = valid_means bytes n in (λ k. let c = e.0 k in (m, v.0 c.0, c.1), λ c. e.1 (v.1 c.1, c.2))

  valid_and : {K C D : Type 0} → Admitted w scratch → K ↔ ((valid_serial bytes n ≡ true) × C × D) → K ↔ (Admitted w scratch × ValidMeans bytes n × C × D)
  valid_and m e = let v = valid_means bytes n in (λ k. let c = e.0 k in (m, v.0 c.0, c.1, c.2), λ c. e.1 (v.1 c.1, c.2, c.3))

  pub enter_gives : EnterGives w scratch bytes n (outcome w scratch (enter bytes n)).answer.number
  enter_gives =
      let a = enter bytes n in
      let c = call_numbers w scratch a in
      record {
        short = c.short;
        unsound = c.unsound;
        invalid = past w scratch a 4 (omega arith) (λ c. c.0) (λ m g. invalid m (enter_numbers (decode w) g bytes n).invalid);
        twice = past w scratch a 6 (omega arith) (λ c. c.0) (λ m g. valid m (enter_numbers (decode w) g bytes n).twice);
        full = past w scratch a 8 (omega arith) (λ c. c.0) (λ m g. valid_and m (enter_numbers (decode w) g bytes n).full);
        done = past w scratch a 0 (omega arith) (λ c. c.0) (λ m g. valid_and m (enter_numbers (decode w) g bytes n).done);
        none_else = few w scratch a (4 ∷ 6 ∷ 8 ∷ 0 ∷ []) (λ g.
            enter_cases (decode w) g bytes n (λ r. Memᴰ r.answer.number (4 ∷ 6 ∷ 8 ∷ 0 ∷ [])) (λ v. first) (λ v l. second) (λ v l f. third) (λ v l f. fourth));
      }

  pub file_gives : (day code : ℕ) → FileGives w scratch bytes n day code (outcome w scratch (file bytes n day code)).answer.number
  file_gives day code =
      let a = file bytes n day code in
      let c = call_numbers w scratch a in
      let v = valid_means bytes n in
      let u = fault_means day code in
      let no = no_fault_means day code in
      record {
        short = c.short;
        unsound = c.unsound;
        invalid = past w scratch a 4 (omega arith) (λ c. c.0) (λ m g. invalid m (file_numbers (decode w) g bytes n day code).invalid);
        bad = past w scratch a 5 (omega arith) (λ c. c.0) (λ m g. let e = (file_numbers (decode w) g bytes n day code).bad in
            (λ k. let c = e.0 k in (m, v.0 c.0, no.0 c.1), λ c. e.1 (v.1 c.1, no.1 c.2)));
        missing = past w scratch a 7 (omega arith) (λ c. c.0) (λ m g. let e = (file_numbers (decode w) g bytes n day code).missing in
            (λ k. let c = e.0 k in (m, v.0 c.0, u.0 c.1, c.2), λ c. e.1 (v.1 c.1, u.1 c.2, c.3)));
        full = past w scratch a 9 (omega arith) (λ c. c.0) (λ m g. in_order m (file_numbers (decode w) g bytes n day code).full);
        done = past w scratch a 0 (omega arith) (λ c. c.0) (λ m g. in_order m (file_numbers (decode w) g bytes n day code).done);
        none_else = few w scratch a (4 ∷ 5 ∷ 7 ∷ 9 ∷ 0 ∷ []) (λ g.
            file_cases (decode w) g bytes n (λ r. Memᴰ r.answer.number (4 ∷ 5 ∷ 7 ∷ 9 ∷ 0 ∷ [])) day code
            (λ v. first) (λ v u. second) (λ v u l. third) (λ v u l f. fourth) (λ v u l f. fifth));
      }
    where
      in_order : {K C D : Type 0} → Admitted w scratch → K ↔ ((valid_serial bytes n ≡ true) × (valid_fault day code ≡ true) × C × D) → K ↔ (Admitted w scratch × ValidMeans bytes n × FaultMeans day code × C × D)
      in_order m e =
          let v = valid_means bytes n in
          let u = fault_means day code in
          (λ k. let c = e.0 k in (m, v.0 c.0, u.0 c.1, c.2, c.3), λ c. e.1 (v.1 c.1, u.1 c.2, c.3, c.4))

  module _ (room : List ℕ) where
    -- an act that has the numbers of Show and Withdraw on a good store
    pairs_gives : (a : Act) → (Good (decode w) → PairsNumbers (decode w) bytes n room (perform (decode w) a).answer.number)
        → (Good (decode w) → Memᴰ (perform (decode w) a).answer.number (4 ∷ 7 ∷ 10 ∷ 0 ∷ []))
        → PairsGives w scratch bytes n room (outcome w scratch a).answer.number
    pairs_gives a numbers own =
        let c = call_numbers w scratch a in
        record {
          short = c.short;
          unsound = c.unsound;
          invalid = past w scratch a 4 (omega arith) (λ c. c.0) (λ m g. invalid m (numbers g).invalid);
          missing = past w scratch a 7 (omega arith) (λ c. c.0) (λ m g. valid m (numbers g).missing);
          small = past w scratch a 10 (omega arith) (λ c. c.0) (λ m g. valid_and m (numbers g).small);
          done = past w scratch a 0 (omega arith) (λ c. c.0) (λ m g. valid_and m (numbers g).done);
          none_else = few w scratch a (4 ∷ 7 ∷ 10 ∷ 0 ∷ []) own;
        }

    pub show_gives : PairsGives w scratch bytes n room (outcome w scratch (show bytes n room)).answer.number
    show_gives =
        pairs_gives (show bytes n room) (show_numbers (decode w) bytes n room)
        (λ g. show_cases (decode w) g bytes n (λ r. Memᴰ r.answer.number (4 ∷ 7 ∷ 10 ∷ 0 ∷ [])) room (λ v. first) (λ v l. second) (λ v l f. third) (λ v l f. fourth))

    pub withdraw_gives : PairsGives w scratch bytes n room (outcome w scratch (withdraw bytes n room)).answer.number
    withdraw_gives =
        pairs_gives (withdraw bytes n room) (withdraw_numbers (decode w) bytes n room)
        (λ g. withdraw_cases (decode w) g bytes n (λ r. Memᴰ r.answer.number (4 ∷ 7 ∷ 10 ∷ 0 ∷ [])) room (λ v. first) (λ v l. second) (λ v l f. third) (λ v l f. fourth))
