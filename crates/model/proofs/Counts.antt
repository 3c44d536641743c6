-- What an answer counts, read off the store. Comparisons: the card's place in its chain, from 1, if its serial is held (`compared_held`), else the chain's length
-- (`compared_missing`), and 0 where the call is refused before the search (`compared_none`). Scanned: of a done entry the length
-- of the bucket that it splits, of a done withdrawal that of the bucket that goes (`scanned_done`), and 0 of a refused call (`scanned_refused`). The same told by what the
-- number of buckets does (`Scans`): where it grew, the cards of bucket p with the new card among them; where it fell, the cards of the last bucket without the card that
-- went; where it stayed 0. So of any act on a good store (`scanned_by_buckets`) and of any call on sound words (`scanned_in_words`).
-- Faults: of a done File the new count (`faults_filed`), of a done Show or Withdraw and where the room lacks the count (`faults_shown`, `faults_withdrawn`), else 0 (`faults_none`).
use Prim.Native.Nat.{ℕ, ◌+◌, ◌-◌}
use mathlib.Core.Path.{◌≡◌, refl, ◌∙◌}
use mathlib.Core.Logic.{◌⊎◌, inl, inr}
use mathlib.Core.List.{List, [], ◌∷◌, ◌++◌, map}
use mathlib.Core.Bool.{true}
use native.Mathlib.Omega.{arith}
use lib.ListN.{length, take, length-append}
use Rattle.rules.proofs.Tests.{by_cases, not_both}
use Rattle.rules.proofs.Loads.{splits_true, contracts_true}
use Rattle.model.specs.Shape.{top_of}
use Rattle.model.specs.Serial.{valid_serial, valid_fault}
use Rattle.model.specs.Model.{Fault, Card, Store, histories, chain_for, before, placed, with_fault, new_fault, history_in, removed, held, size, bucket, over, under, grown, shrunk, entered, filed, withdrawn, split_scan, contract_scan}
use Rattle.model.specs.Layout.{encode, decode_as, decode, sound}
use Rattle.model.specs.Meaning.{buckets_in}
use Rattle.model.specs.Calls.{Step}
use Rattle.model.specs.Runs.{Act, Act.enter, Act.file, Act.show, Act.withdraw, perform, outcome}
use Rattle.model.proofs.Lists.{same_refl}
use Rattle.model.proofs.Fair.{Fair, Good}
use Rattle.model.proofs.Rep.{rep_encode}
use Rattle.model.proofs.Readings.{maxp_at_lem, p_at_lem}
use Rattle.model.proofs.Sound.{sound_good}
use Rattle.model.proofs.Look.{look}
use Rattle.model.proofs.Steps.{placed_fair, filed_look, removed_fair}
use Rattle.model.proofs.Growth.{split_size, contract_size}
use Rattle.model.proofs.Valid.{valid_serial_lem}
use Rattle.model.proofs.Cut.{Present, absent, present}
use Rattle.model.proofs.Cases.{place, enter_cases, file_cases, show_cases, withdraw_cases}
use Rattle.model.proofs.Demand3.{good_act}
use Rattle.model.proofs.Outcomes.{call_cases}

-- the serial of an act, and that it is not refused before the search
abbrev pub serial_of : Act → List ℕ
serial_of (enter bytes n) = take n bytes
serial_of (file bytes n day code) = take n bytes
serial_of (show bytes n room) = take n bytes
serial_of (withdraw bytes n room) = take n bytes

abbrev pub Searches : Act → Type 0
Searches (enter bytes n) = valid_serial bytes n ≡ true
Searches (file bytes n day code) = (valid_serial bytes n ≡ true) × (valid_fault day code ≡ true)
Searches (show bytes n room) = valid_serial bytes n ≡ true
Searches (withdraw bytes n room) = valid_serial bytes n ≡ true

-- an answer with so many comparisons
abbrev Compares : ℕ → Step → Type 0
Compares k r = r.answer.comparisons ≡ k

-- what a done act scans, and a refused one does not
abbrev pub scan_of : Store → Act → ℕ
scan_of s (enter bytes n) = split_scan (placed s (take n bytes))
scan_of s (file bytes n day code) = 0
scan_of s (show bytes n room) = 0
scan_of s (withdraw bytes n room) = contract_scan (removed s (take n bytes))

abbrev Idle : Step → Type 0
Idle r = (r.answer.number ≡ 0 → ⊥) → r.answer.scanned ≡ 0

-- the cards scanned by an act on a store, where there were b buckets before it and there are b' after it
pub record Scans (s : Store) (a : Act) (b b' scanned : ℕ) : Type 0 where
  -- one bucket more: bucket p was split, once the new card stood
  pub grew : b' ≡ b + 1 → scanned ≡ length (bucket (placed s (serial_of a)) s.p)
  -- one bucket fewer: the last one went, once the card was gone
  pub fell : b' + 1 ≡ b → scanned ≡ length (bucket (removed s (serial_of a)) (b - 1))
  -- as many buckets: no card was scanned
  pub stayed : b' ≡ b → scanned ≡ 0

-- an act that leaves the buckets as many as they were
same_buckets : (s : Store) (a : Act) (b : ℕ) → Scans s a b b 0
same_buckets s a b = record { grew = λ h. absurd (omega arith); fell = λ h. absurd (omega arith); stayed = λ h. refl }

-- the two changes of the table
module _ (s : Store) (bytes : List ℕ) (n : ℕ) where
  split_scans : Fair (placed s (take n bytes)) → Scans s (enter bytes n) (size s) (size (entered s (take n bytes))) (split_scan (placed s (take n bytes)))
  unfolding placed entered grown split_scan
  split_scans r =
      let t = placed s (take n bytes) in
      by_cases (over t)
      (λ e. let z = split_size t r (splits_true (top_of t.shape) t.shape.upper (held t) (size t) e).1 in
      rw e (record { grew = λ h. refl; fell = λ h. absurd (omega (arith, z)); stayed = λ h. absurd (omega (arith, z)) }))
      (λ e. rw e (same_buckets s (enter bytes n) (size s)))

  contract_scans : (room : List ℕ) → Fair (removed s (take n bytes)) → Scans s (withdraw bytes n room) (size s) (size (withdrawn s (take n bytes))) (contract_scan (removed s (take n bytes)))
  unfolding removed withdrawn shrunk contract_scan
  contract_scans room r =
      let t = removed s (take n bytes) in
      by_cases (under t)
      (λ e. let z = contract_size t r (contracts_true t.shape.lower (held t) (size t) e).1 in
      rw e (record { grew = λ h. absurd (omega (arith, z)); fell = λ h. refl; stayed = λ h. absurd (omega (arith, z)) }))
      (λ e. rw e (same_buckets s (withdraw bytes n room) (size s)))

-- one fault more on each of some cards
longer : (f : Fault) (l : List Card) → length (histories (map (with_fault f) l)) ≡ length (histories l) + length l
longer f [] = refl
longer f (c ∷ l) =
    omega (arith, longer f l, length-append (c.faults ++ (f ∷ [])) (histories (map (with_fault f) l)), length-append c.faults (f ∷ []), length-append c.faults (histories l))

-- a number that is neither 0 nor 10
neither : (k : ℕ) {A : Type 0} → (k ≡ 0 → ⊥) → (k ≡ 10 → ⊥) → (k ≡ 0) ⊎ (k ≡ 10) → A
neither k a b (inl e) = absurd (a e)
neither k a b (inr e) = absurd (b e)

module _ (s : Store) (g : Good s) where
  compared : (a : Act) → Searches a → Compares (place s (serial_of a)) (perform s a)
  compared (enter bytes n) ok =
      enter_cases s g bytes n (Compares (place s (take n bytes))) (λ v. not_both ok v) (λ v l. refl) (λ v l f. refl) (λ v l f. refl)
  compared (file bytes n day code) ok =
      file_cases s g bytes n (Compares (place s (take n bytes))) day code
      (λ v. not_both ok.0 v) (λ v w. not_both ok.1 w) (λ v w l. refl) (λ v w l f. refl) (λ v w l f. refl)
  compared (show bytes n room) ok =
      show_cases s g bytes n (Compares (place s (take n bytes))) room (λ v. not_both ok v) (λ v l. refl) (λ v l f. refl) (λ v l f. refl)
  compared (withdraw bytes n room) ok =
      withdraw_cases s g bytes n (Compares (place s (take n bytes))) room (λ v. not_both ok v) (λ v l. refl) (λ v l f. refl) (λ v l f. refl)

  -- the chain is the cards before the card, the card, and those behind it
  pub compared_held : (a : Act) → Searches a → length (look s (serial_of a)) ≡ 1
      → Present (serial_of a) (chain_for s (serial_of a)) × ((perform s a).answer.comparisons ≡ length (before (serial_of a) (chain_for s (serial_of a))) + 1)
  compared_held a ok h = let q = present (serial_of a) (chain_for s (serial_of a)) h in (q, compared a ok ∙ q.place)

  pub compared_missing : (a : Act) → Searches a → look s (serial_of a) ≡ [] → (perform s a).answer.comparisons ≡ length (chain_for s (serial_of a))
  compared_missing a ok h = compared a ok ∙ (absent (serial_of a) (chain_for s (serial_of a)) h).place

  pub compared_none : (a : Act) → (Searches a → ⊥) → (perform s a).answer.comparisons ≡ 0
  compared_none (enter bytes n) not =
      enter_cases s g bytes n (Compares 0) (λ v. refl) (λ v l. absurd (not v)) (λ v l f. absurd (not v)) (λ v l f. absurd (not v))
  compared_none (file bytes n day code) not =
      file_cases s g bytes n (Compares 0) day code
      (λ v. refl) (λ v w. refl) (λ v w l. absurd (not (v, w))) (λ v w l f. absurd (not (v, w))) (λ v w l f. absurd (not (v, w)))
  compared_none (show bytes n room) not =
      show_cases s g bytes n (Compares 0) room (λ v. refl) (λ v l. absurd (not v)) (λ v l f. absurd (not v)) (λ v l f. absurd (not v))
  compared_none (withdraw bytes n room) not =
      withdraw_cases s g bytes n (Compares 0) room (λ v. refl) (λ v l. absurd (not v)) (λ v l f. absurd (not v)) (λ v l f. absurd (not v))

  -- `split_scan` is the length of bucket p where the load splits it, `contract_scan` that of the last bucket where the load joins it, else 0
  pub scanned_done : (a : Act) → (perform s a).answer.number ≡ 0 → (perform s a).answer.scanned ≡ scan_of s a
  scanned_done (enter bytes n) =
      enter_cases s g bytes n (λ r. r.answer.number ≡ 0 → r.answer.scanned ≡ split_scan (placed s (take n bytes)))
      (λ v z. absurd (omega arith)) (λ v l z. absurd (omega arith)) (λ v l f z. absurd (omega arith)) (λ v l f z. refl)
  scanned_done (file bytes n day code) = λ z.
      file_cases s g bytes n (λ r. r.answer.scanned ≡ 0) day code (λ v. refl) (λ v w. refl) (λ v w l. refl) (λ v w l f. refl) (λ v w l f. refl)
  scanned_done (show bytes n room) = λ z. show_cases s g bytes n (λ r. r.answer.scanned ≡ 0) room (λ v. refl) (λ v l. refl) (λ v l f. refl) (λ v l f. refl)
  scanned_done (withdraw bytes n room) =
      withdraw_cases s g bytes n (λ r. r.answer.number ≡ 0 → r.answer.scanned ≡ contract_scan (removed s (take n bytes))) room
      (λ v z. absurd (omega arith)) (λ v l z. absurd (omega arith)) (λ v l f z. absurd (omega arith)) (λ v l f z. refl)

  pub scanned_refused : (a : Act) → ((perform s a).answer.number ≡ 0 → ⊥) → (perform s a).answer.scanned ≡ 0
  scanned_refused (enter bytes n) = enter_cases s g bytes n Idle (λ v k. refl) (λ v l k. refl) (λ v l f k. refl) (λ v l f k. absurd (k refl))
  scanned_refused (file bytes n day code) = file_cases s g bytes n Idle day code (λ v k. refl) (λ v w k. refl) (λ v w l k. refl) (λ v w l f k. refl) (λ v w l f k. refl)
  scanned_refused (show bytes n room) = show_cases s g bytes n Idle room (λ v k. refl) (λ v l k. refl) (λ v l f k. refl) (λ v l f k. refl)
  scanned_refused (withdraw bytes n room) = withdraw_cases s g bytes n Idle room (λ v k. refl) (λ v l k. refl) (λ v l f k. refl) (λ v l f k. absurd (k refl))

  pub scanned_by_buckets : (a : Act) → Scans s a (size s) (size (perform s a).store) (perform s a).answer.scanned
  unfolding filed
  scanned_by_buckets (enter bytes n) =
      let same = same_buckets s (enter bytes n) (size s) in
      enter_cases s g bytes n (λ r. Scans s (enter bytes n) (size s) (size r.store) r.answer.scanned)
      (λ v. same) (λ v l. same) (λ v l f. same) (λ v l f. split_scans s bytes n (placed_fair s g.fair _ (valid_serial_lem bytes n v) l f))
  scanned_by_buckets (file bytes n day code) =
      let same = same_buckets s (file bytes n day code) (size s) in
      file_cases s g bytes n (λ r. Scans s (file bytes n day code) (size s) (size r.store) r.answer.scanned) day code
      (λ v. same) (λ v w. same) (λ v w l. same) (λ v w l f. same) (λ v w l f. same)
  scanned_by_buckets (show bytes n room) =
      let same = same_buckets s (show bytes n room) (size s) in
      show_cases s g bytes n (λ r. Scans s (show bytes n room) (size s) (size r.store) r.answer.scanned) room (λ v. same) (λ v l. same) (λ v l f. same) (λ v l f. same)
  scanned_by_buckets (withdraw bytes n room) =
      let same = same_buckets s (withdraw bytes n room) (size s) in
      withdraw_cases s g bytes n (λ r. Scans s (withdraw bytes n room) (size s) (size r.store) r.answer.scanned) room
      (λ v. same) (λ v l. same) (λ v l f. same) (λ v l f. contract_scans s bytes n room (removed_fair s g.fair _))

  -- a done File: the new count, that of the history which it leaves
  pub faults_filed : (bytes : List ℕ) (n day code : ℕ) → (perform s (file bytes n day code)).answer.number ≡ 0
      → (perform s (file bytes n day code)).answer.faults ≡ length (history_in (perform s (file bytes n day code)).store (take n bytes))
  faults_filed bytes n day code =
      file_cases s g bytes n (λ r. r.answer.number ≡ 0 → r.answer.faults ≡ length (history_in r.store (take n bytes))) day code
      (λ v z. absurd (omega arith)) (λ v w z. absurd (omega arith)) (λ v w l z. absurd (omega arith)) (λ v w l f z. absurd (omega arith))
      (λ v w l f z. rw (filed_look s g.fair (take n bytes) day code (take n bytes), same_refl (take n bytes)) (omega (arith, longer (new_fault s day code) (look s (take n bytes)), l)))

  -- a done Show or Withdraw, and 10: the count, and else 0
  abbrev Pairs : ℕ → Step → Type 0
  Pairs k r = ((r.answer.number ≡ 0) ⊎ (r.answer.number ≡ 10) → r.answer.faults ≡ k) × ((r.answer.number ≡ 0 → ⊥) → (r.answer.number ≡ 10 → ⊥) → r.answer.faults ≡ 0)

  pub faults_shown : (bytes : List ℕ) (n : ℕ) (room : List ℕ) → Pairs (length (history_in s (take n bytes))) (perform s (show bytes n room))
  faults_shown bytes n room =
      show_cases s g bytes n (Pairs (length (history_in s (take n bytes)))) room
      (λ v. (neither 4 (omega arith) (omega arith), λ a b. refl)) (λ v l. (neither 7 (omega arith) (omega arith), λ a b. refl)) (λ v l f. (λ e. refl, λ a b. absurd (b refl))) (λ v l f. (λ e. refl, λ a b. absurd (a refl)))

  pub faults_withdrawn : (bytes : List ℕ) (n : ℕ) (room : List ℕ) → Pairs (length (history_in s (take n bytes))) (perform s (withdraw bytes n room))
  faults_withdrawn bytes n room =
      withdraw_cases s g bytes n (Pairs (length (history_in s (take n bytes)))) room
      (λ v. (neither 4 (omega arith) (omega arith), λ a b. refl)) (λ v l. (neither 7 (omega arith) (omega arith), λ a b. refl)) (λ v l f. (λ e. refl, λ a b. absurd (b refl))) (λ v l f. (λ e. refl, λ a b. absurd (a refl)))

  pub faults_none : (bytes : List ℕ) (n day code : ℕ) → ((perform s (enter bytes n)).answer.faults ≡ 0)
      × (((perform s (file bytes n day code)).answer.number ≡ 0 → ⊥) → (perform s (file bytes n day code)).answer.faults ≡ 0)
  faults_none bytes n day code = (
    enter_cases s g bytes n (λ r. r.answer.faults ≡ 0) (λ v. refl) (λ v l. refl) (λ v l f. refl) (λ v l f. refl),
    file_cases s g bytes n (λ r. (r.answer.number ≡ 0 → ⊥) → r.answer.faults ≡ 0) day code
        (λ v z. refl) (λ v w z. refl) (λ v w l z. refl) (λ v w l f z. refl) (λ v w l f z. absurd (z refl)),
  )

-- of a call on words
pub scanned_in_words : (w : List ℕ) → sound w ≡ true → (scratch : List ℕ) (a : Act) → let o = outcome w scratch a in
    Scans (decode w) a (buckets_in w) (buckets_in o.words) o.answer.scanned
unfolding decode_as
scanned_in_words w ok scratch a =
    let g = (sound_good w ok).0 in
    let s = (perform (decode w) a).store in
    let r = rep_encode s (good_act (decode w) g a).fair in
    call_cases w scratch a ok (λ r. Scans (decode w) a (buckets_in w) (buckets_in r.words) r.answer.scanned)
    (λ h. same_buckets (decode w) a (buckets_in w))
    (λ h. rw (maxp_at_lem (encode s) s r, p_at_lem (encode s) s r) (scanned_by_buckets (decode w) g a))
