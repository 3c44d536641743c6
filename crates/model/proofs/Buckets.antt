-- When the table grows and when it contracts, over any bounds, read off the words (`buckets_by_the_rules`). Of the four calls, one bucket
-- more exactly after an accepted entry with which the cards are more than U for each bucket, where there are fewer than the most; one fewer
-- exactly after an accepted withdrawal with which they are fewer than L for each, where there are more than sixteen; as many after any
-- other. So no sound store has more than the most buckets (`top_holds`), however many cards it holds: the rule says so, the limits alone
-- would not. And no call but an accepted Open changes the format or the bounds (`kept_for_life`): a store of format 1 stays one.
use Prim.Native.Nat.{ℕ, ◌+◌, ◌*◌, ◌≤◌, ◌<◌}
use mathlib.Core.Path.{◌≡◌, refl, sym, ap, ◌∙◌}
use mathlib.Core.Logic.{⊎_elim}
use mathlib.Core.List.{List, [], ◌∷◌, ◌++◌}
use mathlib.Core.Bool.{true, cond}
use native.Mathlib.Omega.{arith}
use lib.Dec.{eqb}
use lib.ListN.{get_or}
use Rattle.rules.specs.Table.{least}
use Rattle.rules.proofs.Tests.{by_cases}
use Rattle.rules.proofs.States.{state_of}
use Rattle.rules.proofs.Loads.{splits_true, splits_false, contracts_true, contracts_false}
use Rattle.model.specs.Lists.{total}
use Rattle.model.specs.Shape.{Shape, top_of}
use Rattle.model.specs.Model.{Card, Store, cards, held, size, over, under, split, grown, contract, shrunk, placed, entered, filed, removed, withdrawn}
use Rattle.model.specs.Layout.{format_at, maxp_at, p_at, held_at, bounds_at, bounds_word, shape_of, encode, decode_as, decode, sound}
use Rattle.model.specs.Meaning.{buckets_in}
use Rattle.model.specs.Runs.{Act, Act.enter, Act.file, Act.show, Act.withdraw, perform, Call, Call.opening, Call.acting, outcome, words_after, run, Event, Event.opened, Event.answered, events}
use Rattle.model.proofs.Sums.{length_total}
use Rattle.model.proofs.Fair.{Fair, Good}
use Rattle.model.proofs.Rep.{rep_encode}
use Rattle.model.proofs.Readings.{maxp_at_lem, p_at_lem, held_at_lem}
use Rattle.model.proofs.Sound.{sound_good}
use Rattle.model.proofs.Meaning.{sound_means}
use Rattle.model.proofs.Steps.{placed_fair, removed_fair}
use Rattle.model.proofs.Growth.{split_total, split_size, contract_total, contract_size}
use Rattle.model.proofs.Valid.{valid_serial_lem}
use Rattle.model.proofs.Cases.{enter_cases, file_cases, show_cases, withdraw_cases}
use Rattle.model.proofs.Demand3.{good_act}
use Rattle.model.proofs.Refused.{refused_call}
use Rattle.model.proofs.Outcomes.{open_cases, call_cases, sound_call, shape_call, sound_run}

-- b' buckets where there were b, with n cards held after an entry
pub record Grows (sh : Shape) (n b b' : ℕ) : Type 0 where
  pub more : sh.upper * b < n → b < top_of sh → b' ≡ b + 1
  pub enough : n ≤ sh.upper * b → b' ≡ b
  pub most : top_of sh ≤ b → b' ≡ b

-- and after a withdrawal
pub record Shrinks (sh : Shape) (n b b' : ℕ) : Type 0 where
  pub fewer : n < sh.lower * b → least < b → b' + 1 ≡ b
  pub enough : sh.lower * b ≤ n → b' ≡ b
  pub fewest : b ≤ least → b' ≡ b

abbrev pub ByTheRules : Act → Shape → ℕ → ℕ → ℕ → Type 0
ByTheRules (enter bytes k) sh n b b' = Grows sh n b b'
ByTheRules (file bytes k day code) sh n b b' = b' ≡ b
ByTheRules (show bytes k room) sh n b b' = b' ≡ b
ByTheRules (withdraw bytes k room) sh n b b' = Shrinks sh n b b'

-- a call that was answered by k
pub record Reorganises (a : Act) (sh : Shape) (k n b b' : ℕ) : Type 0 where
  pub done : k ≡ 0 → ByTheRules a sh n b b'
  pub refused : (k ≡ 0 → ⊥) → b' ≡ b

-- of a store

as_many : (s t : Store) → total (λ (c : Card). 1) (cards t) ≡ total (λ (c : Card). 1) (cards s) → held t ≡ held s
as_many s t e = length_total (cards t) ∙ e ∙ sym (length_total (cards s))

module _ (s : Store) (r : Fair s) where
  grows : Grows s.shape (held (grown s)) (size s) (size (grown s))
  unfolding grown
  grows =
      by_cases (over s)
      (λ e. let f = splits_true (top_of s.shape) s.shape.upper (held s) (size s) e in
      let n = as_many s (split s) (split_total s r f.1 (λ c. 1)) in
      rw e (record { more = λ h k. split_size s r f.1; enough = λ h. absurd (omega (arith, n, f.0)); most = λ h. absurd (omega (arith, f.1)) }))
      (λ e. let f = splits_false (top_of s.shape) s.shape.upper (held s) (size s) e in
      rw e (record { more = λ h k. ⊎_elim (λ l. absurd (omega arith)) (λ l. absurd (omega arith)) f; enough = λ h. refl; most = λ h. refl }))

  shrinks : Shrinks s.shape (held (shrunk s)) (size s) (size (shrunk s))
  unfolding shrunk
  shrinks =
      by_cases (under s)
      (λ e. let f = contracts_true s.shape.lower (held s) (size s) e in
      let n = as_many s (contract s) (contract_total s r f.1 (λ c. 1)) in
      rw e (record { fewer = λ h k. contract_size s r f.1; enough = λ h. absurd (omega (arith, n, f.0)); fewest = λ h. absurd (omega (arith, f.1)) }))
      (λ e. let f = contracts_false s.shape.lower (held s) (size s) e in
      rw e (record { fewer = λ h k. ⊎_elim (λ l. absurd (omega arith)) (λ l. absurd (omega arith)) f; enough = λ h. refl; fewest = λ h. refl }))

module _ (s : Store) (g : Good s) where
  act_buckets : (a : Act) → (perform s a).answer.number ≡ 0 → ByTheRules a s.shape (held (perform s a).store) (size s) (size (perform s a).store)
  unfolding placed entered filed removed withdrawn
  act_buckets (enter bytes k) =
      enter_cases s g bytes k (λ r. r.answer.number ≡ 0 → Grows s.shape (held r.store) (size s) (size r.store))
      (λ v e. absurd (omega arith)) (λ v l e. absurd (omega arith)) (λ v l f e. absurd (omega arith)) (λ v l f e. grows (placed s _) (placed_fair s g.fair _ (valid_serial_lem bytes k v) l f))
  act_buckets (file bytes k day code) =
      file_cases s g bytes k (λ r. r.answer.number ≡ 0 → size r.store ≡ size s) day code
      (λ v e. refl) (λ v w e. refl) (λ v w l e. refl) (λ v w l f e. refl) (λ v w l f e. refl)
  act_buckets (show bytes k room) =
      show_cases s g bytes k (λ r. r.answer.number ≡ 0 → size r.store ≡ size s) room (λ v e. refl) (λ v l e. refl) (λ v l f e. refl) (λ v l f e. refl)
  act_buckets (withdraw bytes k room) =
      withdraw_cases s g bytes k (λ r. r.answer.number ≡ 0 → Shrinks s.shape (held r.store) (size s) (size r.store)) room
      (λ v e. absurd (omega arith)) (λ v l e. absurd (omega arith)) (λ v l f e. absurd (omega arith)) (λ v l f e. shrinks (removed s _) (removed_fair s g.fair _))

-- of words

module _ (w : List ℕ) (ok : sound w ≡ true) where
  done_buckets : (scratch : List ℕ) (a : Act) → let o = outcome w scratch a in o.answer.number ≡ 0
      → ByTheRules a (shape_of w) (get_or o.words held_at 0) (buckets_in w) (buckets_in o.words)
  unfolding decode_as
  done_buckets scratch a =
      let g = (sound_good w ok).0 in
      let s = (perform (decode w) a).store in
      let r = rep_encode s (good_act (decode w) g a).fair in
      call_cases w scratch a ok (λ r. r.answer.number ≡ 0 → ByTheRules a (shape_of w) (get_or r.words held_at 0) (buckets_in w) (buckets_in r.words))
      (λ h e. absurd (omega arith))
      (λ h e. rw (held_at_lem (encode s) s r, maxp_at_lem (encode s) s r, p_at_lem (encode s) s r) (act_buckets (decode w) g a e))

  pub buckets_by_the_rules : (scratch : List ℕ) (a : Act) → let o = outcome w scratch a in Reorganises a (shape_of w) o.answer.number (get_or o.words held_at 0) (buckets_in w) (buckets_in o.words)
  buckets_by_the_rules scratch a = record { done = done_buckets scratch a; refused = λ h. ap buckets_in (refused_call w scratch a h).0 }

  pub top_holds : buckets_in w ≤ top_of (shape_of w)
  top_holds = (state_of (top_of (shape_of w)) (get_or w maxp_at 0) (get_or w p_at 0) ((sound_means w).0 ok).state).room

-- no accepted Open is among some events
abbrev pub NoneOpened : List Event → Type 0
NoneOpened [] = Unit {0}
NoneOpened (opened ∷ es) = ⊥
NoneOpened (answered a k f ∷ es) = NoneOpened es

-- words that tell the same shape, and have the same words for the format and the bounds
pub record SameTerms (w v : List ℕ) : Type 0 where
  pub shape : shape_of v ≡ shape_of w
  pub format : get_or v format_at 0 ≡ get_or w format_at 0
  pub bounds : get_or v bounds_at 0 ≡ get_or w bounds_at 0

shape_for_life : (w : List ℕ) → sound w ≡ true → (cs : List Call) → NoneOpened (events w cs) → shape_of (run w cs) ≡ shape_of w
shape_for_life w ok [] n = refl
shape_for_life w ok (opening t ∷ cs) n =
    open_cases w t (λ r. NoneOpened (cond (eqb r.number 0) (opened ∷ []) [] ++ events r.words cs) → shape_of (run r.words cs) ≡ shape_of w)
    (λ v m. shape_for_life w ok cs m) (λ v u m. shape_for_life w ok cs m) (λ o v l m. shape_for_life w ok cs m) (λ o v l m. absurd m) n
shape_for_life w ok (acting scratch a ∷ cs) n =
    shape_for_life (words_after w (acting scratch a)) (sound_call w ok (acting scratch a)) cs n ∙ shape_call w ok scratch a

pub kept_for_life : (w : List ℕ) → sound w ≡ true → (cs : List Call) → NoneOpened (events w cs) → SameTerms w (run w cs)
kept_for_life w ok cs n =
    let e = shape_for_life w ok cs n in
    let before = (sound_means w).0 ok in
    let after = (sound_means (run w cs)).0 (sound_run w ok cs) in
    record {
      shape = e;
      format = after.format_word ∙ ap (λ (sh : Shape). sh.format) e ∙ sym before.format_word;
      bounds = after.bounds ∙ ap bounds_word e ∙ sym before.bounds;
    }
