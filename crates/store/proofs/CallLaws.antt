-- Calls from their parts. On sound words a call is its plan and, where that goes ahead, the change (`enter_refused`, `enter_done` ..); for any
-- words the one door answers 11, 3 or 0 (`admit_short`, `admit_unsound`, `admit_sound`); the entry point refuses by that number (`call_refused`) or does
-- what the call does (`call_does`).
use mathlib.Core.Path.{◌≡◌, refl, sym, subst, ◌∙◌}
use mathlib.Core.Bool.{true, false}
use mathlib.Core.List.{List, []}
use Prim.Native.Nat.{ℕ, ◌≤◌, ◌<◌}
use native.Mathlib.Omega.{arith}
use lib.ListN.{length}
use borrow.Author.Tests.{lt-ltb, le-ltb, ne_eqb}
use Rattle.model.specs.Shape.{need}
use Rattle.model.specs.Model.{Store}
use Rattle.model.specs.Layout.{shape_of, decode, encode, sound}
use Rattle.model.specs.Calls.{Step, refused, cleaned, admission, swept, call, enter_step, file_step, show_step, withdraw_step}
use Rattle.model.specs.Runs.{Act, perform, room_of}
use Rattle.model.proofs.Fair.{Good}
use Rattle.model.proofs.Sound.{sound_good, words_stay}
use Rattle.model.proofs.Cases.{enter_cases, file_cases, show_cases}
use Rattle.model.proofs.Outcomes.{admitted}
use Rattle.model.proofs.Refused.{refused_act}
use Rattle.store.specs.Numbers.{number_of}
use Rattle.store.specs.declared.numbers.Refusal.{Refusal}
use Rattle.store.specs.Leaves.{Gives, refused_answer, Admits, Leaves, Does}
use Rattle.store.specs.declared.answer.Answer as given
use Rattle.store.specs.Plans.{Refuses, Planned}
use Rattle.store.specs.declared.plans.Plan.{Plan}

-- entry points

refuses : (n : ℕ) {r : given.Answer} → r ≡ refused_answer n → Gives (refused n) r
refuses n a = rw a (record { number_is = refl; comparisons_are = refl; scanned_is = refl; faults_are = refl })

-- no refusal has the number of what is done
pub refusal_some : (r : Refusal) → number_of r ≡ 0 → ⊥
refusal_some r z = grind arith

-- what the one door answers
module _ (w scratch : List ℕ) where
  pub admit_short : length scratch < need (shape_of w) → Admits w scratch 11 scratch
  unfolding admission swept
  admit_short h = let b = lt-ltb (length scratch) (need (shape_of w)) h in record { number_is = rw b; scratch_is = rw b }

  module _ (h : need (shape_of w) ≤ length scratch) {left : List ℕ} (l : left ≡ cleaned (need (shape_of w)) scratch) where
    pub admit_unsound : sound w ≡ false → Admits w scratch 3 left
    unfolding admission swept
    admit_unsound e = let b = le-ltb (length scratch) (need (shape_of w)) h in record { number_is = rw (b, e); scratch_is = rw b l }

    pub admit_sound : sound w ≡ true → Admits w scratch 0 left
    unfolding admission swept
    admit_sound e = let b = le-ltb (length scratch) (need (shape_of w)) h in record { number_is = rw (b, e); scratch_is = rw b l }

module _ (w scratch : List ℕ) {k : ℕ} {left : List ℕ} (a : Admits w scratch k left) where
  pub sound_words : k ≡ 0 → sound w ≡ true
  sound_words z = (admitted w scratch (sym a.number_is ∙ z)).1

  module _ (step : Store → Step) (room : List ℕ) {r : given.Answer} where
    pub call_refused : (k ≡ 0 → ⊥) → r ≡ refused_answer k → Leaves (call step w scratch room) r w room left
    unfolding call
    call_refused ne e =
        rw (ne_eqb (admission w scratch) 0 (λ z. ne (a.number_is ∙ z)))
        (record { answer = subst (λ (n : ℕ). Gives (refused n) r) a.number_is (refuses k e); words_are = refl; room_is = refl; scratch_is = a.scratch_is })

    pub call_does : k ≡ 0 → {words paired : List ℕ} → Does (step (decode w)) r words paired → Leaves (call step w scratch room) r words paired left
    unfolding call
    call_does z d =
        rw (sym a.number_is ∙ z) (record { answer = d.answer; words_are = d.words_are; room_is = d.room_is; scratch_is = a.scratch_is })

-- calls on sound words: a plan that refuses leaves the words and the room, one that goes ahead leaves those of its step

pub plan_done : {w : List ℕ} {bytes : List ℕ} {n : ℕ} {t : Step} {r : Plan} → Planned t.answer w bytes n r → {words room : List ℕ} → words ≡ encode t.store → room ≡ t.room
    → Does t r.answer words room
plan_done p a b = record { answer = p.answer; words_are = a; room_is = b }

module _ (w : List ℕ) (e : sound w ≡ true) (bytes : List ℕ) (n : ℕ) where
  g : Good (decode w)
  g = (sound_good w e).0

  act_refused : (a : Act) {r : given.Answer} → Refuses (perform (decode w) a).answer r → Does (perform (decode w) a) r w (room_of a)
  act_refused a p =
      let k = refused_act (decode w) g a (λ k. p.refused (p.answer.number_is ∙ k)) in
      record { answer = p.answer; words_are = words_stay w e k.0; room_is = sym k.1 }

  pub enter_refused : {r : given.Answer} → Refuses (enter_step (decode w) bytes n).answer r → Does (enter_step (decode w) bytes n) r w []
  enter_refused = act_refused (Act.enter bytes n)

  module _ {r : Plan} (p : Planned (enter_step (decode w) bytes n).answer w bytes n r) where
    pub enter_done : {words : List ℕ} → words ≡ encode (enter_step (decode w) bytes n).store → Does (enter_step (decode w) bytes n) r.answer words []
    enter_done l = plan_done p l (sym (enter_cases (decode w) g bytes n (λ t. t.room ≡ []) (λ v. refl) (λ v l. refl) (λ v l f. refl) (λ v l f. refl)))

  pub file_refused : (day code : ℕ) {r : given.Answer} → Refuses (file_step (decode w) bytes n day code).answer r → Does (file_step (decode w) bytes n day code) r w []
  file_refused day code = act_refused (Act.file bytes n day code)

  module _ (day code : ℕ) {r : Plan} (p : Planned (file_step (decode w) bytes n day code).answer w bytes n r) where
    pub file_done : {words : List ℕ} → words ≡ encode (file_step (decode w) bytes n day code).store → Does (file_step (decode w) bytes n day code) r.answer words []
    file_done l = plan_done p l (sym (file_cases (decode w) g bytes n (λ t. t.room ≡ []) day code (λ v. refl) (λ v u. refl) (λ v u l. refl) (λ v u l f. refl) (λ v u l f. refl)))

  pub show_refused : (room : List ℕ) {r : given.Answer} → Refuses (show_step (decode w) bytes n room).answer r → Does (show_step (decode w) bytes n room) r w room
  show_refused room = act_refused (Act.show bytes n room)

  module _ (room : List ℕ) {r : Plan} (p : Planned (show_step (decode w) bytes n room).answer w bytes n r) where
    pub show_done : {left : List ℕ} → left ≡ (show_step (decode w) bytes n room).room → Does (show_step (decode w) bytes n room) r.answer w left
    show_done l = plan_done p (words_stay w e (show_cases (decode w) g bytes n (λ t. t.store ≡ decode w) room (λ v. refl) (λ v l. refl) (λ v l b. refl) (λ v l b. refl))) l

  pub withdraw_refused : (room : List ℕ) {r : given.Answer} → Refuses (withdraw_step (decode w) bytes n room).answer r → Does (withdraw_step (decode w) bytes n room) r w room
  withdraw_refused room = act_refused (Act.withdraw bytes n room)
