-- What is asked of a good store: the pairs that its answer lists, which for a show or withdraw that goes ahead are those of the card that its plan
-- found (`lists_pairs`); what asks for no change leaves the words (`made_none`), and a plan that goes ahead is ready for its change (`ready_..`), after
-- which the words are those of the step (`made_..`).
use Prim.Native.Nat.{ℕ, ◌*◌, ◌≤◌}
use mathlib.Core.Path.{◌≡◌, refl, sym, ◌∙◌}
use mathlib.Core.Bool.{true}
use mathlib.Core.List.{List, []}
use mathlib.Core.Logic.{◌⊎◌, ⊎_elim}
use native.Mathlib.Omega.{arith}
use lib.ListN.{length, take}
use Rattle.model.specs.Serial.{valid_serial}
use Rattle.model.specs.Model.{Fault, Store, history_in}
use Rattle.model.specs.Layout.{encode, decode, sound}
use Rattle.model.specs.Calls.{Step, listing, written, enter_step, file_step, show_step, withdraw_step}
use Rattle.model.specs.Job.{enough, pair_text}
use Rattle.model.specs.Shape.{faults_ever}
use Rattle.model.proofs.Fair.{Good}
use Rattle.model.proofs.Look.{look}
use Rattle.model.proofs.Listing.{listing_length}
use Rattle.model.proofs.Cases.{show_cases, withdraw_cases}
use Rattle.model.proofs.Sound.{sound_good, words_stay}
use Rattle.model.proofs.Jobs.{enough_long}
use Rattle.store.specs.Plans.{Planned, file_with, Ready, Follows, Holds, Paired}
use Rattle.store.specs.declared.plans.Plan.{Plan}
use Rattle.job.specs.Turns.{asked, GoesAhead, Lists}
use Rattle.job.specs.declared.fields.Serial.{Serial}
use Rattle.job.specs.declared.fields.Fault.{Fault as Filed}
use Rattle.job.specs.declared.turn.Ahead.{Ahead}
use Rattle.job.specs.declared.fields.Request.{Request}
use Rattle.job.specs.declared.fields.Request.TheVariants.{Enter, Withdraw, File, Show}
use Rattle.job.proofs.AnswerLaws.{pairs_only}

-- a done show or withdraw: its count and its room are those of a history
record Tells (s : Store) (bytes : List ℕ) (n : ℕ) (room : List ℕ) (r : Step) : Type 0 where
  valid : valid_serial bytes n ≡ true
  held : length (look s (take n bytes)) ≡ 1
  fits : 2 * length (history_in s (take n bytes)) ≤ length room
  count : r.answer.faults ≡ length (history_in s (take n bytes))
  room_is : r.room ≡ written (history_in s (take n bytes)) room

module _ (s : Store) (g : Good s) (bytes : List ℕ) (n : ℕ) (room : List ℕ) where
  show_tells : (show_step s bytes n room).answer.number ≡ 0 → Tells s bytes n room (show_step s bytes n room)
  show_tells =
      show_cases s g bytes n (λ r. r.answer.number ≡ 0 → Tells s bytes n room r) room
      (λ v e. absurd (omega arith)) (λ v l e. absurd (omega arith)) (λ v l f e. absurd (omega arith))
      (λ v l f e. record { valid = v; held = l; fits = f; count = refl; room_is = refl })

  withdraw_tells : (withdraw_step s bytes n room).answer.number ≡ 0 → Tells s bytes n room (withdraw_step s bytes n room)
  withdraw_tells =
      withdraw_cases s g bytes n (λ r. r.answer.number ≡ 0 → Tells s bytes n room r) room
      (λ v e. absurd (omega arith)) (λ v l e. absurd (omega arith)) (λ v l f e. absurd (omega arith))
      (λ v l f e. record { valid = v; held = l; fits = f; count = refl; room_is = refl })

-- so its plan has a card, whose pairs a room for every fault holds; and once they are written, they are those that the step lists
module _ (w : List ℕ) (x : Serial) {step : Step} {r : Plan} (plan : Planned step.answer w x.bytes x.len r) (tells : Tells (decode w) x.bytes x.len enough step)
    (room : List ℕ) (long : 2 * faults_ever ≤ length room) where
  holds : Holds w r room
  holds = record { bytes = x.bytes; n = x.len; header = plan.header; places = plan.places; one = tells.held; wide = omega (arith, tells.fits, enough_long) }

  few : r.answer.faults ≤ faults_ever
  few = omega (arith, tells.fits, enough_long, tells.count, plan.answer.faults_are)

  same_text : {left : List ℕ} → Paired (decode w) r room left → pair_text r.answer.faults left ≡ pair_text r.answer.faults step.room
  same_text {left} d =
      let h = history_in (decode w) (take x.len x.bytes) in
      rw (plan.answer.faults_are, tells.count, d.pairs_are x.bytes x.len plan.places tells.held, tells.room_is, ← (listing_length (λ (f : Fault). f.day) h)) (pairs_only (listing h) _ ∙ sym (pairs_only (listing h) _))

-- what goes ahead, by what it asks for
module _ (w : List ℕ) (ok : sound w ≡ true) (a : Ahead) (p : GoesAhead w a) (x : Serial) where
  g : Good (decode w)
  g = (sound_good w ok).0

  module _ (e : a.request ≡ Show x) where
    plan_show : Planned (show_step (decode w) x.bytes x.len enough).answer w x.bytes x.len a.plan
    plan_show = rw e at p

    module _ (room : List ℕ) (long : 2 * faults_ever ≤ length room) where
      tells_show : Tells (decode w) x.bytes x.len enough (show_step (decode w) x.bytes x.len enough)
      tells_show = show_tells (decode w) g x.bytes x.len enough (sym plan_show.answer.number_is ∙ plan_show.done)

      pub holds_show : Holds w a.plan room
      holds_show = holds w x plan_show tells_show room long

      pub lists_show : {left : List ℕ} → Paired (decode w) a.plan room left → Lists (decode w) a.request a.plan.answer.faults left
      lists_show d =
          rw e (record { count_is = plan_show.answer.faults_are; few = few w x plan_show tells_show room long; text_is = same_text w x plan_show tells_show room long d })

    pub made_show : w ≡ encode (asked (decode w) a.request).store
    made_show =
        rw e
        (words_stay w ok (show_cases (decode w) g x.bytes x.len (λ (r : Step). r.store ≡ decode w) enough (λ v. refl) (λ v l. refl) (λ v l f. refl) (λ v l f. refl)))

  module _ (e : a.request ≡ Withdraw x) where
    plan_withdraw : Planned (withdraw_step (decode w) x.bytes x.len enough).answer w x.bytes x.len a.plan
    plan_withdraw = rw e at p

    module _ (room : List ℕ) (long : 2 * faults_ever ≤ length room) where
      tells_withdraw : Tells (decode w) x.bytes x.len enough (withdraw_step (decode w) x.bytes x.len enough)
      tells_withdraw = withdraw_tells (decode w) g x.bytes x.len enough (sym plan_withdraw.answer.number_is ∙ plan_withdraw.done)

      pub holds_withdraw : Holds w a.plan room
      holds_withdraw = holds w x plan_withdraw tells_withdraw room long

      pub lists_withdraw : {left : List ℕ} → Paired (decode w) a.plan room left → Lists (decode w) a.request a.plan.answer.faults left
      lists_withdraw d =
          rw e
          (record { count_is = plan_withdraw.answer.faults_are; few = few w x plan_withdraw tells_withdraw room long; text_is = same_text w x plan_withdraw tells_withdraw room long d })

    pub ready_withdraw : Ready (withdraw_step (decode w)) w a.plan
    ready_withdraw = record { bytes = x.bytes; n = x.len; room = enough; plan = plan_withdraw }

    pub made_withdraw : {words : List ℕ} → Follows (withdraw_step (decode w)) w a.plan words → words ≡ encode (asked (decode w) a.request).store
    made_withdraw f = rw e (f.leaves x.bytes x.len enough plan_withdraw)

  module _ (e : a.request ≡ Enter x) where
    pub ready_enter : Planned (enter_step (decode w) x.bytes x.len).answer w x.bytes x.len a.plan
    ready_enter = rw e at p

    pub made_enter : {words : List ℕ} → words ≡ encode (enter_step (decode w) x.bytes x.len).store → words ≡ encode (asked (decode w) a.request).store
    made_enter h = rw e h

  module _ (f : Filed) (e : a.request ≡ File x f) where
    plan_file : Planned (file_step (decode w) x.bytes x.len f.day f.code).answer w x.bytes x.len a.plan
    plan_file = rw e at p

    pub ready_file : Ready (file_with (decode w) f.day f.code) w a.plan
    ready_file = record { bytes = x.bytes; n = x.len; room = []; plan = plan_file }

    pub made_file : {words : List ℕ} → Follows (file_with (decode w) f.day f.code) w a.plan words → words ≡ encode (asked (decode w) a.request).store
    made_file h = rw e (h.leaves x.bytes x.len [] plan_file)

-- a show or a withdraw, by which of the two it is
module _ (w : List ℕ) (ok : sound w ≡ true) (a : Ahead) (p : GoesAhead w a) (room : List ℕ) (long : 2 * faults_ever ≤ length room)
    (k : ((x : Serial) × (a.request ≡ Withdraw x)) ⊎ ((x : Serial) × (a.request ≡ Show x))) where
  pub holds_pairs : Holds w a.plan room
  holds_pairs = ⊎_elim (λ (q : (x : Serial) × (a.request ≡ Withdraw x)). holds_withdraw w ok a p q.0 q.1 room long) (λ (q : (x : Serial) × (a.request ≡ Show x)). holds_show w ok a p q.0 q.1 room long) k

  pub lists_pairs : {left : List ℕ} → Paired (decode w) a.plan room left → Lists (decode w) a.request a.plan.answer.faults left
  lists_pairs d = ⊎_elim (λ (q : (x : Serial) × (a.request ≡ Withdraw x)). lists_withdraw w ok a p q.0 q.1 room long d) (λ (q : (x : Serial) × (a.request ≡ Show x)). lists_show w ok a p q.0 q.1 room long d) k

-- what lists no pair
pub lists_none : (s : Store) (q : Request) (room : List ℕ) → ((x : Serial) × (q ≡ Enter x)) ⊎ ((x : Serial) × (f : Filed) × (q ≡ File x f)) → Lists s q 0 room
unfolding pair_text
lists_none s q room k =
    ⊎_elim (λ (e : (x : Serial) × (q ≡ Enter x)). rw e.1 (record { count_is = refl; few = omega arith; text_is = refl }))
    (λ (e : (x : Serial) × (f : Filed) × (q ≡ File x f)). rw e.2 (record { count_is = refl; few = omega arith; text_is = refl })) k
