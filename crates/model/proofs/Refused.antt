-- A refused call changes no word of any store and none of the output room, whatever it was given (`refused_open`, `refused_call`, `refused_job_lem`): an act that
-- is refused leaves the store as it was, and the words of a store that stays are the same words. A call that is done is not feigned: an
-- entry, a filing and a withdrawal leave other words (`done_changes`), since they change how many cards or faults are held.
use Prim.Native.Nat.{ℕ}
use mathlib.Core.Path.{◌≡◌, refl, sym, ap, ◌∙◌}
use mathlib.Core.Logic.{⊎_elim}
use mathlib.Core.List.{List, []}
use native.Mathlib.Omega.{arith}
use lib.Dec.{ltb}
use lib.ListN.{length, take, length-append}
use Rattle.rules.proofs.Tests.{by_cases}
use Rattle.model.specs.Shape.{need}
use Rattle.model.specs.Layout.{shape_of, encode, decode, sound}
use Rattle.model.specs.Lists.{total}
use Rattle.model.specs.Model.{Card, Store, cards}
use Rattle.model.specs.Calls.{Terms, Step, admission, swept, call, open_call}
use Rattle.model.specs.Runs.{Act, Act.enter, Act.file, Act.show, Act.withdraw, room_of, perform, outcome}
use Rattle.model.specs.Text.{lines_of}
use Rattle.model.specs.Job.{Tally, Finished, started, job}
use Rattle.model.proofs.Sums.{length_total}
use Rattle.model.proofs.Fair.{one, filings, Good}
use Rattle.model.proofs.Look.{look}
use Rattle.model.proofs.Sound.{sound_good}
use Rattle.model.proofs.Steps.{filed_total}
use Rattle.model.proofs.Accepted.{entered_total, withdrawn_total}
use Rattle.model.proofs.Valid.{valid_serial_lem}
use Rattle.model.proofs.Cases.{enter_cases, file_cases, show_cases, withdraw_cases}
use Rattle.model.proofs.Demand3.{good_act}
use Rattle.model.proofs.Outcomes.{read_back, open_cases}
use Rattle.model.proofs.Jobs.{job_cases, lines_end}

-- a step that is refused leaves store and room
abbrev pub Leaves : Store → List ℕ → Step → Type 0
Leaves s room r = (r.answer.number ≡ 0 → ⊥) → (r.store ≡ s) × (r.room ≡ room)

pub refused_act : (s : Store) → Good s → (a : Act) → Leaves s (room_of a) (perform s a)
refused_act s g (enter bytes n) =
    enter_cases s g bytes n (Leaves s []) (λ v h. (refl, refl)) (λ v l h. (refl, refl)) (λ v l f h. (refl, refl)) (λ v l f h. absurd (h refl))
refused_act s g (file bytes n day code) =
    file_cases s g bytes n (Leaves s []) day code
    (λ v h. (refl, refl)) (λ v w h. (refl, refl)) (λ v w l h. (refl, refl)) (λ v w l f h. (refl, refl)) (λ v w l f h. absurd (h refl))
refused_act s g (show bytes n room) =
    show_cases s g bytes n (Leaves s room) room (λ v h. (refl, refl)) (λ v l h. (refl, refl)) (λ v l f h. (refl, refl)) (λ v l f h. absurd (h refl))
refused_act s g (withdraw bytes n room) =
    withdraw_cases s g bytes n (Leaves s room) room (λ v h. (refl, refl)) (λ v l h. (refl, refl)) (λ v l f h. (refl, refl)) (λ v l f h. absurd (h refl))

pub refused_open : (w : List ℕ) (t : Terms) → ((open_call w t).number ≡ 0 → ⊥) → (open_call w t).words ≡ w
refused_open w t = open_cases w t (λ r. (r.number ≡ 0 → ⊥) → r.words ≡ w) (λ v h. refl) (λ v u h. refl) (λ o v n h. refl) (λ o v l h. absurd (h refl))

pub refused_call : (w scratch : List ℕ) (a : Act) → ((outcome w scratch a).answer.number ≡ 0 → ⊥)
    → ((outcome w scratch a).words ≡ w) × ((outcome w scratch a).room ≡ room_of a)
unfolding call admission swept
refused_call w scratch a =
    by_cases (ltb (length scratch) (need (shape_of w)))
    (λ e. rw e (λ h. (refl, refl)))
    (λ e. rw e (by_cases (sound w)
    (λ ok. rw ok (λ h. let g = sound_good w ok in let r = refused_act (decode w) g.0 a h in (ap encode r.0 ∙ g.1, r.1)))
    (λ no. rw no (λ h. (refl, refl)))))

-- an act that is there to change the store: any but Show
abbrev pub Changing : Act → Type 0
Changing (enter bytes n) = Unit {0}
Changing (file bytes n day code) = Unit {0}
Changing (show bytes n room) = ⊥
Changing (withdraw bytes n room) = Unit {0}

-- a step that is done leaves another store
abbrev Changes : Store → Step → Type 0
Changes s r = r.answer.number ≡ 0 → r.store ≡ s → ⊥

-- two stores that are one weigh the same
weigh : (w : Card → ℕ) {s t : Store} → t ≡ s → total w (cards t) ≡ total w (cards s)
weigh w e = ap (λ (s : Store). total w (cards s)) e

done_act : (s : Store) → Good s → (a : Act) → Changing a → Changes s (perform s a)
done_act s g (enter bytes n) c =
    enter_cases s g bytes n (Changes s) (λ v z e. omega arith) (λ v l z e. omega arith) (λ v l f z e. omega arith)
    (λ v l f z e. omega (arith, weigh one e, entered_total s g.fair (take n bytes) (valid_serial_lem bytes n v) l f one))
done_act s g (file bytes n day code) c =
    file_cases s g bytes n (Changes s) day code
    (λ v z e. omega arith) (λ v w z e. omega arith) (λ v w l z e. omega arith) (λ v w l f z e. omega arith)
    (λ v w l f z e. omega (arith, weigh filings e, filed_total s g.fair (take n bytes) day code filings 1 (λ c. length-append c.faults _) l))
done_act s g (show bytes n room) c = absurd c
done_act s g (withdraw bytes n room) c =
    withdraw_cases s g bytes n (Changes s) room (λ v z e. omega arith) (λ v l z e. omega arith) (λ v l f z e. omega arith)
    (λ v l f z e. omega (arith, weigh one e, withdrawn_total s g.fair (take n bytes) one, length_total (look s (take n bytes)), l))

pub done_changes : (w scratch : List ℕ) (a : Act) → Changing a → (outcome w scratch a).answer.number ≡ 0 → (outcome w scratch a).words ≡ w → ⊥
unfolding call admission swept
done_changes w scratch a c =
    by_cases (ltb (length scratch) (need (shape_of w)))
    (λ e. rw e (λ z u. omega arith))
    (λ e. rw e (by_cases (sound w)
    (λ ok. let g = (sound_good w ok).0 in
    let s = (perform (decode w) a).store in
    rw ok (λ z u. done_act (decode w) g a c z (sym (read_back s (good_act (decode w) g a).fair) ∙ ap decode u)))
    (λ no. rw no (λ z u. omega arith))))

-- a job that is refused: no line done, no byte written, and store, output and tally as they were
pub record Unchanged (w out : List ℕ) (t : Tally) (j : Finished) : Type 0 where
  pub lines : j.lines ≡ 0
  pub bytes : j.bytes ≡ 0
  pub words : j.words ≡ w
  pub output : j.out ≡ out
  pub tally : j.tally ≡ t

pub refused_job_lem : (w scratch text out : List ℕ) (t : Tally)
    → ((job w scratch text out t).number ≡ 0 → ⊥) → ((job w scratch text out t).number ≡ 10 → ⊥) → Unchanged w out t (job w scratch text out t)
refused_job_lem w scratch text out t =
    job_cases w scratch text out t (λ j. (j.number ≡ 0 → ⊥) → (j.number ≡ 10 → ⊥) → Unchanged w out t j)
    (λ a n m. stays) (λ a b n m. stays) (λ a b c n m. stays)
    (λ a b ok n m. absurd (⊎_elim (λ e. n e.number) (λ s. m s.number) (lines_end (lines_of text) (length out) (started (decode w) t) refl)))
  where
    stays : {n : ℕ} {scratch : List ℕ} → Unchanged w out t (record { number = n; lines = 0; bytes = 0; words = w; out = out; scratch = scratch; tally = t })
    stays = record { lines = refl; bytes = refl; words = refl; output = refl; tally = refl }
