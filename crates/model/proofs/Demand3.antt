-- Demand 3 for the store as lists, one act at a time. `Kept s es`: the store s is good and holds what the events es tell, and no more.
-- Each serial's history is the one that the events tell of it, since an entry starts it empty, a filing adds its fault at the end, a
-- withdrawal takes it away, and nothing else touches it; and the faults taken in are those held and those gone with their cards.
-- An act carries it on (`kept_act`), and so do a refusal (`kept_refused`) and an opening (`kept_open`); so it holds along any run of
-- calls. From it: what each card held has for a history (`kept_card`), that File answers 9 exactly when the faults taken in, less
-- those gone, are as many as the fault limit (`kept_room`), and that Show and Withdraw list that history (`kept_shown`, `kept_withdrawn`).
use Prim.Native.Nat.{ℕ, ◌+◌, ◌-◌}
use mathlib.Core.Path.{◌≡◌, refl, sym, ap, ◌∙◌}
use mathlib.Core.Logic.{◌↔◌}
use mathlib.Core.List.{List, [], ◌∷◌, ◌++◌, map, append-nil, Memᴰ}
use mathlib.Core.Bool.{true, false, cond}
use native.Mathlib.Omega.{arith}
use lib.Dec.{eqb}
use lib.ListN.{length, take, length-append}
use Rattle.rules.proofs.Tests.{by_cases}
use Rattle.model.specs.Lists.{same}
use Rattle.model.specs.Serial.{valid_serial, valid_fault}
use Rattle.model.specs.Shape.{Shape}
use Rattle.model.specs.Model.{Fault, Card, Store, cards, histories, faults_held, with_fault, new_fault, fresh, entered, filed, withdrawn, history_in}
use Rattle.model.specs.Layout.{shape_ok}
use Rattle.model.specs.Calls.{Step, written}
use Rattle.model.specs.Plain.{Slip, slip}
use Rattle.model.specs.Runs.{Act, Act.enter, Act.file, Act.show, Act.withdraw, perform, Event, Event.opened, Event.answered, told, history, taken, gone, since}
use Rattle.model.proofs.Lists.{same_eq, same_sym, map_append}
use Rattle.model.proofs.Listed.{Listed, written_listed}
use Rattle.model.proofs.Fair.{filings, Good, faults_total}
use Rattle.model.proofs.Look.{look, card_look}
use Rattle.model.proofs.Steps.{filed_look, filed_total}
use Rattle.model.proofs.Accepted.{entered_shape, filed_shape, withdrawn_shape, entered_good, entered_look, entered_total, filed_good, withdrawn_good, withdrawn_look, withdrawn_total, fresh_good, fresh_look}
use Rattle.model.proofs.Valid.{valid_serial_lem}
use Rattle.model.proofs.Cases.{enter_cases, file_cases, show_cases, withdraw_cases}
use Rattle.model.proofs.Numbers.{file_numbers}

-- every act leaves a good store good
pub good_act : (s : Store) → Good s → (a : Act) → Good (perform s a).store
good_act s g (enter bytes n) =
    enter_cases s g bytes n (λ r. Good r.store) (λ v. g) (λ v l. g) (λ v l f. g)
    (λ v l f. entered_good s g (take n bytes) (valid_serial_lem bytes n v) l f)
good_act s g (file bytes n day code) =
    file_cases s g bytes n (λ r. Good r.store) day code (λ v. g) (λ v w. g) (λ v w l. g) (λ v w l f. g)
    (λ v w l f. filed_good s g (take n bytes) day code w l f)
good_act s g (show bytes n room) = show_cases s g bytes n (λ r. Good r.store) room (λ v. g) (λ v l. g) (λ v l f. g) (λ v l f. g)
good_act s g (withdraw bytes n room) =
    withdraw_cases s g bytes n (λ r. Good r.store) room (λ v. g) (λ v l. g) (λ v l f. g) (λ v l f. withdrawn_good s g (take n bytes) l)

-- and with the shape that it had
pub shape_act : (s : Store) → Good s → (a : Act) → (perform s a).store.shape ≡ s.shape
shape_act s g (enter bytes n) =
    enter_cases s g bytes n (λ r. r.store.shape ≡ s.shape) (λ v. refl) (λ v l. refl) (λ v l f. refl) (λ v l f. entered_shape s (take n bytes))
shape_act s g (file bytes n day code) =
    file_cases s g bytes n (λ r. r.store.shape ≡ s.shape) day code (λ v. refl) (λ v w. refl) (λ v w l. refl) (λ v w l f. refl)
    (λ v w l f. filed_shape s (take n bytes) day code)
shape_act s g (show bytes n room) =
    show_cases s g bytes n (λ r. r.store.shape ≡ s.shape) room (λ v. refl) (λ v l. refl) (λ v l f. refl) (λ v l f. refl)
shape_act s g (withdraw bytes n room) =
    withdraw_cases s g bytes n (λ r. r.store.shape ≡ s.shape) room (λ v. refl) (λ v l. refl) (λ v l f. refl) (λ v l f. withdrawn_shape s (take n bytes))

-- the history of a serial in a store: empty if it is not held
abbrev pub history_of : Store → List ℕ → List Slip
history_of s x = map slip (history_in s x)

filed_one : (f : Fault) (l : List Card) → length l ≡ 1 → map slip (histories (map (with_fault f) l)) ≡ map slip (histories l) ++ (slip f ∷ [])
filed_one f [] e = absurd (omega arith)
filed_one f (c ∷ []) e = rw (append-nil (c.faults ++ (f ∷ [])), append-nil c.faults) (map_append slip c.faults (f ∷ []))
filed_one f (c ∷ d ∷ l) e = absurd (omega arith)

-- what is known outside of an act and its step
abbrev pub event : Act → Step → Event
event a r = answered a r.answer.number r.answer.faults

-- the history of each serial after an act is what its answer tells
pub history_act : (s : Store) → Good s → (a : Act) (x : List ℕ) → history_of (perform s a).store x ≡ history x (event a (perform s a) ∷ []) (history_of s x)
history_act s g (enter bytes n) x =
    enter_cases s g bytes n (λ r. history_of r.store x ≡ history x (event (enter bytes n) r ∷ []) (history_of s x))
    (λ v. refl) (λ v l. refl) (λ v l f. refl)
    (λ v l f. rw (entered_look s g.fair (take n bytes) (valid_serial_lem bytes n v) l f x)
    (by_cases (same x (take n bytes)) (λ e. rw (e, same_eq x (take n bytes) e, l)) (λ e. rw (e, append-nil (look s x)))))
history_act s g (file bytes n day code) x =
    file_cases s g bytes n (λ r. history_of r.store x ≡ history x (event (file bytes n day code) r ∷ []) (history_of s x)) day code
    (λ v. refl) (λ v w. refl) (λ v w l. refl) (λ v w l f. refl)
    (λ v w l f. rw (filed_look s g.fair (take n bytes) day code x, same_sym (take n bytes) x)
    (by_cases (same x (take n bytes))
    (λ e. rw e (filed_one (new_fault s day code) (look s x) (rw (same_eq x (take n bytes) e) l)))
    (λ e. rw e)))
history_act s g (show bytes n room) x =
    show_cases s g bytes n (λ r. history_of r.store x ≡ history x (event (show bytes n room) r ∷ []) (history_of s x)) room (λ v. refl) (λ v l. refl) (λ v l f. refl) (λ v l f. refl)
history_act s g (withdraw bytes n room) x =
    withdraw_cases s g bytes n (λ r. history_of r.store x ≡ history x (event (withdraw bytes n room) r ∷ []) (history_of s x)) room
    (λ v. refl) (λ v l. refl) (λ v l f. refl)
    (λ v l f. rw (withdrawn_look s g.fair (take n bytes) x, same_sym (take n bytes) x) (by_cases (same x (take n bytes)) (λ e. rw e) (λ e. rw e)))

-- what was held and taken in is what is held and what went with a card
pub faults_act : (s : Store) → Good s → (a : Act)
    → faults_held (perform s a).store + since gone (event a (perform s a) ∷ []) 0 ≡ faults_held s + since taken (event a (perform s a) ∷ []) 0
faults_act s g (enter bytes n) =
    enter_cases s g bytes n (λ r. faults_held r.store + since gone (event (enter bytes n) r ∷ []) 0 ≡ faults_held s + since taken (event (enter bytes n) r ∷ []) 0)
    (λ v. refl) (λ v l. refl) (λ v l f. refl)
    (λ v l f. omega (arith, entered_total s g.fair (take n bytes) (valid_serial_lem bytes n v) l f filings, faults_total (cards s), faults_total (cards (entered s (take n bytes)))))
faults_act s g (file bytes n day code) =
    file_cases s g bytes n (λ r. faults_held r.store + since gone (event (file bytes n day code) r ∷ []) 0 ≡ faults_held s + since taken (event (file bytes n day code) r ∷ []) 0) day code
    (λ v. refl) (λ v w. refl) (λ v w l. refl) (λ v w l f. refl)
    (λ v w l f. omega (arith, filed_total s g.fair (take n bytes) day code filings 1 (λ c. length-append c.faults _) l, faults_total (cards s), faults_total (cards (filed s (take n bytes) day code))))
faults_act s g (show bytes n room) =
    show_cases s g bytes n (λ r. faults_held r.store + since gone (event (show bytes n room) r ∷ []) 0 ≡ faults_held s + since taken (event (show bytes n room) r ∷ []) 0) room
    (λ v. refl) (λ v l. refl) (λ v l f. refl) (λ v l f. refl)
faults_act s g (withdraw bytes n room) =
    withdraw_cases s g bytes n (λ r. faults_held r.store + since gone (event (withdraw bytes n room) r ∷ []) 0 ≡ faults_held s + since taken (event (withdraw bytes n room) r ∷ []) 0) room
    (λ v. refl) (λ v l. refl) (λ v l f. refl)
    (λ v l f. omega (arith, withdrawn_total s g.fair (take n bytes) filings, faults_total (look s (take n bytes)), faults_total (cards s), faults_total (cards (withdrawn s (take n bytes)))))

-- events one behind another

pub history_append : (x : List ℕ) (es fs : List Event) (h : List Slip) → history x (es ++ fs) h ≡ history x fs (history x es h)
history_append x [] fs h = refl
history_append x (opened ∷ es) fs h = history_append x es fs []
history_append x (answered a k f ∷ es) fs h = history_append x es fs (cond (eqb k 0) (told x a h) h)

pub since_append : (w : Act → ℕ → ℕ) (es fs : List Event) (n : ℕ) → since w (es ++ fs) n ≡ since w fs (since w es n)
since_append w [] fs n = refl
since_append w (opened ∷ es) fs n = since_append w es fs 0
since_append w (answered a k f ∷ es) fs n = since_append w es fs (n + cond (eqb k 0) (w a f) 0)

-- the store holds what the events tell
pub record Kept (s : Store) (es : List Event) : Type 0 where
  pub good : Good s
  -- of each serial: the faults accepted for it since its card was last entered, in filing order; none if it is not held
  pub tells : (x : List ℕ) → history_of s x ≡ history x es []
  -- faults accepted are those held and those gone with withdrawn cards
  pub conserved : since taken es 0 ≡ faults_held s + since gone es 0

pub kept_fresh : (sh : Shape) → shape_ok sh ≡ true → Kept (fresh sh) []
unfolding fresh
kept_fresh sh ok = record { good = fresh_good sh ok; tells = λ x. rw (fresh_look sh ok x); conserved = refl }

-- opening starts the count anew
pub kept_open : (es : List Event) (sh : Shape) → shape_ok sh ≡ true → Kept (fresh sh) (es ++ (opened ∷ []))
kept_open es sh ok =
    let k = kept_fresh sh ok in
    record {
      good = k.good;
      tells = λ x. k.tells x ∙ sym (history_append x es (opened ∷ []) []);
      conserved = omega (arith, k.conserved, since_append taken es (opened ∷ []) 0, since_append gone es (opened ∷ []) 0);
    }

module _ {s : Store} {es : List Event} (k : Kept s es) where
  pub kept_act : (a : Act) → Kept (perform s a).store (es ++ (event a (perform s a) ∷ []))
  kept_act a =
      let e = event a (perform s a) ∷ [] in
      record {
        good = good_act s k.good a;
        tells = λ x. history_act s k.good a x ∙ ap (λ (h : List Slip). history x e h) (k.tells x) ∙ sym (history_append x es e []);
        conserved = omega (arith, k.conserved, faults_act s k.good a, since_append taken es e 0, since_append gone es e 0);
      }

  -- a refused call, whatever it is refused for, tells nothing
  pub kept_refused : (a : Act) (n f : ℕ) → eqb n 0 ≡ false → Kept s (es ++ (answered a n f ∷ []))
  kept_refused a n f no0 =
      record {
        good = k.good;
        tells = λ x. k.tells x ∙ sym (history_append x es (answered a n f ∷ []) [] ∙ rw no0);
        conserved = omega (arith, k.conserved, rw no0 at (since_append taken es (answered a n f ∷ []) 0), rw no0 at (since_append gone es (answered a n f ∷ []) 0));
      }

  pub kept_card : (c : Card) → Memᴰ c (cards s) → map slip c.faults ≡ history c.serial es []
  kept_card c m = rw (card_look s k.good.fair c m, append-nil c.faults) at (k.tells c.serial)

  pub kept_room : (bytes : List ℕ) (n day code : ℕ) → valid_serial bytes n ≡ true → valid_fault day code ≡ true → length (look s (take n bytes)) ≡ 1
      → ((perform s (file bytes n day code)).answer.number ≡ 9) ↔ (since taken es 0 - since gone es 0 ≡ s.shape.fault_limit)
  kept_room bytes n day code v w l =
      let r = (file_numbers s k.good bytes n day code).full in
      let c = k.conserved in
      (λ e. omega (arith, (r.0 e).3), λ e. r.1 (v, w, l, omega arith))

  listed : (x room : List ℕ) → Listed (history x es []) room (length (history_in s x)) (written (history_in s x) room)
  listed x room = rw (← (k.tells x)) (written_listed (history_in s x) room)

  -- a done Show, and a done Withdraw, list the history that the events tell
  pub kept_shown : (bytes : List ℕ) (n : ℕ) (room : List ℕ) → (perform s (show bytes n room)).answer.number ≡ 0
      → Listed (history (take n bytes) es []) room (perform s (show bytes n room)).answer.faults (perform s (show bytes n room)).room
  kept_shown bytes n room =
      show_cases s k.good bytes n (λ r. r.answer.number ≡ 0 → Listed (history (take n bytes) es []) room r.answer.faults r.room) room
      (λ v e. absurd (omega arith)) (λ v l e. absurd (omega arith)) (λ v l f e. absurd (omega arith)) (λ v l f e. listed (take n bytes) room)

  pub kept_withdrawn : (bytes : List ℕ) (n : ℕ) (room : List ℕ) → (perform s (withdraw bytes n room)).answer.number ≡ 0
      → Listed (history (take n bytes) es []) room (perform s (withdraw bytes n room)).answer.faults (perform s (withdraw bytes n room)).room
  kept_withdrawn bytes n room =
      withdraw_cases s k.good bytes n (λ r. r.answer.number ≡ 0 → Listed (history (take n bytes) es []) room r.answer.faults r.room) room
      (λ v e. absurd (omega arith)) (λ v l e. absurd (omega arith)) (λ v l f e. absurd (omega arith)) (λ v l f e. listed (take n bytes) room)
