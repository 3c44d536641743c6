-- Demands 2 and 3 on words, over every list of calls after an accepted Open: acts and further openings in any order, refused ones and
-- ones with short scratch included. Each call is, by `call_cases` and `open_cases`, nothing, a fresh store, or the act on the store that
-- the words stand for; so what holds of one act holds of one call (`kept_call`, `book_call_lem`), and a run of calls is a fold of that.
-- `demand3`: the words stay sound, each held card's history is what calls and answers alone tell of its serial, faults accepted are
-- those held and those gone, 9 is answered exactly when the first less the last is the fault limit, which is the one that the last
-- accepted Open was asked for (`limit_of_the_last_open`), and Show and Withdraw list the faults of that history, each as often.
-- `demand2`: every call tells what a plain list of cards would tell, and after every call the store holds under each serial what that list
-- holds; `demand2_from`: the same from any sound store on, with its own cards as the list.
use Prim.Native.Nat.{ℕ, ◌+◌, ◌-◌, ◌≤◌}
use mathlib.Core.Path.{◌≡◌, refl, sym, ap, ◌∙◌}
use mathlib.Core.Logic.{◌↔◌}
use mathlib.Core.List.{List, [], ◌∷◌, ◌++◌, map, append-nil, append_assoc, Memᴰ}
use mathlib.Core.Bool.{true, cond}
use native.Mathlib.Omega.{arith}
use lib.Dec.{eqb}
use lib.ListN.{length, take}
use borrow.Author.Tests.{eq-eqb, ne_eqb, lt-ltb, le-ltb}
use Rattle.model.specs.Serial.{valid_serial, valid_fault}
use Rattle.model.specs.Model.{Card, cards, faults_held, fresh}
use Rattle.model.specs.Shape.{Shape, need}
use Rattle.model.specs.Layout.{shape_ok, shape_of, length_for, encode, decode_as, decode, sound}
use Rattle.model.specs.Calls.{Terms, shape_for, open_call}
use Rattle.model.specs.Plain.{slip, Book, Reply, book_open}
use Rattle.model.specs.Runs.{Act.file, Act.show, Act.withdraw, perform, Call, Call.opening, Call.acting, outcome, words_after, run, Event, Event.opened, Event.answered, events_of, events, history, taken, gone, since, Tell, tell_of, tells, book_call, book_after, book_tells}
use Rattle.model.proofs.Look.{look}
use Rattle.model.proofs.Rep.{rep_encode}
use Rattle.model.proofs.Decode.{shape_at}
use Rattle.model.proofs.Sound.{sound_is, sound_good}
use Rattle.model.proofs.Fresh.{fair_fresh, fresh_sound}
use Rattle.model.proofs.Listed.{Listed}
use Rattle.model.proofs.Demand3.{good_act, Kept, kept_fresh, kept_open, kept_act, kept_refused, kept_card, kept_room, kept_shown, kept_withdrawn}
use Rattle.model.proofs.Demand2.{Agrees, book_of, plain_agrees, empty_book, fresh_agrees, call_match}
use Rattle.model.proofs.Outcomes.{read_back, open_cases, call_cases, opened_fresh, sound_call, shape_call, sound_run}

-- demand 3

pub kept_call : (w : List ℕ) → sound w ≡ true → (es : List Event) → Kept (decode w) es → (c : Call) → Kept (decode (words_after w c)) (es ++ events_of w c)
kept_call w ok es k (opening t) =
    open_cases w t (λ r. Kept (decode r.words) (es ++ cond (eqb r.number 0) (opened ∷ []) []))
    (λ v. rw (append-nil es) k) (λ v u. rw (append-nil es) k) (λ o v n. rw (append-nil es) k) (λ o v l. rw (read_back (fresh (shape_for t)) (fair_fresh (shape_for t) o)) (kept_open es (shape_for t) o))
kept_call w ok es k (acting scratch a) =
    call_cases w scratch a ok (λ r. Kept (decode r.words) (es ++ (answered a r.answer.number r.answer.faults ∷ [])))
    (λ h. kept_refused k a 11 0 refl)
    (λ h. rw (read_back (perform (decode w) a).store (good_act (decode w) k.good a).fair) (kept_act k a))

pub kept_run : (w : List ℕ) → sound w ≡ true → (es : List Event) → Kept (decode w) es → (cs : List Call) → Kept (decode (run w cs)) (es ++ events w cs)
kept_run w ok es k [] = rw (append-nil es) k
kept_run w ok es k (c ∷ cs) =
    rw (← (append_assoc es (events_of w c) (events (words_after w c) cs))) (kept_run (words_after w c) (sound_call w ok c) (es ++ events_of w c) (kept_call w ok es k c) cs)

-- what demand 3 asks of words w after the events es
pub record Demand3 (w : List ℕ) (es : List Event) : Type 0 where
  pub stays_sound : sound w ≡ true
  -- each held card's history: the faults accepted for its serial since that card was last entered, in filing order
  pub each : (c : Card) → Memᴰ c (cards (decode w)) → map slip c.faults ≡ history c.serial es []
  -- faults accepted are those gone with withdrawn cards and the sum of all held histories
  pub conserved : since taken es 0 ≡ faults_held (decode w) + since gone es 0
  -- a filing that is otherwise in order is refused for room exactly when faults accepted less faults gone are the fault limit
  pub room : (scratch bytes : List ℕ) (n day code : ℕ) → need (shape_of w) ≤ length scratch → valid_serial bytes n ≡ true → valid_fault day code ≡ true
      → length (look (decode w) (take n bytes)) ≡ 1
      → ((outcome w scratch (file bytes n day code)).answer.number ≡ 9) ↔ (since taken es 0 - since gone es 0 ≡ (decode w).shape.fault_limit)
  -- what a done Show lists, and a done Withdraw: the faults of that history, each as often, by rising day and those of one day as filed
  pub shown : (scratch bytes : List ℕ) (n : ℕ) (room : List ℕ) → let o = outcome w scratch (show bytes n room) in
      o.answer.number ≡ 0 → Listed (history (take n bytes) es []) room o.answer.faults o.room
  pub withdrawn : (scratch bytes : List ℕ) (n : ℕ) (room : List ℕ) → let o = outcome w scratch (withdraw bytes n room) in
      o.answer.number ≡ 0 → Listed (history (take n bytes) es []) room o.answer.faults o.room

pub kept_demand3 : (w : List ℕ) → sound w ≡ true → (es : List Event) → Kept (decode w) es → Demand3 w es
kept_demand3 w ok es k =
    record {
      stays_sound = ok;
      each = kept_card k;
      conserved = k.conserved;
      room = λ scratch bytes n day code enough v u l.
          call_cases w scratch (file bytes n day code) ok (λ r. (r.answer.number ≡ 9) ↔ (since taken es 0 - since gone es 0 ≡ (decode w).shape.fault_limit))
          (λ h. absurd (omega arith)) (λ h. kept_room k bytes n day code v u l);
      shown = λ scratch bytes n room.
          call_cases w scratch (show bytes n room) ok (λ r. r.answer.number ≡ 0 → Listed (history (take n bytes) es []) room r.answer.faults r.room)
          (λ h e. absurd (omega arith)) (λ h. kept_shown k bytes n room);
      withdrawn = λ scratch bytes n room.
          call_cases w scratch (withdraw bytes n room) ok (λ r. r.answer.number ≡ 0 → Listed (history (take n bytes) es []) room r.answer.faults r.room)
          (λ h e. absurd (omega arith)) (λ h. kept_withdrawn k bytes n room);
    }

pub demand3 : (w : List ℕ) (t : Terms) → (open_call w t).number ≡ 0 → (cs : List Call)
    → Demand3 (run (open_call w t).words cs) (events (open_call w t).words cs)
demand3 w t e cs =
    let o = opened_fresh w t e in
    let ok = fresh_sound (shape_for t) o.0 in
    let k : Kept (decode (encode (fresh (shape_for t)))) [] = rw (read_back (fresh (shape_for t)) (fair_fresh (shape_for t) o.0)) (kept_fresh (shape_for t) o.0) in
    rw o.1 (kept_demand3 (run (encode (fresh (shape_for t))) cs) (sound_run (encode (fresh (shape_for t))) ok cs) (events (encode (fresh (shape_for t))) cs) (kept_run (encode (fresh (shape_for t))) ok [] k cs))

-- the terms of the last accepted Open of some calls on the words w; where none is accepted, the terms t that they were opened with
abbrev pub terms_after : List ℕ → Terms → Call → Terms
terms_after w t (opening u) = cond (eqb (open_call w u).number 0) u t
terms_after w t (acting scratch a) = t

abbrev pub last_terms : List ℕ → Terms → List Call → Terms
last_terms w t [] = t
last_terms w t (c ∷ cs) = last_terms (words_after w c) (terms_after w t c) cs

fresh_shape : (t : Terms) → shape_ok (shape_for t) ≡ true → shape_of (encode (fresh (shape_for t))) ≡ shape_for t
unfolding fresh
fresh_shape t ok = let s = fresh (shape_for t) in shape_at (encode s) s (rep_encode s (fair_fresh (shape_for t) ok))

-- one call leaves the shape that it was asked for, if it is an accepted Open, else the shape that was there
pub shape_after : (w : List ℕ) → sound w ≡ true → (t : Terms) → shape_of w ≡ shape_for t → (c : Call) → shape_of (words_after w c) ≡ shape_for (terms_after w t c)
shape_after w ok t h (opening u) =
    open_cases w u (λ r. shape_of r.words ≡ shape_for (cond (eqb r.number 0) u t)) (λ v. h) (λ v b. h) (λ o v n. h) (λ o v l. fresh_shape u o)
shape_after w ok t h (acting scratch a) = shape_call w ok scratch a ∙ h

shape_run : (w : List ℕ) → sound w ≡ true → (t : Terms) → shape_of w ≡ shape_for t → (cs : List Call) → shape_of (run w cs) ≡ shape_for (last_terms w t cs)
shape_run w ok t h [] = h
shape_run w ok t h (c ∷ cs) = shape_run (words_after w c) (sound_call w ok c) (terms_after w t c) (shape_after w ok t h c) cs

-- the words tell the limits and the bounds that the last accepted Open was asked for
pub shape_of_the_last_open : (w : List ℕ) (t : Terms) → (open_call w t).number ≡ 0 → (cs : List Call)
    → shape_of (run (open_call w t).words cs) ≡ shape_for (last_terms (open_call w t).words t cs)
shape_of_the_last_open w t e cs =
    let o = opened_fresh w t e in
    rw o.1 (shape_run (encode (fresh (shape_for t))) (fresh_sound (shape_for t) o.0) t (fresh_shape t o.0) cs)

-- so the fault limit in `room` is the one that it was asked for
pub limit_of_the_last_open : (w : List ℕ) (t : Terms) → (open_call w t).number ≡ 0 → (cs : List Call)
    → (decode (run (open_call w t).words cs)).shape.fault_limit ≡ (last_terms (open_call w t).words t cs).faults
unfolding decode_as shape_for
limit_of_the_last_open w t e cs = ap (λ (sh : Shape). sh.fault_limit) (shape_of_the_last_open w t e cs)

-- demand 2

-- what a reply tells
abbrev pub tell_by : Reply → Tell
tell_by r = record { number = r.number; faults = r.faults; room = r.room }

-- a call that tells t and leaves the words w did as the list did
pub record AsBook (t : Tell) (w : List ℕ) (r : Reply) : Type 0 where
  pub tell : t ≡ tell_by r
  pub agrees : Agrees r.book (decode w)

pub book_call_lem : (w : List ℕ) → sound w ≡ true → (b : Book) → Agrees b (decode w) → (c : Call) → AsBook (tell_of w c) (words_after w c) (book_call b c)
unfolding book_open decode_as
book_call_lem w ok b a (opening t) =
    let sh = shape_for t in
    let long : length w ≡ length_for b.shape = rw a.shape (sound_is w ok).0.long in
    open_cases w t (λ r. AsBook (record { number = r.number; faults = 0; room = [] }) r.words (book_open b t))
    (λ v. rw v (record { tell = refl; agrees = a }))
    (λ v u. rw (v, u) (record { tell = refl; agrees = a }))
    (λ o v n. rw (v.limits, v.bounds, ne_eqb (length_for b.shape) (length_for sh) (λ e. n (long ∙ e))) (record { tell = refl; agrees = a }))
    (λ o v l. rw (v.limits, v.bounds, eq-eqb (length_for b.shape) (length_for sh) (sym long ∙ l))
    (record { tell = refl; agrees = rw (read_back (fresh (shape_for t)) (fair_fresh (shape_for t) o)) (fresh_agrees (shape_for t) o) }))
book_call_lem w ok b a (acting scratch act) =
    call_cases w scratch act ok
    (λ r. AsBook (record { number = r.answer.number; faults = r.answer.faults; room = r.room }) r.words (book_call b (acting scratch act)))
    (λ h. rw (lt-ltb (length scratch) (need b.shape) (rw a.shape h)) (record { tell = refl; agrees = a }))
    (λ h. let g = (sound_good w ok).0 in
    let m = call_match b (decode w) g a act in
    rw (le-ltb (length scratch) (need b.shape) (rw a.shape h))
    (record { tell = rw (m.number, m.faults, m.room); agrees = rw (read_back (perform (decode w) act).store (good_act (decode w) g act).fair) m.agrees }))

-- what demand 2 asks of words w and calls cs beside the list b
pub record Demand2 (w : List ℕ) (b : Book) (cs : List Call) : Type 0 where
  -- each call tells what the list would tell
  pub same_tells : tells w cs ≡ book_tells b cs
  -- and under each serial the store holds what the list holds
  pub agrees : Agrees (book_after b cs) (decode (run w cs))

pub book_run : (w : List ℕ) → sound w ≡ true → (b : Book) → Agrees b (decode w) → (cs : List Call) → Demand2 w b cs
book_run w ok b a [] = record { same_tells = refl; agrees = a }
book_run w ok b a (c ∷ cs) =
    let r = book_call_lem w ok b a c in
    let d = book_run (words_after w c) (sound_call w ok c) (book_call b c).book r.agrees cs in
    record { same_tells = rw (r.tell, d.same_tells); agrees = d.agrees }

-- from any sound store on, the list that it starts with being the store's own
pub demand2_from : (w : List ℕ) → sound w ≡ true → (cs : List Call) → Demand2 w (book_of (decode w)) cs
demand2_from w ok cs = book_run w ok (book_of (decode w)) (plain_agrees (decode w) (sound_good w ok).0.fair) cs

-- from an accepted Open on, the list being empty
pub demand2 : (w : List ℕ) (t : Terms) → (open_call w t).number ≡ 0 → (cs : List Call) → Demand2 (open_call w t).words (empty_book (shape_for t)) cs
demand2 w t e cs =
    let o = opened_fresh w t e in
    let a : Agrees (empty_book (shape_for t)) (decode (encode (fresh (shape_for t)))) = rw (read_back (fresh (shape_for t)) (fair_fresh (shape_for t) o.0)) (fresh_agrees (shape_for t) o.0) in
    rw o.1 (book_run (encode (fresh (shape_for t))) (fresh_sound (shape_for t) o.0) (empty_book (shape_for t)) a cs)
