-- Demands 2 and 3 of the program itself, over every sequence of its calls after an accepted Open. A call that meets its contract gives and
-- leaves what the model says, by equations; so a sequence of calls that meet theirs is the model's sequence (`same_words`, `same_events`,
-- `same_tells`), and the model's theorems hold of it. `program_opens` has the numbers of Open, each exactly when. `program_room` is the
-- last sentence of demand 3, of a filing that the program answered; `program_shown` and `program_withdrawn` are what demand 3 says of
-- listings, of a Show and a Withdraw that the program answered. `program_shape` says that limits and bounds are those that the last
-- accepted Open was asked for. `program_buckets`, `program_top` and `program_for_life` tell of the table: when it grew or contracted, that
-- it has no more than the most buckets, and that format and bounds stay.
use mathlib.Core.Path.{◌≡◌, refl, sym, ap, ◌∙◌, subst}
use mathlib.Core.Logic.{◌↔◌}
use mathlib.Core.Bool.{true, cond}
use mathlib.Core.List.{List, [], ◌∷◌, map}
use Prim.Native.Nat.{ℕ, ◌-◌, ◌≤◌}
use lib.Dec.{eqb}
use lib.ListN.{length, take, get_or}
use Rattle.model.specs.Serial.{valid_serial, valid_fault}
use Rattle.model.specs.Shape.{Shape, top_of, need}
use Rattle.model.specs.Layout.{held_at, shape_of, decode_as, decode, sound}
use Rattle.model.specs.Meaning.{buckets_in}
use Rattle.model.specs.Calls.{Terms, shape_for, open_call}
use Rattle.model.specs.Plain.{Book}
use Rattle.model.specs.Runs.{Act, taken, gone, since, Call, Call.opening, Call.acting, words_after, run, Event, Event.opened, events_of, events, history, tell_of, tells, book_after, book_tells}
use Rattle.model.proofs.Demand2.{Agrees, book_of, empty_book}
use Rattle.model.proofs.Look.{look}
use Rattle.model.proofs.Listed.{Listed}
use Rattle.model.proofs.Outcomes.{sound_run, OpenNumbers, open_numbers}
use Rattle.model.proofs.Buckets.{Reorganises, NoneOpened, SameTerms, buckets_by_the_rules, top_holds, kept_for_life}
use Rattle.model.proofs.Demands.{terms_after, last_terms, shape_after, shape_of_the_last_open, Demand3, Demand2, demand3, demand2, demand2_from}
use Rattle.store.specs.Leaves.{Opens}
use Rattle.store.specs.Sequences.{Given, Made, Meets, AllMeet, end_words, seen, seen_of, terms_by, last_asked, told_of}

-- the calls alone
abbrev calls_of : List Made → List Call
calls_of = map (λ m. m.call)

-- one call

pub left_words : (w : List ℕ) (c : Call) (g : Given) → Meets w c g → g.words ≡ words_after w c
left_words w (opening t) g e = e.0.words_are
left_words w (acting scratch act) g e = e.words_are

pub seen_is : (w : List ℕ) (c : Call) (g : Given) → Meets w c g → seen c g ≡ events_of w c
seen_is w (opening t) g e = ap (λ (n : ℕ). cond (eqb n 0) (opened ∷ []) []) e.0.number_is
seen_is w (acting scratch act) g e = rw (e.answer.number_is, e.answer.faults_are)

pub told_is : (w : List ℕ) (c : Call) (g : Given) → Meets w c g → record { number = g.answer.number; faults = g.answer.faults; room = g.room } ≡ tell_of w c
told_is w (opening t) g e = rw (e.0.number_is, e.1, e.2)
told_is w (acting scratch act) g e = rw (e.answer.number_is, e.answer.faults_are, e.room_is)

terms_are : (w : List ℕ) (t : Terms) (c : Call) (g : Given) → Meets w c g → terms_by t c g ≡ terms_after w t c
terms_are w t (opening u) g e = ap (λ (n : ℕ). cond (eqb n 0) u t) e.0.number_is
terms_are w t (acting scratch act) g e = refl

-- the shape that the words tell afterwards: the one asked for by an accepted Open, else the one that was there
pub shape_left : (w : List ℕ) → sound w ≡ true → (t : Terms) → shape_of w ≡ shape_for t → (c : Call) (g : Given) → Meets w c g → shape_of g.words ≡ shape_for (terms_by t c g)
shape_left w ok t h c g e = ap shape_of (left_words w c g e) ∙ shape_after w ok t h c ∙ ap shape_for (sym (terms_are w t c g e))

-- a sequence

same_words : (w : List ℕ) (ms : List Made) → AllMeet w ms → end_words w ms ≡ run w (calls_of ms)
same_words w [] a = refl
same_words w (m ∷ ms) a =
    same_words m.gives.words ms a.1 ∙ ap (λ (v : List ℕ). run v (calls_of ms)) (left_words w m.call m.gives a.0)

same_events : (w : List ℕ) (ms : List Made) → AllMeet w ms → seen_of ms ≡ events w (calls_of ms)
same_events w [] a = refl
same_events w (m ∷ ms) a =
    let e = left_words w m.call m.gives a.0 in
    rw (seen_is w m.call m.gives a.0, ← e, same_events m.gives.words ms a.1)

same_tells : (w : List ℕ) (ms : List Made) → AllMeet w ms → told_of ms ≡ tells w (calls_of ms)
same_tells w [] a = refl
same_tells w (m ∷ ms) a =
    let e = left_words w m.call m.gives a.0 in
    rw (told_is w m.call m.gives a.0, ← e, same_tells m.gives.words ms a.1)

-- the number that Open gave, each exactly when
pub program_opens : (w v : List ℕ) (t : Terms) (k : ℕ) → Opens (open_call w t) k v → OpenNumbers w t k
program_opens w v t k o = subst (OpenNumbers w t) (sym o.number_is) (open_numbers w t)

-- the words of an accepted Open
pub opened_words : (w₀ w : List ℕ) (t : Terms) → Opens (open_call w₀ t) 0 w → ((open_call w₀ t).number ≡ 0) × (w ≡ (open_call w₀ t).words)
opened_words w₀ w t o = (sym o.number_is, o.words_are)

pub program_demand3 : (w₀ w : List ℕ) (t : Terms) → Opens (open_call w₀ t) 0 w → (ms : List Made) → AllMeet w ms → Demand3 (end_words w ms) (seen_of ms)
program_demand3 w₀ w t o ms a =
    let e = opened_words w₀ w t o in
    rw (same_words w ms a, same_events w ms a, e.1) (demand3 w₀ t e.0 (calls_of ms))

-- a Show, and a Withdraw, that the program answered by 0 where the words keep demand 3: what it gave and left lists the history of the serial
pub shown_listed : (w : List ℕ) (es : List Event) → Demand3 w es → (scratch bytes room : List ℕ) (n : ℕ) (g : Given) → Meets w (acting scratch (Act.show bytes n room)) g
    → g.answer.number ≡ 0 → Listed (history (take n bytes) es []) room g.answer.faults g.room
shown_listed w es d scratch bytes room n g e z = rw (e.answer.faults_are, e.room_is) (d.shown scratch bytes n room (sym e.answer.number_is ∙ z))

pub withdrawn_listed : (w : List ℕ) (es : List Event) → Demand3 w es → (scratch bytes room : List ℕ) (n : ℕ) (g : Given) → Meets w (acting scratch (Act.withdraw bytes n room)) g
    → g.answer.number ≡ 0 → Listed (history (take n bytes) es []) room g.answer.faults g.room
withdrawn_listed w es d scratch bytes room n g e z = rw (e.answer.faults_are, e.room_is) (d.withdrawn scratch bytes n room (sym e.answer.number_is ∙ z))

-- so after every sequence of calls: each fault that was accepted for the serial since its card was last entered, as often, by rising day
pub program_shown : (w₀ w : List ℕ) (t : Terms) → Opens (open_call w₀ t) 0 w → (ms : List Made) → AllMeet w ms
    → (scratch bytes room : List ℕ) (n : ℕ) (g : Given) → Meets (end_words w ms) (acting scratch (Act.show bytes n room)) g
    → g.answer.number ≡ 0 → Listed (history (take n bytes) (seen_of ms) []) room g.answer.faults g.room
program_shown w₀ w t o ms a = shown_listed (end_words w ms) (seen_of ms) (program_demand3 w₀ w t o ms a)

pub program_withdrawn : (w₀ w : List ℕ) (t : Terms) → Opens (open_call w₀ t) 0 w → (ms : List Made) → AllMeet w ms
    → (scratch bytes room : List ℕ) (n : ℕ) (g : Given) → Meets (end_words w ms) (acting scratch (Act.withdraw bytes n room)) g
    → g.answer.number ≡ 0 → Listed (history (take n bytes) (seen_of ms) []) room g.answer.faults g.room
program_withdrawn w₀ w t o ms a = withdrawn_listed (end_words w ms) (seen_of ms) (program_demand3 w₀ w t o ms a)

same_terms : (w : List ℕ) (t : Terms) (ms : List Made) → AllMeet w ms → last_asked t ms ≡ last_terms w t (calls_of ms)
same_terms w t [] a = refl
same_terms w t (m ∷ ms) a =
    let e = left_words w m.call m.gives a.0 in
    ap (λ (u : Terms). last_asked u ms) (terms_are w t m.call m.gives a.0)
    ∙ same_terms m.gives.words (terms_after w t m.call) ms a.1
    ∙ ap (λ (v : List ℕ). last_terms v (terms_after w t m.call) (calls_of ms)) e

-- the words tell the limits and the bounds that the last accepted Open was asked for
pub program_shape : (w₀ w : List ℕ) (t : Terms) → Opens (open_call w₀ t) 0 w → (ms : List Made) → AllMeet w ms → shape_of (end_words w ms) ≡ shape_for (last_asked t ms)
program_shape w₀ w t o ms a =
    let q = opened_words w₀ w t o in
    rw (same_words w ms a, same_terms w t ms a, q.1) (shape_of_the_last_open w₀ t q.0 (calls_of ms))

-- a further filing, otherwise in order, is answered by 9 exactly when faults accepted less faults gone are the fault limit that the last accepted Open was asked for
pub program_room : (w₀ w : List ℕ) (t : Terms) → Opens (open_call w₀ t) 0 w → (ms : List Made) → AllMeet w ms
    → (scratch bytes : List ℕ) (n day code : ℕ) (g : Given) → Meets (end_words w ms) (acting scratch (Act.file bytes n day code)) g
    → need (shape_of (end_words w ms)) ≤ length scratch → valid_serial bytes n ≡ true → valid_fault day code ≡ true → length (look (decode (end_words w ms)) (take n bytes)) ≡ 1
    → (g.answer.number ≡ 9) ↔ (since taken (seen_of ms) 0 - since gone (seen_of ms) 0 ≡ (last_asked t ms).faults)
unfolding decode_as shape_for
program_room w₀ w t o ms a scratch bytes n day code g e h v u l =
    let limit : (decode (end_words w ms)).shape.fault_limit ≡ (last_asked t ms).faults = ap (λ (sh : Shape). sh.fault_limit) (program_shape w₀ w t o ms a) in
    rw (e.answer.number_is, ← limit) ((program_demand3 w₀ w t o ms a).room scratch bytes n day code h v u l)

-- each answer is that of a plain list, and the store and the list agree on every serial at the end
pub record AsList (w : List ℕ) (b : Book) (ms : List Made) : Type 0 where
  pub answers : told_of ms ≡ book_tells b (calls_of ms)
  pub agrees : Agrees (book_after b (calls_of ms)) (decode (end_words w ms))

as_list : (w : List ℕ) (b : Book) (ms : List Made) → AllMeet w ms → Demand2 w b (calls_of ms) → AsList w b ms
as_list w b ms a d = record { answers = same_tells w ms a ∙ d.same_tells; agrees = rw (same_words w ms a) d.agrees }

-- from an accepted Open on, with an empty list
pub program_demand2 : (w₀ w : List ℕ) (t : Terms) → Opens (open_call w₀ t) 0 w → (ms : List Made) → AllMeet w ms → AsList w (empty_book (shape_for t)) ms
program_demand2 w₀ w t o ms a =
    let e = opened_words w₀ w t o in as_list w (empty_book (shape_for t)) ms a (rw e.1 (demand2 w₀ t e.0 (calls_of ms)))

-- from any sound store on, with the list of its own cards
pub program_demand2_from : (w : List ℕ) → sound w ≡ true → (ms : List Made) → AllMeet w ms → AsList w (book_of (decode w)) ms
program_demand2_from w ok ms a = as_list w (book_of (decode w)) ms a (demand2_from w ok (calls_of ms))

-- the table, over any bounds, read off the words that the program left: a call made one bucket more, one fewer or none exactly by the rules
pub program_buckets : (w : List ℕ) → sound w ≡ true → (scratch : List ℕ) (a : Act) (g : Given) → Meets w (acting scratch a) g
    → Reorganises a (shape_of w) g.answer.number (get_or g.words held_at 0) (buckets_in w) (buckets_in g.words)
program_buckets w ok scratch a g e = rw (e.words_are, e.answer.number_is) (buckets_by_the_rules w ok scratch a)

-- from any sound store on there are never more than the most buckets
pub program_top : (w : List ℕ) → sound w ≡ true → (ms : List Made) → AllMeet w ms → buckets_in (end_words w ms) ≤ top_of (shape_of (end_words w ms))
program_top w ok ms a = rw (same_words w ms a) (top_holds (run w (calls_of ms)) (sound_run w ok (calls_of ms)))

-- and where no Open was answered by 0 among the calls, the words for the format and the bounds stay
pub program_for_life : (w : List ℕ) → sound w ≡ true → (ms : List Made) → AllMeet w ms → NoneOpened (seen_of ms) → SameTerms w (end_words w ms)
program_for_life w ok ms a n = rw (same_words w ms a) (kept_for_life w ok (calls_of ms) (rw (← (same_events w ms a)) n))
