-- Demand 2 for the store as lists, one act at a time: beside a plain list of cards that agrees with the store (`Agrees`: for each serial
-- the list has what the store has, and the counts are equal), an act gives the number, the faults and the pairs that the list would
-- give, and the two agree again (`call_match`). The tests of both read the same three things: what stands under the serial, how
-- many cards there are, how many faults. The store's own cards, as a list, are such a list (`plain_agrees`).
use Prim.Native.Nat.{ℕ, ◌*◌, ◌<◌}
use mathlib.Core.Path.{◌≡◌, refl, sym, ap, ◌∙◌}
use mathlib.Core.List.{List, [], ◌∷◌, ◌++◌, map, append-nil}
use mathlib.Core.Bool.{true, not, cond}
use native.Mathlib.Omega.{arith}
use lib.ListN.{length, take, length-append, length-map}
use borrow.Author.Tests.{eq-eqb, ne_eqb, lt-ltb, le-ltb}
use Rattle.rules.proofs.Tests.{by_cases}
use Rattle.model.specs.Lists.{same, keep, total}
use Rattle.model.specs.Serial.{serial_ok}
use Rattle.model.specs.Shape.{Shape}
use Rattle.model.specs.Model.{Fault, Card, Store, cards, histories, held, faults_held, new_card, new_fault, with_fault, history_in, fresh, entered, filed, withdrawn}
use Rattle.model.specs.Layout.{shape_ok}
use Rattle.model.specs.Calls.{Step, enter_step, file_step, show_step, withdraw_step}
use Rattle.model.specs.Plain.{Slip, slip, Entry, entry, plain, look_up, slips_in, slips_of, Book, Reply, with_entries, with_slip, book_enter, book_file, book_show, book_withdraw}
use Rattle.model.specs.Runs.{Act, Act.enter, Act.file, Act.show, Act.withdraw, perform, consult}
use Rattle.model.proofs.Listed.{listed_slips}
use Rattle.model.proofs.Lists.{keep_append, keep_map, keep_update, keep_remove, map_append}
use Rattle.model.proofs.Sums.{total_append, total_map, total_keep, total_update, length_total}
use Rattle.model.proofs.Fair.{one, filings, Fair, Good, faults_total}
use Rattle.model.proofs.Look.{look, look_cards}
use Rattle.model.proofs.Steps.{filed_look, filed_total}
use Rattle.model.proofs.Accepted.{entered_shape, filed_shape, withdrawn_shape, entered_look, entered_total, withdrawn_look, withdrawn_total, fresh_look}
use Rattle.model.proofs.Valid.{valid_serial_lem}
use Rattle.model.proofs.Cases.{enter_cases, file_cases, show_cases, withdraw_cases}

-- a card and its entry

slips_histories : (l : List Card) → slips_of (map entry l) ≡ map slip (histories l)
slips_histories [] = refl
slips_histories (c ∷ l) = rw (slips_histories l) (sym (map_append slip c.faults (histories l)))

noted_entry : (f : Fault) (l : List Card) → map entry (map (with_fault f) l) ≡ map (with_slip (slip f)) (map entry l)
noted_entry f [] = refl
noted_entry f (c ∷ l) = rw (noted_entry f l, map_append slip c.faults (f ∷ []))

pub entries_slips : (l : List Card) → slips_in (map entry l) ≡ total filings l
entries_slips [] = refl
entries_slips (c ∷ l) = rw (entries_slips l, length-map c.faults slip)

-- for each serial the book has what the store has, and the counts are equal
pub record Agrees (b : Book) (s : Store) : Type 0 where
  pub shape : b.shape ≡ s.shape
  pub under : (x : List ℕ) → look_up x b.entries ≡ map entry (look s x)
  pub number : length b.entries ≡ held s
  pub slips : slips_in b.entries ≡ faults_held s

-- a step and a reply tell the same, and agree afterwards
pub record Match (r : Step) (q : Reply) : Type 0 where
  pub number : r.answer.number ≡ q.number
  pub faults : r.answer.faults ≡ q.faults
  pub room : r.room ≡ q.room
  pub agrees : Agrees q.book r.store

-- the store itself, as a list of entries, is such a book
abbrev pub book_of : Store → Book
book_of s = record { shape = s.shape; entries = plain s }

pub plain_agrees : (s : Store) → Fair s → Agrees (book_of s) s
plain_agrees s r =
    record {
      shape = refl;
      under = λ x. keep_map (λ e. same x e.serial) entry (cards s) ∙ ap (map entry) (look_cards s r x);
      number = length-map (cards s) entry;
      slips = entries_slips (cards s) ∙ sym (faults_total (cards s));
    }

-- the empty book of a fresh store
abbrev pub empty_book : Shape → Book
empty_book sh = record { shape = sh; entries = [] }

pub fresh_agrees : (sh : Shape) → shape_ok sh ≡ true → Agrees (empty_book sh) (fresh sh)
unfolding fresh
fresh_agrees sh ok = record { shape = refl; under = λ x. rw (fresh_look sh ok x); number = refl; slips = refl }

module _ (b : Book) (s : Store) (g : Good s) (a : Agrees b s) where
  times : (y : List ℕ) (k : ℕ) → length (look s y) ≡ k → length (look_up y b.entries) ≡ k
  times y k e = ap length (a.under y) ∙ length-map (look s y) entry ∙ e

  history : (y : List ℕ) → slips_of (look_up y b.entries) ≡ map slip (history_in s y)
  history y = ap slips_of (a.under y) ∙ slips_histories (look s y)

  -- the book after an accepted call agrees with the store after it

  enter_agrees : (y : List ℕ) → serial_ok y ≡ true → look s y ≡ [] → held s < s.shape.limit
      → Agrees (with_entries b (b.entries ++ (record { serial = y; slips = [] } ∷ []))) (entered s y)
  enter_agrees y v l f =
      let new : List Entry = record { serial = y; slips = [] } ∷ [] in
      let t = entered_total s g.fair y v l f in
      record {
        shape = a.shape ∙ sym (entered_shape s y);
        under = λ x.
            rw (keep_append (λ e. same x e.serial) b.entries new, a.under x, entered_look s g.fair y v l f x)
            (by_cases (same x y) (λ e. rw e (sym (map_append entry (look s x) (new_card s y ∷ [])))) (λ e. rw (e, append-nil (look s x), append-nil (map entry (look s x)))));
        number = omega (arith, a.number, length-append b.entries new, t one, length_total (cards s), length_total (cards (entered s y)));
        slips = omega (arith, a.slips, total_append (λ (e : Entry). length e.slips) b.entries new, t filings, faults_total (cards s), faults_total (cards (entered s y)));
      }

  file_agrees : (y : List ℕ) (day code : ℕ) → length (look s y) ≡ 1
      → Agrees (with_entries b (map (λ e. cond (same y e.serial) (with_slip (record { day = day; code = code }) e) e) b.entries)) (filed s y day code)
  file_agrees y day code l =
      let f : Slip = record { day = day; code = code } in
      let t = filed_total s g.fair y day code in
      record {
        shape = a.shape ∙ sym (filed_shape s y day code);
        under = λ x.
            rw (keep_update (λ (e : Entry). e.serial) (with_slip f) (λ e. refl) x y b.entries, a.under x, filed_look s g.fair y day code x)
            (by_cases (same y x) (λ e. rw e (sym (noted_entry (new_fault s day code) (look s x)))) (λ e. rw e));
        number =
            omega (
              arith,
              a.number,
              length-map b.entries (λ e. cond (same y e.serial) (with_slip f e) e),
              t one 0 (λ c. refl) l,
              length_total (cards s),
              length_total (cards (filed s y day code)),
            );
        slips =
            omega (
              arith,
              a.slips,
              rw (times y 1 l) at (total_update (λ (e : Entry). same y e.serial) (with_slip f) (λ e. length e.slips) 1 b.entries (λ e. length-append e.slips (f ∷ []))),
              t filings 1 (λ c. length-append c.faults _) l,
              faults_total (cards s),
              faults_total (cards (filed s y day code)),
            );
      }

  withdraw_agrees : (y : List ℕ) → Agrees (with_entries b (keep (λ e. not (same y e.serial)) b.entries)) (withdrawn s y)
  withdraw_agrees y =
      let t = withdrawn_total s g.fair y in
      record {
        shape = a.shape ∙ sym (withdrawn_shape s y);
        under = λ x.
            rw (keep_remove (λ (e : Entry). e.serial) x y b.entries, a.under x, withdrawn_look s g.fair y x)
            (by_cases (same y x) (λ e. rw e) (λ e. rw e));
        number =
            omega (
              arith,
              a.number,
              rw (a.under y) at (total_keep (λ (e : Entry). 1) (λ e. same y e.serial) b.entries),
              total_map (λ (e : Entry). 1) entry (look s y),
              t one,
              length_total b.entries,
              length_total (keep (λ (e : Entry). not (same y e.serial)) b.entries),
              length_total (cards s),
              length_total (cards (withdrawn s y)),
            );
        slips =
            omega (
              arith,
              a.slips,
              rw (a.under y) at (total_keep (λ (e : Entry). length e.slips) (λ e. same y e.serial) b.entries),
              entries_slips (look s y),
              t filings,
              faults_total (cards s),
              faults_total (cards (withdrawn s y)),
            );
      }

  -- each act answers as the book does

  enter_match : (bytes : List ℕ) (n : ℕ) → Match (enter_step s bytes n) (book_enter b bytes n)
  unfolding book_enter
  enter_match bytes n =
      let y = take n bytes in
      enter_cases s g bytes n (λ r. Match r (book_enter b bytes n))
      (λ v. rw v (record { number = refl; faults = refl; room = refl; agrees = a }))
      (λ v l. rw (v, times y 1 l) (record { number = refl; faults = refl; room = refl; agrees = a }))
      (λ v l f. rw (v, times y 0 (ap length l), eq-eqb (length b.entries) b.shape.limit (a.number ∙ f ∙ sym (ap (λ (sh : Shape). sh.limit) a.shape)))
      (record { number = refl; faults = refl; room = refl; agrees = a }))
      (λ v l f. rw (v, times y 0 (ap length l), ne_eqb (length b.entries) b.shape.limit (omega (arith, a.number, ap (λ (sh : Shape). sh.limit) a.shape)))
      (record { number = refl; faults = refl; room = refl; agrees = enter_agrees y (valid_serial_lem bytes n v) l f }))

  file_match : (bytes : List ℕ) (n day code : ℕ) → Match (file_step s bytes n day code) (book_file b bytes n day code)
  unfolding book_file
  file_match bytes n day code =
      let y = take n bytes in
      file_cases s g bytes n (λ r. Match r (book_file b bytes n day code)) day code
      (λ v. rw v (record { number = refl; faults = refl; room = refl; agrees = a }))
      (λ v w. rw (v, w) (record { number = refl; faults = refl; room = refl; agrees = a }))
      (λ v w l. rw (v, w, times y 0 (ap length l)) (record { number = refl; faults = refl; room = refl; agrees = a }))
      (λ v w l f. rw (v, w, times y 1 l, eq-eqb (slips_in b.entries) b.shape.fault_limit (a.slips ∙ f ∙ sym (ap (λ (sh : Shape). sh.fault_limit) a.shape)))
      (record { number = refl; faults = refl; room = refl; agrees = a }))
      (λ v w l f. rw (v, w, times y 1 l, ne_eqb (slips_in b.entries) b.shape.fault_limit (omega (arith, a.slips, ap (λ (sh : Shape). sh.fault_limit) a.shape)))
      (record { number = refl; faults = rw (history y, length-map (history_in s y) slip); room = refl; agrees = file_agrees y day code l }))

  show_match : (bytes : List ℕ) (n : ℕ) (room : List ℕ) → Match (show_step s bytes n room) (book_show b bytes n room)
  unfolding book_show
  show_match bytes n room =
      let y = take n bytes in
      show_cases s g bytes n (λ r. Match r (book_show b bytes n room)) room
      (λ v. rw v (record { number = refl; faults = refl; room = refl; agrees = a }))
      (λ v l. rw (v, times y 0 (ap length l)) (record { number = refl; faults = refl; room = refl; agrees = a }))
      (λ v l f. rw (v, times y 1 l, history y, length-map (history_in s y) slip, lt-ltb (length room) (2 * length (history_in s y)) f)
      (record { number = refl; faults = refl; room = refl; agrees = a }))
      (λ v l f. rw (v, times y 1 l, history y, length-map (history_in s y) slip, le-ltb (length room) (2 * length (history_in s y)) f, listed_slips (history_in s y))
      (record { number = refl; faults = refl; room = refl; agrees = a }))

  withdraw_match : (bytes : List ℕ) (n : ℕ) (room : List ℕ) → Match (withdraw_step s bytes n room) (book_withdraw b bytes n room)
  unfolding book_withdraw
  withdraw_match bytes n room =
      let y = take n bytes in
      withdraw_cases s g bytes n (λ r. Match r (book_withdraw b bytes n room)) room
      (λ v. rw v (record { number = refl; faults = refl; room = refl; agrees = a }))
      (λ v l. rw (v, times y 0 (ap length l)) (record { number = refl; faults = refl; room = refl; agrees = a }))
      (λ v l f. rw (v, times y 1 l, history y, length-map (history_in s y) slip, lt-ltb (length room) (2 * length (history_in s y)) f)
      (record { number = refl; faults = refl; room = refl; agrees = a }))
      (λ v l f. rw (v, times y 1 l, history y, length-map (history_in s y) slip, le-ltb (length room) (2 * length (history_in s y)) f, listed_slips (history_in s y))
      (record { number = refl; faults = refl; room = refl; agrees = withdraw_agrees y }))

  pub call_match : (c : Act) → Match (perform s c) (consult b c)
  call_match (enter bytes n) = enter_match bytes n
  call_match (file bytes n day code) = file_match bytes n day code
  call_match (show bytes n room) = show_match bytes n room
  call_match (withdraw bytes n room) = withdraw_match bytes n room
