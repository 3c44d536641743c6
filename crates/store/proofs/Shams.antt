-- The five stores that only pretend, held to the contracts: no program that meets them is one of the five. A program that refuses everything, or has
-- one number for everything, fails at a new card and at a card that is not held (`refuses_everything`, `constant_answer`); one that changes nothing, or works at
-- first and then feigns, fails at each call that it calls done (`changes_nothing`, `none_feigned`); one that invents comparisons or scanned fails at the chain
-- that the serial's bucket has in the words, and at the bucket that is split or goes (`none_invented`).
use Prim.Native.Nat.{ℕ, ◌+◌, ◌≤◌}
use mathlib.Core.Path.{◌≡◌, refl, sym, ap, ◌∙◌}
use mathlib.Core.Bool.{true}
use mathlib.Core.List.{List, [], ◌∷◌}
use native.Mathlib.Omega.{arith}
use lib.ListN.{length, take, replicate}
use Rattle.model.specs.Lists.{between}
use Rattle.model.specs.Serial.{allowed, serial_ok, valid_serial}
use Rattle.model.specs.Shape.{Shape, need}
use Rattle.model.specs.Model.{Store, chain_for, before, fresh}
use Rattle.model.specs.Layout.{least_upper, shape_ok, encode, decode, sound, shape_of}
use Rattle.model.specs.Calls.{Answer, Terms, shape_for}
use Rattle.model.specs.Runs.{Act, Act.enter, Act.show, perform, Call, Call.opening, Call.acting, outcome}
use Rattle.model.specs.Deeds.{tidy}
use Rattle.model.proofs.Look.{look}
use Rattle.model.proofs.Cut.{Present}
use Rattle.model.proofs.Sound.{sound_good}
use Rattle.model.proofs.Fresh.{fair_fresh, fresh_sound}
use Rattle.model.proofs.Accepted.{fresh_good, fresh_look}
use Rattle.model.proofs.Numbers.{enter_numbers, show_numbers}
use Rattle.model.proofs.Outcomes.{terms_ok, read_back, call_cases}
use Rattle.model.proofs.Deeds.{tidy_long}
use Rattle.model.proofs.Counts.{serial_of, Searches, scan_of, compared_held, compared_missing, compared_none, scanned_done, scanned_refused}
use Rattle.model.proofs.Refused.{Changing, done_changes}
use Rattle.store.specs.Sequences.{Given, Made, Meets, AllMeet}
use Rattle.model.proofs.Shapes.{limits_fit_lem, bounds_fit}

-- a program: what it gives and leaves on any words for any call; and one that meets the contracts
abbrev pub Program : Type 0
Program = List ℕ → Call → Given

abbrev pub Honest : Program → Type 0
Honest p = (w : List ℕ) (c : Call) → Meets w c (p w c)

-- a fresh store of one card and one fault, and the serial `7` as it travels
abbrev smallest : Terms
smallest = record { cards = 1; faults = 1; upper = least_upper; lower = 1 }

abbrev one_one : Shape
one_one = shape_for smallest

limits : shape_ok one_one ≡ true
unfolding shape_for
limits = terms_ok smallest (limits_fit_lem one_one (omega arith) (omega arith) (omega arith) (omega arith)) (bounds_fit one_one (omega arith) (omega arith) (omega arith) (omega arith))

unfoldable seven : List ℕ
seven = 55 ∷ replicate 15 0

seven_valid : valid_serial seven 1 ≡ true
unfolding seven valid_serial serial_ok allowed between
seven_valid = refl

abbrev new : List ℕ
new = encode (fresh one_one)

new_sound : sound new ≡ true
new_sound = fresh_sound one_one limits

-- scratch as long as it asks
abbrev lent : List ℕ
lent = tidy (shape_of new)

lent_long : need (shape_of new) ≤ length lent
lent_long = tidy_long (shape_of new)

-- an act with enough scratch on that store
on_new : (a : Act) → (outcome new lent a).answer.number ≡ (perform (fresh one_one) a).answer.number
on_new a =
    call_cases new lent a new_sound (λ o. o.answer.number ≡ (perform (fresh one_one) a).answer.number)
    (λ h. absurd (omega (arith, lent_long))) (λ h. rw (read_back (fresh one_one) (fair_fresh one_one limits)))

-- the card is taken in, and shown it is not held
entered : (outcome new lent (enter seven 1)).answer.number ≡ 0
unfolding fresh shape_for
entered =
    on_new (enter seven 1)
    ∙ (enter_numbers (fresh one_one) (fresh_good one_one limits) seven 1).done.1 (seven_valid, fresh_look one_one limits (take 1 seven), omega arith)

missing : (outcome new lent (show seven 1 [])).answer.number ≡ 7
missing = on_new (show seven 1 []) ∙ (show_numbers (fresh one_one) seven 1 [] (fresh_good one_one limits)).missing.1 (seven_valid, fresh_look one_one limits (take 1 seven))

module _ (p : Program) (honest : Honest p) where
  -- it refuses everything
  pub refuses_everything : ((w scratch : List ℕ) (a : Act) → (p w (acting scratch a)).answer.number ≡ 0 → ⊥) → ⊥
  refuses_everything sham = sham new lent (enter seven 1) ((honest new (acting lent (enter seven 1))).answer.number_is ∙ entered)

  -- it has one number for every call, even if only for calls with enough scratch on sound words
  pub constant_answer : (k : ℕ) → ((w scratch : List ℕ) (a : Act) → sound w ≡ true → need (shape_of w) ≤ length scratch → (p w (acting scratch a)).answer.number ≡ k) → ⊥
  constant_answer k sham =
      let e = (honest new (acting lent (enter seven 1))).answer.number_is ∙ entered in
      let m = (honest new (acting lent (show seven 1 []))).answer.number_is ∙ missing in
      omega (arith, e, m, sham new lent (enter seven 1) new_sound lent_long, sham new lent (show seven 1 []) new_sound lent_long)

  -- it changes nothing
  pub changes_nothing : ((w scratch : List ℕ) (a : Act) → (p w (acting scratch a)).words ≡ w) → ⊥
  changes_nothing sham =
      done_changes new lent (enter seven 1) tt entered (sym (honest new (acting lent (enter seven 1))).words_are ∙ sham new lent (enter seven 1))

-- it works at its first call and then feigns: but in a sequence that meets the contracts each call that is done, and is there to change the store, leaves other
-- words than it found, the first and every later one
abbrev pub Works : List ℕ → Call → Given → Type 0
Works w (opening t) g = Unit {0}
Works w (acting scratch a) g = Changing a → g.answer.number ≡ 0 → g.words ≡ w → ⊥

abbrev pub NoneFeigned : List ℕ → List Made → Type 0
NoneFeigned w [] = Unit {0}
NoneFeigned w (m ∷ ms) = Works w m.call m.gives × NoneFeigned m.gives.words ms

works : (w : List ℕ) (c : Call) (g : Given) → Meets w c g → Works w c g
works w (opening t) g m = tt
works w (acting scratch a) g m = λ c z e. done_changes w scratch a c (sym m.answer.number_is ∙ z) (sym m.words_are ∙ e)

pub none_feigned : (w : List ℕ) (ms : List Made) → AllMeet w ms → NoneFeigned w ms
none_feigned w [] a = tt
none_feigned w (m ∷ ms) a = (works w m.call m.gives a.0, none_feigned m.gives.words ms a.1)

-- it invents comparisons or scanned: but both are read off the store that the words stand for
pub record Counted (s : Store) (a : Act) (g : Given) : Type 0 where
  -- the card's place in its chain, from 1: the chain is the cards before it, the card, and those behind it
  pub place : Searches a → length (look s (serial_of a)) ≡ 1
      → Present (serial_of a) (chain_for s (serial_of a)) × (g.answer.comparisons ≡ length (before (serial_of a) (chain_for s (serial_of a))) + 1)
  -- else the chain's length, and 0 before the search
  pub chain_length : Searches a → look s (serial_of a) ≡ [] → g.answer.comparisons ≡ length (chain_for s (serial_of a))
  pub not_searched : (Searches a → ⊥) → g.answer.comparisons ≡ 0
  -- the length of the bucket that is split or goes
  pub scans : g.answer.number ≡ 0 → g.answer.scanned ≡ scan_of s a
  pub scans_none : (g.answer.number ≡ 0 → ⊥) → g.answer.scanned ≡ 0

pub none_invented : (w : List ℕ) → sound w ≡ true → (scratch : List ℕ) → need (shape_of w) ≤ length scratch → (a : Act) (g : Given) → Meets w (acting scratch a) g → Counted (decode w) a g
none_invented w ok scratch h a g m =
    let s = decode w in
    let r = (sound_good w ok).0 in
    let e : (outcome w scratch a).answer ≡ (perform s a).answer = call_cases w scratch a ok (λ o. o.answer ≡ (perform s a).answer) (λ l. absurd (omega arith)) (λ l. refl) in
    let n = m.answer.number_is ∙ ap (λ (x : Answer). x.number) e in
    let c = m.answer.comparisons_are ∙ ap (λ (x : Answer). x.comparisons) e in
    let k = m.answer.scanned_is ∙ ap (λ (x : Answer). x.scanned) e in
    record {
      place = λ o l. let q = compared_held s r a o l in (q.0, c ∙ q.1);
      chain_length = λ o l. c ∙ compared_missing s r a o l;
      not_searched = λ o. c ∙ compared_none s r a o;
      scans = λ z. k ∙ scanned_done s r a (sym n ∙ z);
      scans_none = λ z. k ∙ scanned_refused s r a (λ y. z (n ∙ y));
    }
