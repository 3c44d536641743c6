-- The tally of a job, by what happened: each of its six numbers after one line that was answered (`line_tallied`), and so through the lines of a job (`job_tallied`). A done entry, withdrawal or filing adds
-- one to its own number and nothing to the other two; one bucket more adds one to the splits, one fewer one to the contractions; the comparisons of the answer are
-- added. No number passes 18,446,744,073,709,551,615, which is 2^64 - 1.
use Prim.Native.Nat.{ℕ, suc, ◌+◌, ◌≤◌, ◌<◌}
use mathlib.Core.Path.{◌≡◌, refl}
use mathlib.Core.List.{List, [], ◌∷◌, ◌++◌}
use mathlib.Core.Bool.{◌&&◌}
use native.Mathlib.Omega.{arith}
use lib.Dec.{ltb, eqb}
use lib.ListN.{length, take}
use borrow.Author.Tests.{eqb-true, eq-eqb, lt-ltb, le-ltb}
use Rattle.rules.proofs.Tests.{by_cases}
use Rattle.model.specs.Model.{Store, size}
use Rattle.model.specs.Layout.{decode}
use Rattle.model.specs.Calls.{Answer, Step}
use Rattle.model.specs.Text.{lines_of}
use Rattle.model.specs.Job.{Line, bad, enter, show, withdraw, file, Tally, tally_top, plus, one, entering, withdrawing, filing, counted, line_of, step_of, answer_text, Run, run_lines, started, job}
use Rattle.model.proofs.Deeds.{lines_store}
use Rattle.model.proofs.Jobs.{job_cases}

-- k was added to n, and the sum held at the top
pub record Added (n k n' : ℕ) : Type 0 where
  pub fits : n + k ≤ 18446744073709551615 → n' ≡ n + k
  pub held : 18446744073709551615 < n + k → n' ≡ 18446744073709551615

-- what was added to the entries, the withdrawals and the filings
pub record Added3 (t t' : Tally) (e w f : ℕ) : Type 0 where
  pub entries : Added t.entries e t'.entries
  pub withdrawals : Added t.withdrawals w t'.withdrawals
  pub filings : Added t.filings f t'.filings

-- and what a done line adds to them
abbrev pub ByKind : Line → Tally → Tally → Type 0
ByKind bad t t' = Added3 t t' 0 0 0
ByKind (enter f) t t' = Added3 t t' 1 0 0
ByKind (show f) t t' = Added3 t t' 0 0 0
ByKind (withdraw f) t t' = Added3 t t' 0 1 0
ByKind (file f day code) t t' = Added3 t t' 0 0 1

-- what was added to the splits and the contractions
pub record Added2 (t t' : Tally) (s c : ℕ) : Type 0 where
  pub splits : Added t.splits s t'.splits
  pub contractions : Added t.contractions c t'.contractions

-- the tally before and after a line with its answer, where there were b buckets before it and there are b' after it
pub record Tallied (t t' : Tally) (l : Line) (a : Answer) (b b' : ℕ) : Type 0 where
  pub done : a.number ≡ 0 → ByKind l t t'
  pub refused : (a.number ≡ 0 → ⊥) → Added3 t t' 0 0 0
  pub grew : b < b' → Added2 t t' 1 0
  pub fell : b' < b → Added2 t t' 0 1
  pub stayed : b' ≡ b → Added2 t t' 0 0
  pub comparisons : Added t.comparisons a.comparisons t'.comparisons

-- a sum held at the top
plus_added : (n m k : ℕ) → m ≡ k → Added n k (plus n m)
unfolding plus tally_top
plus_added n m k e = record { fits = λ h. omega arith; held = λ h. omega arith }

module _ (t : Tally) (s : Store) (l : Line) (r : Step) where
  three : (e w f : ℕ) → let done = eqb r.answer.number 0 in
      one (done && entering l) ≡ e → one (done && withdrawing l) ≡ w → one (done && filing l) ≡ f → Added3 t (counted t s l r) e w f
  unfolding counted
  three e w f a b c = record { entries = plus_added t.entries _ e a; withdrawals = plus_added t.withdrawals _ w b; filings = plus_added t.filings _ f c }

  two : (g c : ℕ) → one (ltb (size s) (size r.store)) ≡ g → one (ltb (size r.store) (size s)) ≡ c → Added2 t (counted t s l r) g c
  unfolding counted
  two g c a b = record { splits = plus_added t.splits _ g a; contractions = plus_added t.contractions _ c b }

-- of a done line
by_kind : (t : Tally) (s : Store) (l : Line) (r : Step) → r.answer.number ≡ 0 → ByKind l t (counted t s l r)
unfolding one entering withdrawing filing
by_kind t s bad r z = let e = eq-eqb r.answer.number 0 z in three t s bad r 0 0 0 (rw e refl) (rw e refl) (rw e refl)
by_kind t s (enter f) r z = let e = eq-eqb r.answer.number 0 z in three t s (enter f) r 1 0 0 (rw e refl) (rw e refl) (rw e refl)
by_kind t s (show f) r z = let e = eq-eqb r.answer.number 0 z in three t s (show f) r 0 0 0 (rw e refl) (rw e refl) (rw e refl)
by_kind t s (withdraw f) r z = let e = eq-eqb r.answer.number 0 z in three t s (withdraw f) r 0 1 0 (rw e refl) (rw e refl) (rw e refl)
by_kind t s (file f day code) r z = let e = eq-eqb r.answer.number 0 z in three t s (file f day code) r 0 0 1 (rw e refl) (rw e refl) (rw e refl)

pub line_tallied : (t : Tally) (s : Store) (l : Line) (r : Step) → Tallied t (counted t s l r) l r.answer (size s) (size r.store)
unfolding counted one
line_tallied t s l r =
    let b = size s in
    let b' = size r.store in
    record {
      done = by_kind t s l r;
      refused = λ no. by_cases (eqb r.answer.number 0) (λ e. absurd (no (eqb-true r.answer.number 0 e))) (λ e. three t s l r 0 0 0 (rw e refl) (rw e refl) (rw e refl));
      grew = λ h. two t s l r 1 0 (rw (lt-ltb b b' h) refl) (rw (le-ltb b' b (omega arith)) refl);
      fell = λ h. two t s l r 0 1 (rw (le-ltb b b' (omega arith)) refl) (rw (lt-ltb b' b h) refl);
      stayed = λ h. two t s l r 0 0 (rw (le-ltb b b' (omega arith)) refl) (rw (le-ltb b' b (omega arith)) refl);
      comparisons = plus_added t.comparisons _ r.answer.comparisons refl;
    }

-- the lines in turn, from one store and tally to another
abbrev pub TalliedThrough : List (List ℕ) → Store → Tally → Store → Tally → Type 0
TalliedThrough [] s t s' t' = (s' ≡ s) × (t' ≡ t)
TalliedThrough (x ∷ xs) s t s' t' =
    let r = step_of s (line_of x) in
    (u : Tally) × Tallied t u (line_of x) r.answer (size s) (size r.store) × TalliedThrough xs r.store u s' t'

lines_tallied : (xs : List (List ℕ)) (room : ℕ) (r : Run) → let end = run_lines xs room r in
    (k : ℕ) × (end.lines ≡ r.lines + k) × TalliedThrough (take k xs) r.store r.tally end.store end.tally
unfolding run_lines
lines_tallied [] room r = (0, omega arith, (refl, refl))
lines_tallied (x ∷ xs) room r =
    let l = line_of x in
    let step = step_of r.store l in
    let tally = counted r.tally r.store l step in
    let next : Run = record { number = 0; lines = suc r.lines; text = r.text ++ answer_text l step; store = step.store; tally = tally } in
    by_cases (ltb room (length r.text + length (answer_text l step)))
    (λ e. rw e (0, omega arith, (refl, refl)))
    (λ e. rw e (let q = lines_tallied xs room next in (suc q.0, omega (arith, q.1), (tally, line_tallied r.tally r.store l step, q.2))))

-- a job: the lines that it answered, from the store and the tally that it was given to those that it leaves
pub job_tallied : (w scratch text out : List ℕ) (t : Tally) → let j = job w scratch text out t in
    TalliedThrough (take j.lines (lines_of text)) (decode w) t (decode j.words) j.tally
job_tallied w scratch text out t =
    job_cases w scratch text out t (λ j. TalliedThrough (take j.lines (lines_of text)) (decode w) t (decode j.words) j.tally)
    (λ a. (refl, refl)) (λ a b. (refl, refl)) (λ a b c. (refl, refl))
    (λ a b ok. let q = lines_tallied (lines_of text) (length out) (started (decode w) t) in
    let z : (run_lines (lines_of text) (length out) (started (decode w) t)).lines ≡ q.0 = omega (arith, q.1) in
    rw (lines_store w ok (lines_of text) (length out) t, z) q.2)
