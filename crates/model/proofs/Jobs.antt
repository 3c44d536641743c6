-- The job by its numbers. Its tests come one after the other (`job_cases`); its lines are all answered, or stop before one whose answer exceeds the
-- output left (`lines_end`), and that is where the answers of all lines exceed the output. So each number of a job is given exactly when the rules
-- say, by what the job is given alone (`job_numbers`). A line is answered by 12 exactly where its form is bad, and by 10 never, since the room it is
-- given has two words for each fault that a store can hold (`line_numbers`).
use Prim.Native.Nat.{ℕ, suc, ◌+◌, ◌*◌, ◌≤◌, ◌<◌}
use mathlib.Core.Path.{◌≡◌, refl, ap, ◌∙◌}
use mathlib.Core.Logic.{◌⊎◌, inl, inr, ⊎_elim, ◌↔◌}
use mathlib.Core.List.{List, [], ◌∷◌, ◌++◌}
use mathlib.Core.Bool.{true, false, cond}
use native.Mathlib.Omega.{arith}
use lib.Dec.{ltb}
use lib.ListN.{length, take, drop, get_or, length-append, length-replicate}
use lib.Seq.{take_all}
use borrow.Author.Tests.{ltb-true, ltb-false, lt-ltb, le-ltb}
use Rattle.rules.proofs.Tests.{by_cases, not_both}
use Rattle.model.specs.Model.{Store, cards, history_in}
use Rattle.model.specs.Shape.{faults_ever, need}
use Rattle.model.specs.Layout.{shape_of, decode, sound}
use Rattle.model.specs.Calls.{cleaned}
use Rattle.model.specs.Runs.{Act, perform, run}
use Rattle.model.specs.Runs as Runs
use Rattle.model.specs.Text.{lines_of}
use Rattle.model.specs.Job.{Line, bad, enter, show, withdraw, file, line_of, padded, enough, step_of, answer_text, Tally, Run, run_lines, started, Finished, refused_job, job_if, most_text, job}
use Rattle.model.specs.Deeds.{calls_of, said_by, said}
use Rattle.model.proofs.Fair.{filings, Good, faults_total}
use Rattle.model.proofs.Shapes.{few_faults}
use Rattle.model.proofs.Look.{look}
use Rattle.model.proofs.Steps.{removed_total}
use Rattle.model.proofs.Cases.{faults_fit, enter_cases, file_cases}
use Rattle.model.proofs.Numbers.{hit, miss, show_numbers, withdraw_numbers, act_numbers}
use Rattle.model.proofs.Outcomes.{sound_run}
use Rattle.model.proofs.Deeds.{line_step_lem, Through, lines_run, lines_store, said_at}
use Rattle.model.proofs.LineForms.{not_bad}

-- the job by its tests, whatever is to be shown of it
module _ (w scratch text out : List ℕ) (t : Tally) (P : Finished → Type 0) where
  pub job_cases :
      (length scratch < need (shape_of w) → P (refused_job 11 w out scratch t))
      → (need (shape_of w) ≤ length scratch → most_text < length text → P (refused_job 13 w out (cleaned (need (shape_of w)) scratch) t))
      → (need (shape_of w) ≤ length scratch → length text ≤ most_text → sound w ≡ false → P (refused_job 3 w out (cleaned (need (shape_of w)) scratch) t))
      → (need (shape_of w) ≤ length scratch → length text ≤ most_text → sound w ≡ true → P (job_if true w scratch text out t))
      → P (job w scratch text out t)
  unfolding job
  job_cases short long unsound lines =
      by_cases (ltb (length scratch) (need (shape_of w)))
      (λ e. rw e (short (ltb-true (length scratch) (need (shape_of w)) e)))
      (λ e. let a = ltb-false (length scratch) (need (shape_of w)) e in
      rw e (by_cases (ltb most_text (length text))
      (λ f. rw f (long a (ltb-true most_text (length text) f)))
      (λ f. let b = ltb-false most_text (length text) f in
      rw f (by_cases (sound w) (λ ok. rw ok (lines a b ok)) (λ no. rw no (unsound a b no))))))

-- what a line is answered on a store, as text
abbrev pub answer_to : Store → List ℕ → List ℕ
answer_to s x = answer_text (line_of x) (step_of s (line_of x))

-- all lines were answered
pub record AllAnswered (xs : List (List ℕ)) (from to : Run) : Type 0 where
  pub number : to.number ≡ 0
  pub lines : to.lines ≡ from.lines + length xs

-- some were, and the answer of the next exceeds the output left
pub record Stopped (xs : List (List ℕ)) (room : ℕ) (from to : Run) : Type 0 where
  pub number : to.number ≡ 10
  pub done : ℕ
  pub lines : to.lines ≡ from.lines + done
  pub left : done < length xs
  pub over : room < length to.text + length (answer_to to.store (get_or xs done []))

one_more : {x : List ℕ} {xs : List (List ℕ)} {room : ℕ} {r next to : Run} → next.lines ≡ suc r.lines
    → AllAnswered xs next to ⊎ Stopped xs room next to → AllAnswered (x ∷ xs) r to ⊎ Stopped (x ∷ xs) room r to
one_more l (inl a) = inl (record { number = a.number; lines = omega (arith, a.lines) })
one_more l (inr s) =
    inr (record { number = s.number; done = suc s.done; lines = omega (arith, s.lines); left = omega (arith, s.left); over = s.over })

pub lines_end : (xs : List (List ℕ)) (room : ℕ) (r : Run) → r.number ≡ 0 → AllAnswered xs r (run_lines xs room r) ⊎ Stopped xs room r (run_lines xs room r)
unfolding run_lines
lines_end [] room r h = inl (record { number = h; lines = omega arith })
lines_end (x ∷ xs) room r h =
    by_cases (ltb room (length r.text + length (answer_to r.store x)))
    (λ e. rw e (inr (record { number = refl; done = 0; lines = omega arith; left = omega arith; over = ltb-true room (length r.text + length (answer_to r.store x)) e })))
    (λ e. rw e (one_more refl (lines_end xs room _ refl)))

-- what is written never exceeds the room
pub lines_fit : (xs : List (List ℕ)) (room : ℕ) (r : Run) → length r.text ≤ room → length (run_lines xs room r).text ≤ room
unfolding run_lines
lines_fit [] room r h = h
lines_fit (x ∷ xs) room r h =
    by_cases (ltb room (length r.text + length (answer_to r.store x)))
    (λ e. rw e h) (λ e. rw e (lines_fit xs room _ (omega (arith, ltb-false, length-append r.text (answer_to r.store x)))))

-- a job that comes to its lines
abbrev pub Reached : List ℕ → List ℕ → List ℕ → Type 0
Reached w scratch text = (need (shape_of w) ≤ length scratch) × (length text ≤ most_text) × (sound w ≡ true)

-- the lines on sound words, against the answers that all of them have one after the other
module _ (w : List ℕ) (ok : sound w ≡ true) (xs : List (List ℕ)) (room : ℕ) (t : Tally) where
  abbrev ends : Run
  ends = run_lines xs room (started (decode w) t)

  through : Through w xs (started (decode w) t) ends
  through = lines_run xs w ok room (started (decode w) t) refl

  -- all were answered: what they say was written, and fits
  answers_fit : AllAnswered xs (started (decode w) t) ends → length (said w xs) ≤ room
  answers_fit e =
      let all = take_all through.done xs (omega (arith, e.lines, through.lines)) in
      omega (arith, lines_fit xs room (started (decode w) t) (omega arith), ap length through.text, ap (λ (l : List (List ℕ)). length (said w l)) all)

  -- it stopped: what was written and the answer of the next line are in front of what they say
  answers_exceed : Stopped xs room (started (decode w) t) ends → room < length (said w xs)
  answers_exceed s =
      let k = through.done in
      let z : s.done ≡ k = omega (arith, s.lines, through.lines) in
      let sh = shape_of w in
      let v = run w (calls_of sh (take k xs)) in
      let x = get_or xs k [] in
      let next = said (run w (calls_of sh (take (suc k) xs))) (drop (suc k) xs) in
      let same = ap (λ (q : Store). answer_to q x) through.store ∙ ap (answer_text (line_of x)) (line_step_lem v (sound_run w ok (calls_of sh (take k xs))) (line_of x)) in
      omega (
        arith,
        rw z at s.over,
        ap length same,
        ap length through.text,
        ap length (said_at w ok xs k (omega (arith, s.left))),
        length-append (said w (take k xs)) (said_by v x ++ next),
        length-append (said_by v x) next,
      )

-- the table of numbers for a job
pub record JobNumbers (w scratch text out : List ℕ) (j : Finished) : Type 0 where
  pub short : (j.number ≡ 11) ↔ (length scratch < need (shape_of w))
  pub long : (j.number ≡ 13) ↔ ((need (shape_of w) ≤ length scratch) × (most_text < length text))
  pub unsound : (j.number ≡ 3) ↔ ((need (shape_of w) ≤ length scratch) × (length text ≤ most_text) × (sound w ≡ false))
  -- the answers that all its lines have, one after the other, exceed the output; or they fit
  pub stopped : (j.number ≡ 10) ↔ (Reached w scratch text × (length out < length (said w (lines_of text))))
  pub done : (j.number ≡ 0) ↔ (Reached w scratch text × (length (said w (lines_of text)) ≤ length out))
  -- 0 if all lines were answered
  pub answered : (j.number ≡ 0) ↔ (Reached w scratch text × (j.lines ≡ length (lines_of text)))
  -- it stops before a line whose answer with its LF exceeds the output left
  pub left : j.number ≡ 10 → j.lines < length (lines_of text)
  pub over : j.number ≡ 10 → length out < j.bytes + length (answer_to (decode j.words) (get_or (lines_of text) j.lines []))

module _ (w scratch text out : List ℕ) (t : Tally) where
  abbrev ran : Run
  ran = run_lines (lines_of text) (length out) (started (decode w) t)

  lines_numbers : need (shape_of w) ≤ length scratch → length text ≤ most_text → (ok : sound w ≡ true) → JobNumbers w scratch text out (job_if true w scratch text out t)
  lines_numbers a b ok = go (lines_end (lines_of text) (length out) (started (decode w) t) refl)
    where
      go : AllAnswered (lines_of text) (started (decode w) t) ran ⊎ Stopped (lines_of text) (length out) (started (decode w) t) ran → JobNumbers w scratch text out (job_if true w scratch text out t)
      go (inl e) =
          record {
            short = miss (omega (arith, e.number)) (omega arith);
            long = miss (omega (arith, e.number)) (λ c. omega arith);
            unsound = miss (omega (arith, e.number)) (λ c. not_both ok c.2);
            stopped = miss (omega (arith, e.number)) (λ c. omega (arith, answers_fit w ok (lines_of text) (length out) t e));
            done = hit e.number ((a, b, ok), answers_fit w ok (lines_of text) (length out) t e);
            answered = hit e.number ((a, b, ok), omega (arith, e.lines));
            left = λ n. absurd (omega (arith, e.number));
            over = λ n. absurd (omega (arith, e.number));
          }
      go (inr s) =
          record {
            short = miss (omega (arith, s.number)) (omega arith);
            long = miss (omega (arith, s.number)) (λ c. omega arith);
            unsound = miss (omega (arith, s.number)) (λ c. not_both ok c.2);
            stopped = hit s.number ((a, b, ok), answers_exceed w ok (lines_of text) (length out) t s);
            done = miss (omega (arith, s.number)) (λ c. omega (arith, answers_exceed w ok (lines_of text) (length out) t s));
            answered = miss (omega (arith, s.number)) (λ c. omega (arith, s.lines, s.left));
            left = λ n. omega (arith, s.lines, s.left);
            over = λ n. let z : ran.lines ≡ s.done = omega (arith, s.lines) in rw (lines_store w ok (lines_of text) (length out) t, z) s.over;
          }

  pub job_numbers : JobNumbers w scratch text out (job w scratch text out t)
  job_numbers =
      job_cases w scratch text out t (JobNumbers w scratch text out)
      (λ a. record {
        short = hit refl a;
        long = miss (omega arith) (λ c. omega arith);
        unsound = miss (omega arith) (λ c. omega arith);
        stopped = miss (omega arith) (λ c. omega arith);
        done = miss (omega arith) (λ c. omega arith);
        answered = miss (omega arith) (λ c. omega arith);
        left = λ n. absurd (omega arith);
        over = λ n. absurd (omega arith);
      })
      (λ a b. record {
        short = miss (omega arith) (omega arith);
        long = hit refl (a, b);
        unsound = miss (omega arith) (λ c. omega arith);
        stopped = miss (omega arith) (λ c. omega arith);
        done = miss (omega arith) (λ c. omega arith);
        answered = miss (omega arith) (λ c. omega arith);
        left = λ n. absurd (omega arith);
        over = λ n. absurd (omega arith);
      })
      (λ a b no. record {
        short = miss (omega arith) (omega arith);
        long = miss (omega arith) (λ c. omega arith);
        unsound = hit refl (a, b, no);
        stopped = miss (omega arith) (λ c. not_both c.0.2 no);
        done = miss (omega arith) (λ c. not_both c.0.2 no);
        answered = miss (omega arith) (λ c. not_both c.0.2 no);
        left = λ n. absurd (omega arith);
        over = λ n. absurd (omega arith);
      })
      lines_numbers

  -- under 11 the scratch is untouched; else its first bytes end zero and the rest stays, whatever the number
  pub job_scratch : (job w scratch text out t).scratch ≡ cond (ltb (length scratch) (need (shape_of w))) scratch (cleaned (need (shape_of w)) scratch)
  job_scratch =
      job_cases w scratch text out t (λ j. j.scratch ≡ cond (ltb (length scratch) (need (shape_of w))) scratch (cleaned (need (shape_of w)) scratch))
      (λ a. rw (lt-ltb (length scratch) (need (shape_of w)) a)) (λ a b. rw (le-ltb (length scratch) (need (shape_of w)) a))
      (λ a b c. rw (le-ltb (length scratch) (need (shape_of w)) a)) (λ a b c. rw (le-ltb (length scratch) (need (shape_of w)) a))

  -- no more lines are done than there are
  pub lines_few : (job w scratch text out t).lines ≤ length (lines_of text)
  lines_few =
      job_cases w scratch text out t (λ j. j.lines ≤ length (lines_of text)) (λ a. omega arith) (λ a b. omega arith) (λ a b c. omega arith)
      (λ a b ok. ⊎_elim (λ e. omega (arith, e.lines)) (λ s. omega (arith, s.lines, s.left)) (lines_end (lines_of text) (length out) (started (decode w) t) refl))

-- lines

-- a history has at most as many faults as a store of any format can hold
pub history_fits : (s : Store) → Good s → (y : List ℕ) → length (history_in s y) ≤ faults_ever
history_fits s g y =
    omega (arith, faults_total (look s y), faults_total (cards s), removed_total s g.fair y filings, faults_fit s g, few_faults s.shape g.fair.shape)

pub enough_long : length enough ≡ 2 * faults_ever
unfolding enough
enough_long = length-replicate {A = ℕ} (2 * faults_ever) 0

pub record LineNumbers (l : Line) (k : ℕ) : Type 0 where
  pub formless : (k ≡ 12) ↔ (l ≡ bad)
  pub never_10 : k ≡ 10 → ⊥

-- a line that asks for an act
acts : (s : Store) → Good s → (a : Act) (l : Line) → (l ≡ bad → ⊥) → ((perform s a).answer.number ≡ 10 → ⊥) → LineNumbers l (perform s a).answer.number
acts s g a l some ten = record { formless = miss (act_numbers s g a).2 some; never_10 = ten }

pub line_numbers : (s : Store) → Good s → (l : Line) → LineNumbers l (step_of s l).answer.number
unfolding step_of
line_numbers s g bad = record { formless = hit refl refl; never_10 = omega arith }
line_numbers s g (enter f) =
    acts s g (Runs.enter (padded f) (length f)) (enter f) (not_bad (enter f) tt)
    (enter_cases s g (padded f) (length f) (λ r. r.answer.number ≡ 10 → ⊥) (λ v. omega arith) (λ v l. omega arith) (λ v l f. omega arith) (λ v l f. omega arith))
line_numbers s g (show f) =
    acts s g (Runs.show (padded f) (length f) enough) (show f) (not_bad (show f) tt)
    (λ e. omega (arith, ((show_numbers s (padded f) (length f) enough g).small.0 e).2, enough_long, history_fits s g (take (length f) (padded f))))
line_numbers s g (withdraw f) =
    acts s g (Runs.withdraw (padded f) (length f) enough) (withdraw f) (not_bad (withdraw f) tt)
    (λ e. omega (arith, ((withdraw_numbers s (padded f) (length f) enough g).small.0 e).2, enough_long, history_fits s g (take (length f) (padded f))))
line_numbers s g (file f day code) =
    acts s g (Runs.file (padded f) (length f) day code) (file f day code) (not_bad (file f day code) tt)
    (file_cases s g (padded f) (length f) (λ r. r.answer.number ≡ 10 → ⊥) day code
    (λ v. omega arith) (λ v w. omega arith) (λ v w l. omega arith) (λ v w l f. omega arith) (λ v w l f. omega arith))
