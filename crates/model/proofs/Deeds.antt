-- A job is the calls of its answered lines (`job_calls`). A line on sound words gives what its call gives (`line_step_lem`); line by line, a job on the
-- store that sound words stand for walks with the calls on the words (`lines_run`). So a job leaves sound words sound (`job_sound`), every sequence
-- of calls and jobs leaves the words of a sequence of calls (`deeds_run`), and the demands hold of it (`deeds_demand3`, `deeds_demand2`,
-- `deeds_demand2_from`), also at every line in the middle of a job (`at_a_line`, `filing_line`, `showing_line`, `withdrawing_line`).
use Prim.Native.Nat.{ℕ, zero, suc, ◌+◌, ◌-◌, ◌≤◌, ◌<◌}
use mathlib.Core.Path.{◌≡◌, refl, sym, ap, ◌∙◌, subst}
use mathlib.Core.Logic.{◌↔◌}
use mathlib.Core.List.{List, [], ◌∷◌, ◌++◌, map, append-nil, append_assoc}
use mathlib.Core.Bool.{Bool, true, false, cond}
use native.Mathlib.Omega.{arith}
use lib.Dec.{ltb}
use lib.ListN.{length, take, drop, get_or, length-replicate}
use Rattle.rules.proofs.Tests.{by_cases}
use Rattle.model.specs.Serial.{valid_serial, valid_fault}
use Rattle.model.specs.Model.{Store}
use Rattle.model.specs.Shape.{Shape, need}
use Rattle.model.specs.Layout.{shape_of, encode, decode, sound}
use Rattle.model.specs.Calls.{Terms, shape_for, Step, open_call}
use Rattle.model.specs.Runs.{Act, perform, Call, Call.acting, words_after, run, events, history, taken, gone, since}
use Rattle.model.specs.Text.{lines_of}
use Rattle.model.specs.Job.{Line, padded, line_of, enough, step_of, answer_text, Tally, counted, Run, run_lines, started, Finished, most_text, job}
use Rattle.model.specs.Deeds.{acts_of, tidy, calls_by, calls_of, step_by, said_by, said, Deed, Deed.calling, Deed.working, words_by, words_by_all, calls_in, calls_in_all}
use Rattle.model.proofs.Look.{look}
use Rattle.model.proofs.Sound.{sound_good}
use Rattle.model.proofs.Fresh.{fresh_sound}
use Rattle.model.proofs.Listed.{Listed}
use Rattle.model.proofs.Demand3.{good_act}
use Rattle.model.proofs.Demand2.{book_of, empty_book}
use Rattle.model.proofs.Outcomes.{read_back, call_cases, opened_fresh, sound_call, shape_call, sound_run}
use Rattle.model.proofs.Demands.{Demand3, Demand2, demand3, demand2, demand2_from}

run_append : (w : List ℕ) (cs ds : List Call) → run w (cs ++ ds) ≡ run (run w cs) ds
run_append w [] ds = refl
run_append w (c ∷ cs) ds = run_append (words_after w c) cs ds

pub tidy_long : (sh : Shape) → need sh ≤ length (tidy sh)
unfolding tidy
tidy_long sh = omega (arith, length-replicate {A = ℕ} (need sh) 0)

-- no acts on a sound store change its shape
pub shape_acts : (w : List ℕ) → sound w ≡ true → (scratch : List ℕ) (acts : List Act) → shape_of (run w (map (acting scratch) acts)) ≡ shape_of w
shape_acts w ok scratch [] = refl
shape_acts w ok scratch (a ∷ acts) = shape_acts (words_after w (acting scratch a)) (sound_call w ok (acting scratch a)) scratch acts ∙ shape_call w ok scratch a

-- no line opens a store, so lines leave the shape that was there
pub shape_lines : (w : List ℕ) → sound w ≡ true → (sh : Shape) (xs : List (List ℕ)) → shape_of (run w (calls_of sh xs)) ≡ shape_of w
shape_lines w ok sh [] = refl
shape_lines w ok sh (x ∷ xs) =
    rw (run_append w (calls_by sh x) (calls_of sh xs))
    (shape_lines (run w (calls_by sh x)) (sound_run w ok (calls_by sh x)) sh xs ∙ shape_acts w ok (tidy sh) (acts_of (line_of x)))

module _ (w : List ℕ) (ok : sound w ≡ true) where
  -- an act with enough scratch
  act_step : (a : Act) → perform (decode w) a ≡ step_by w (a ∷ [])
  act_step a =
      call_cases w (tidy (shape_of w)) a ok (λ o. perform (decode w) a ≡ record { answer = o.answer; store = decode o.words; room = o.room })
      (λ h. absurd (omega (arith, tidy_long (shape_of w))))
      (λ h. rw (read_back (perform (decode w) a).store (good_act (decode w) (sound_good w ok).0 a).fair))

  pub line_step_lem : (l : Line) → step_of (decode w) l ≡ step_by w (acts_of l)
  unfolding step_of
  line_step_lem Line.bad = refl
  line_step_lem (Line.enter f) = act_step (Act.enter (padded f) (length f))
  line_step_lem (Line.show f) = act_step (Act.show (padded f) (length f) enough)
  line_step_lem (Line.withdraw f) = act_step (Act.withdraw (padded f) (length f) enough)
  line_step_lem (Line.file f day code) = act_step (Act.file (padded f) (length f) day code)

  step_store : (l : Line) → (step_by w (acts_of l)).store ≡ decode (run w (map (acting (tidy (shape_of w))) (acts_of l)))
  step_store Line.bad = refl
  step_store (Line.enter f) = refl
  step_store (Line.show f) = refl
  step_store (Line.withdraw f) = refl
  step_store (Line.file f day code) = refl

-- a job that goes through lines from one state to another answers some first ones of them
pub record Through (w : List ℕ) (xs : List (List ℕ)) (from to : Run) : Type 0 where
  pub done : ℕ
  pub lines : to.lines ≡ from.lines + done
  pub store : to.store ≡ decode (run w (calls_of (shape_of w) (take done xs)))
  pub text : to.text ≡ from.text ++ said w (take done xs)

-- the state after one more line
abbrev after : Run → List ℕ → Run
after r x =
    let step = step_of r.store (line_of x) in
    record {
      number = 0;
      lines = suc r.lines;
      text = r.text ++ answer_text (line_of x) step;
      store = step.store;
      tally = counted r.tally r.store (line_of x) step;
    }

module _ (w : List ℕ) (ok : sound w ≡ true) (r : Run) (e : r.store ≡ decode w) (x : List ℕ) where
  same_step : step_of r.store (line_of x) ≡ step_by w (acts_of (line_of x))
  same_step = ap (λ (s : Store). step_of s (line_of x)) e ∙ line_step_lem w ok (line_of x)

  same_store : (after r x).store ≡ decode (run w (calls_by (shape_of w) x))
  same_store = ap (λ (q : Step). q.store) same_step ∙ step_store w ok (line_of x)

  one_more : (xs : List (List ℕ)) (to : Run) → Through (run w (calls_by (shape_of w) x)) xs (after r x) to → Through w (x ∷ xs) r to
  one_more xs to q =
      let next = run w (calls_by (shape_of w) x) in
      let xs' = take q.done xs in
      let later = said next xs' in
      record {
        done = suc q.done;
        lines = omega (arith, q.lines);
        store =
            q.store ∙ ap (λ (sh : Shape). decode (run next (calls_of sh xs'))) (shape_acts w ok (tidy (shape_of w)) (acts_of (line_of x)))
            ∙ ap decode (sym (run_append w (calls_by (shape_of w) x) (calls_of (shape_of w) xs')));
        text =
            q.text ∙ append_assoc r.text (answer_text (line_of x) (step_of r.store (line_of x))) later
            ∙ ap (λ (s : Step). r.text ++ (answer_text (line_of x) s ++ later)) same_step;
      }

-- the same, stopped before a line
abbrev stopped : Run → Run
stopped r = record { number = 10; lines = r.lines; text = r.text; store = r.store; tally = r.tally }

run_step : (x : List ℕ) (xs : List (List ℕ)) (room : ℕ) (r : Run)
    → run_lines (x ∷ xs) room r ≡ cond (ltb room (length r.text + length (answer_text (line_of x) (step_of r.store (line_of x))))) (stopped r) (run_lines xs room (after r x))
unfolding run_lines
run_step x xs room r = refl

run_none : (room : ℕ) (r : Run) → run_lines [] room r ≡ r
unfolding run_lines
run_none room r = refl

either : {A : Type 0} (P : A → Type 0) (b : Bool) (x y : A) → P x → P y → P (cond b x y)
either P true x y p q = p
either P false x y p q = q

pub lines_run : (xs : List (List ℕ)) (w : List ℕ) → sound w ≡ true → (room : ℕ) (r : Run) → r.store ≡ decode w → Through w xs r (run_lines xs room r)
lines_run [] w ok room r e = subst (Through w [] r) (sym (run_none room r)) (record { done = 0; lines = omega arith; store = e; text = sym (append-nil r.text) })
lines_run (x ∷ xs) w ok room r e =
    subst (Through w (x ∷ xs) r) (sym (run_step x xs room r))
    (either (Through w (x ∷ xs) r) (ltb room (length r.text + length (answer_text (line_of x) (step_of r.store (line_of x))))) (stopped r) (run_lines xs room (after r x))
    (record { done = 0; lines = omega arith; store = e; text = sym (append-nil r.text) })
    (one_more w ok r e x xs (run_lines xs room (after r x))
    (lines_run xs (run w (calls_by (shape_of w) x)) (sound_run w ok (calls_by (shape_of w) x)) room (after r x) (same_store w ok r e x))))

-- so the words of the store that the lines leave are read back as that store
pub lines_store : (w : List ℕ) → sound w ≡ true → (xs : List (List ℕ)) (room : ℕ) (t : Tally)
    → let r = run_lines xs room (started (decode w) t) in decode (encode r.store) ≡ r.store
lines_store w ok xs room t =
    let q = lines_run xs w ok room (started (decode w) t) refl in
    let cs = calls_of (shape_of w) (take q.done xs) in
    ap (λ (s : Store). decode (encode s)) q.store ∙ ap decode (sound_good (run w cs) (sound_run w ok cs)).1 ∙ sym q.store

-- a job on the words w that ended so
pub record JobCalls (w text out : List ℕ) (j : Finished) : Type 0 where
  -- the words that it leaves are those that the calls of its answered lines leave
  pub words_are : j.words ≡ run w (calls_of (shape_of w) (take j.lines (lines_of text)))
  -- what it wrote is what those lines say; the output behind stays
  pub bytes_are : j.bytes ≡ length (said w (take j.lines (lines_of text)))
  pub out_is : j.out ≡ said w (take j.lines (lines_of text)) ++ drop j.bytes out

-- one that goes on to its lines
went : (w text out : List ℕ) (t : Tally) → sound w ≡ true → (r : Run) → Through w (lines_of text) (started (decode w) t) r
    → (encode r.store ≡ run w (calls_of (shape_of w) (take r.lines (lines_of text)))) × (r.text ≡ said w (take r.lines (lines_of text)))
went w text out t ok r q =
    let z : r.lines ≡ q.done = omega (arith, q.lines) in
    let cs = calls_of (shape_of w) (take q.done (lines_of text)) in
    rw z (ap encode q.store ∙ (sound_good (run w cs) (sound_run w ok cs)).1, q.text)

pub job_calls : (w : List ℕ) → sound w ≡ true → (scratch text out : List ℕ) (t : Tally) → JobCalls w text out (job w scratch text out t)
unfolding job
job_calls w ok scratch text out t =
    by_cases (ltb (length scratch) (need (shape_of w)))
    (λ h. rw h (record { words_are = refl; bytes_are = refl; out_is = refl }))
    (λ h. rw h (by_cases (ltb most_text (length text))
    (λ m. rw m (record { words_are = refl; bytes_are = refl; out_is = refl }))
    (λ m. let r = run_lines (lines_of text) (length out) (started (decode w) t) in
    let q = went w text out t ok r (lines_run (lines_of text) w ok (length out) (started (decode w) t) refl) in
    rw (m, ok) (record { words_are = q.0; bytes_are = ap length q.1; out_is = ap (λ (l : List ℕ). l ++ drop (length r.text) out) q.1 }))))

-- a job leaves sound words sound, whatever it is given
pub job_sound : (w : List ℕ) → sound w ≡ true → (scratch text out : List ℕ) (t : Tally) → sound (job w scratch text out t).words ≡ true
job_sound w ok scratch text out t =
    let j = job w scratch text out t in
    rw (job_calls w ok scratch text out t).words_are (sound_run w ok (calls_of (shape_of w) (take j.lines (lines_of text))))

-- what lines say, at line k: behind what those before it say stands what it says itself, on the words that they leave
pub said_at : (w : List ℕ) → sound w ≡ true → (xs : List (List ℕ)) (k : ℕ) → k < length xs
    → let sh = shape_of w in
    said w xs ≡ said w (take k xs) ++ (said_by (run w (calls_of sh (take k xs))) (get_or xs k []) ++ said (run w (calls_of sh (take (suc k) xs))) (drop (suc k) xs))
said_at w ok [] k h = absurd (omega arith)
said_at w ok (x ∷ xs) zero h = rw (append-nil (calls_by (shape_of w) x))
said_at w ok (x ∷ xs) (suc k) h =
    let sh = shape_of w in
    let next = run w (calls_by sh x) in
    rw (
      run_append w (calls_by sh x) (calls_of sh (take k xs)),
      run_append w (calls_by sh x) (calls_of sh (take (suc k) xs)),
      subst (λ (s : Shape). said next xs ≡ said next (take k xs) ++ (said_by (run next (calls_of s (take k xs))) (get_or xs k []) ++ said (run next (calls_of s (take (suc k) xs))) (drop (suc k) xs)))
          (shape_acts w ok (tidy sh) (acts_of (line_of x))) (said_at next (sound_run w ok (calls_by sh x)) xs k (omega arith)),
    )
    (sym (append_assoc (said_by w x) (said next (take k xs)) _))

-- sequences

pub deed_run : (w : List ℕ) → sound w ≡ true → (d : Deed) → words_by w d ≡ run w (calls_in w d)
deed_run w ok (calling c) = refl
deed_run w ok (working scratch text out t) = (job_calls w ok scratch text out t).words_are

deed_sound : (w : List ℕ) → sound w ≡ true → (d : Deed) → sound (words_by w d) ≡ true
deed_sound w ok (calling c) = sound_call w ok c
deed_sound w ok (working scratch text out t) = job_sound w ok scratch text out t

pub deeds_run : (w : List ℕ) → sound w ≡ true → (ds : List Deed) → words_by_all w ds ≡ run w (calls_in_all w ds)
deeds_run w ok [] = refl
deeds_run w ok (d ∷ ds) =
    let e = deed_run w ok d in
    let v = words_by w d in
    deeds_run v (deed_sound w ok d) ds ∙ ap (λ (u : List ℕ). run u (calls_in_all v ds)) e ∙ sym (run_append w (calls_in w d) (calls_in_all v ds))

-- demand 2 over calls and jobs in any order, from any sound store on
pub deeds_demand2_from : (w : List ℕ) → sound w ≡ true → (ds : List Deed) → Demand2 w (book_of (decode w)) (calls_in_all w ds) × (words_by_all w ds ≡ run w (calls_in_all w ds))
deeds_demand2_from w ok ds = (demand2_from w ok (calls_in_all w ds), deeds_run w ok ds)

-- the demands over calls and jobs in any order after an accepted Open
module _ (w₀ : List ℕ) (t : Terms) (accepted : (open_call w₀ t).number ≡ 0) where
  abbrev w : List ℕ
  w = (open_call w₀ t).words

  ok : sound w ≡ true
  ok = let o = opened_fresh w₀ t accepted in rw o.1 (fresh_sound (shape_for t) o.0)

  pub deeds_demand3 : (ds : List Deed) → Demand3 (words_by_all w ds) (events w (calls_in_all w ds))
  deeds_demand3 ds = rw (deeds_run w ok ds) (demand3 w₀ t accepted (calls_in_all w ds))

  pub deeds_demand2 : (ds : List Deed) → Demand2 w (empty_book (shape_for t)) (calls_in_all w ds) × (words_by_all w ds ≡ run w (calls_in_all w ds))
  deeds_demand2 ds = (demand2 w₀ t accepted (calls_in_all w ds), deeds_run w ok ds)

  -- the same in the middle of a job, before the line that some lines lead to
  abbrev pub reached : List Deed → List (List ℕ) → List ℕ
  reached ds xs = run (words_by_all w ds) (calls_of (shape_of (words_by_all w ds)) xs)

  abbrev pub calls_to : List Deed → List (List ℕ) → List Call
  calls_to ds xs = calls_in_all w ds ++ calls_of (shape_of (words_by_all w ds)) xs

  pub at_a_line : (ds : List Deed) (xs : List (List ℕ)) → Demand3 (reached ds xs) (events w (calls_to ds xs))
  at_a_line ds xs =
      let ls = calls_of (shape_of (run w (calls_in_all w ds))) xs in
      rw (deeds_run w ok ds, ← (run_append w (calls_in_all w ds) ls)) (demand3 w₀ t accepted (calls_in_all w ds ++ ls))

  -- a filing line that is reached, on a valid serial that is held, with day and code in range: 9 exactly at the fault limit
  pub filing_line : (ds : List Deed) (xs : List (List ℕ)) (x field : List ℕ) (day code : ℕ) → line_of x ≡ Line.file field day code
      → valid_serial (padded field) (length field) ≡ true → valid_fault day code ≡ true
      → length (look (decode (reached ds xs)) (take (length field) (padded field))) ≡ 1
      → let es = events w (calls_to ds xs) in
      ((step_by (reached ds xs) (acts_of (line_of x))).answer.number ≡ 9) ↔ (since taken es 0 - since gone es 0 ≡ (decode (reached ds xs)).shape.fault_limit)
  filing_line ds xs x field day code e v u one =
      let sh = shape_of (reached ds xs) in rw e ((at_a_line ds xs).room (tidy sh) (padded field) (length field) day code (tidy_long sh) v u one)

  -- a line that is reached and done, which shows a card: what it gives and leaves lists the card's history; and one that withdraws a card
  pub showing_line : (ds : List Deed) (xs : List (List ℕ)) (x field : List ℕ) → line_of x ≡ Line.show field
      → let r = step_by (reached ds xs) (acts_of (line_of x)) in
      r.answer.number ≡ 0 → Listed (history (take (length field) (padded field)) (events w (calls_to ds xs)) []) enough r.answer.faults r.room
  showing_line ds xs x field e = rw e ((at_a_line ds xs).shown (tidy (shape_of (reached ds xs))) (padded field) (length field) enough)

  pub withdrawing_line : (ds : List Deed) (xs : List (List ℕ)) (x field : List ℕ) → line_of x ≡ Line.withdraw field
      → let r = step_by (reached ds xs) (acts_of (line_of x)) in
      r.answer.number ≡ 0 → Listed (history (take (length field) (padded field)) (events w (calls_to ds xs)) []) enough r.answer.faults r.room
  withdrawing_line ds xs x field e = rw e ((at_a_line ds xs).withdrawn (tidy (shape_of (reached ds xs))) (padded field) (length field) enough)
