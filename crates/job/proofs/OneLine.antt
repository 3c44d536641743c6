-- One line on the words of a sound store. What is asked by what is told is the line's step (`asked_is`), and its store is good, so the words stay
-- sound and are read back as that store (`line_sound`, `line_back`). A turn is a turn of the model's run: one that fits goes on with the
-- lines left (`turn_on`), one that does not stops it (`turn_stop`).
use Prim.Native.Nat.{ℕ, suc, ◌+◌, ◌≤◌, ◌<◌}
use mathlib.Core.Path.{◌≡◌, refl, sym}
use mathlib.Core.Bool.{true, false, cond, false≢true}
use mathlib.Core.List.{List, ◌∷◌}
use lib.Dec.{ltb}
use lib.ListN.{length, take, drop}
use lib.Seq.{sets, length-sets, length-take-le}
use borrow.Author.Tests.{ne_eqb, ltb-true, ltb-false, lt-ltb, le-ltb}
use Rattle.rules.proofs.Tests.{by_cases}
use Rattle.model.specs.Model.{Store}
use Rattle.model.specs.Layout.{encode, decode, sound}
use Rattle.model.specs.Calls.{Answer, Step}
use Rattle.model.specs.Job.{Line, bad, enter, show, withdraw, file, padded, enough, line_of, step_of, listed, answer_text, counted, Run, run_lines, Tally}
use Rattle.model.specs.Runs as Runs
use Rattle.model.specs.Runs.{Act}
use Rattle.model.proofs.Refused.{refused_act}
use Rattle.model.proofs.Fair.{Good}
use Rattle.model.proofs.Sound.{good_sound, sound_good}
use Rattle.model.proofs.Demand3.{good_act}
use Rattle.model.proofs.Outcomes.{read_back}
use Rattle.text.proofs.Putting.{put_front, put_rest}
use Rattle.std.proofs.Common.{Some, None}
use Rattle.job.specs.Told.{Told, held, request_in}
use Rattle.job.specs.Turns.{asked, listing, turn_of}
use Rattle.job.specs.declared.fields.Request.{Request}
use Rattle.job.specs.declared.fields.Request.TheVariants.{Enter, Withdraw, File, Show}

-- the step of a line is what is told of it, asked
told_bad : (q : Request) → Some q ≡ None → ⊥
told_bad q e = cc

told_one : (q r : Request) → Some q ≡ Some r → q ≡ r
told_one q r e = cc

pub asked_is : (s : Store) (l : Line) (q : Request) → Told l (Some q) → asked s q ≡ step_of s l
unfolding step_of request_in held
asked_is s bad q t = absurd (told_bad q t)
asked_is s (enter f) q t = rw (told_one q _ t)
asked_is s (show f) q t = rw (told_one q _ t)
asked_is s (withdraw f) q t = rw (told_one q _ t)
asked_is s (file f day code) q t = rw (told_one q _ t)

-- and what its answer lists, once it is done, goes by what is asked; what is refused lists nothing
pub listed_done : (l : Line) (q : Request) (a : Answer) → Told l (Some q) → a.number ≡ 0 → listed l a ≡ cond (listing q) a.faults 0
unfolding listed request_in
listed_done bad q a t z = absurd (told_bad q t)
listed_done (enter f) q a t z = rw (told_one q _ t)
listed_done (show f) q a t z = rw (told_one q _ t, z)
listed_done (withdraw f) q a t z = rw (told_one q _ t, z)
listed_done (file f day code) q a t z = rw (told_one q _ t)

pub listed_refused : (l : Line) (a : Answer) → (a.number ≡ 0 → ⊥) → listed l a ≡ 0
unfolding listed
listed_refused bad a n = refl
listed_refused (enter f) a n = refl
listed_refused (show f) a n = rw (ne_eqb a.number 0 n)
listed_refused (withdraw f) a n = rw (ne_eqb a.number 0 n)
listed_refused (file f day code) a n = refl

-- what is refused leaves the store
pub refused_stays : (s : Store) → Good s → (l : Line) → ((step_of s l).answer.number ≡ 0 → ⊥) → (step_of s l).store ≡ s
unfolding step_of
refused_stays s g bad n = refl
refused_stays s g (enter f) n = (refused_act s g (Act.enter (padded f) (length f)) n).0
refused_stays s g (show f) n = (refused_act s g (Act.show (padded f) (length f) enough) n).0
refused_stays s g (withdraw f) n = (refused_act s g (Act.withdraw (padded f) (length f) enough) n).0
refused_stays s g (file f day code) n = (refused_act s g (Act.file (padded f) (length f) day code) n).0

-- a line leaves a good store

good_line : (s : Store) → Good s → (l : Line) → Good (step_of s l).store
unfolding step_of
good_line s g bad = g
good_line s g (enter f) = good_act s g (Runs.enter (padded f) (length f))
good_line s g (show f) = good_act s g (Runs.show (padded f) (length f) enough)
good_line s g (withdraw f) = good_act s g (Runs.withdraw (padded f) (length f) enough)
good_line s g (file f day code) = good_act s g (Runs.file (padded f) (length f) day code)

good_asked : (s : Store) → Good s → (q : Request) → Good (asked s q).store
good_asked s g (Enter x) = good_act s g (Runs.enter x.bytes x.len)
good_asked s g (Withdraw x) = good_act s g (Runs.withdraw x.bytes x.len enough)
good_asked s g (File x f) = good_act s g (Runs.file x.bytes x.len f.day f.code)
good_asked s g (Show x) = good_act s g (Runs.show x.bytes x.len enough)

pub asked_sound : (w : List ℕ) → sound w ≡ true → (q : Request) → sound (encode (asked (decode w) q).store) ≡ true
asked_sound w ok q = good_sound _ (good_asked (decode w) (sound_good w ok).0 q)

module _ (w : List ℕ) (ok : sound w ≡ true) (l : Line) where
  pub line_sound : sound (encode (step_of (decode w) l).store) ≡ true
  line_sound = good_sound _ (good_line (decode w) (sound_good w ok).0 l)

  pub line_back : decode (encode (step_of (decode w) l).store) ≡ (step_of (decode w) l).store
  line_back = read_back _ (good_line (decode w) (sound_good w ok).0 l).fair

-- the run of a job after some lines, with its text at the front of the output
abbrev pub run_at : ℕ → List ℕ → List ℕ → ℕ → Tally → Run
run_at lines w out at t = record { number = 0; lines = lines; text = take at out; store = decode w; tally = t }

-- a turn whose answer fits, and one whose answer does not
module _ (w x out : List ℕ) (at : ℕ) (t : Tally) where
  abbrev pub line_step : Step
  line_step = step_of (decode w) (line_of x)

  abbrev pub line_answer : List ℕ
  line_answer = answer_text (line_of x) (step_of (decode w) (line_of x))

  pub turn_fits : (turn_of w x out at t).fits ≡ true
      → (at + length line_answer ≤ length out)
      × (turn_of w x out at t ≡ record { fits = true; words = encode line_step.store; out = sets out at line_answer; end = at + length line_answer; tally = counted t (decode w) (line_of x) line_step })
  unfolding turn_of
  turn_fits =
      by_cases (ltb (length out) (at + length line_answer))
      (λ e. rw e (λ f. absurd (false≢true f)))
      (λ e. rw e (λ f. (ltb-false (length out) (at + length line_answer) e, refl)))

  pub turn_over : (turn_of w x out at t).fits ≡ false
      → (length out < at + length line_answer) × (turn_of w x out at t ≡ record { fits = false; words = w; out = out; end = at; tally = t })
  unfolding turn_of
  turn_over =
      by_cases (ltb (length out) (at + length line_answer))
      (λ e. rw e (λ f. (ltb-true (length out) (at + length line_answer) e, refl)))
      (λ e. rw e (λ f. absurd (false≢true (sym f))))

  -- what a turn that fits leaves: sound words, an output as long, with the text in front and behind it what was there
  module _ (f : (turn_of w x out at t).fits ≡ true) where
    pub turn_sound : sound w ≡ true → sound (turn_of w x out at t).words ≡ true
    turn_sound ok = rw (turn_fits f).1 (line_sound w ok (line_of x))

    pub turn_long : length (turn_of w x out at t).out ≡ length out
    turn_long = rw (turn_fits f).1 (length-sets out at line_answer)

    pub turn_inside : (turn_of w x out at t).end ≤ length out
    turn_inside = rw (turn_fits f).1 (turn_fits f).0

    pub turn_rest : (out₀ : List ℕ) → drop at out ≡ drop at out₀ → drop (turn_of w x out at t).end (turn_of w x out at t).out ≡ drop (turn_of w x out at t).end out₀
    turn_rest out₀ e = rw (turn_fits f).1 (put_rest out out₀ line_answer at (turn_fits f).0 e)

  -- so the model's run, once its text stands at the front of the output, goes on or stops as the turn does
  module _ (lines : ℕ) (xs : List (List ℕ)) (h : at ≤ length out) where
    front : length (take at out) ≡ at
    front = length-take-le at out h

    pub turn_on : sound w ≡ true → (turn_of w x out at t).fits ≡ true
        → run_lines (x ∷ xs) (length out) (run_at lines w out at t)
        ≡ run_lines xs (length out) (run_at (suc lines) (turn_of w x out at t).words (turn_of w x out at t).out (turn_of w x out at t).end (turn_of w x out at t).tally)
    unfolding run_lines
    turn_on ok f =
        let g = turn_fits f in
        rw (g.1, front, le-ltb (length out) (at + length line_answer) g.0, put_front out line_answer at g.0, line_back w ok (line_of x))

    pub turn_stop : (turn_of w x out at t).fits ≡ false
        → run_lines (x ∷ xs) (length out) (run_at lines w out at t) ≡ record { number = 10; lines = lines; text = take at out; store = decode w; tally = t }
    unfolding run_lines
    turn_stop f = rw (front, lt-ltb (length out) (at + length line_answer) (turn_over f).0)
