-- A turn of the program: from the plan of a line and its pairs, the answer's text is the model's (`same_answer`), so both ways out of a turn
-- leave what the line leaves (`ahead_stops`, `ahead_answers`, `stay_stops`, `stay_answers`).
use Prim.Native.Nat.{ℕ, ◌+◌, ◌≤◌, ◌<◌}
use mathlib.Core.Path.{◌≡◌, refl, sym, ap, ◌∙◌}
use mathlib.Core.Bool.{true}
use mathlib.Core.List.{List, []}
use native.Mathlib.Omega.{arith}
use lib.ListN.{length}
use borrow.Author.Tests.{lt-ltb, le-ltb}
use Rattle.std.proofs.Common.{Some, None}
use Rattle.model.specs.Model.{size}
use Rattle.model.specs.Shape.{faults_ever}
use Rattle.model.specs.Layout.{encode, decode, sound}
use Rattle.model.specs.Calls.{Step}
use Rattle.model.specs.Job.{Line, line_of, step_of, pair_text, listed, answer_text, counted}
use Rattle.model.proofs.Sound.{sound_good, words_stay}
use Rattle.text.specs.Decimals.{Puts}
use Rattle.store.specs.Leaves.{Gives}
use Rattle.store.specs.Plans.{Refuses}
use Rattle.store.specs.declared.answer.Answer.{Answer}
use Rattle.job.specs.Told.{Told}
use Rattle.job.specs.Answers.{AnswerLong, answer_of}
use Rattle.job.specs.Counts.{tally_of, counted_by}
use Rattle.job.specs.Turns.{asked, GoesAhead, Lists, turn_of, Turns}
use Rattle.job.specs.declared.turn.Ahead.{Ahead}
use Rattle.job.specs.declared.tally.Tally.{Tally}
use Rattle.job.proofs.AnswerLaws.{answer_text_lem}
use Rattle.job.proofs.Counting.{counted_done, counted_refused}
use Rattle.job.proofs.OneLine.{asked_is, listed_done, listed_refused, refused_stays, line_back}

-- the text of an answer and the pairs in a room
abbrev pub plan_text : Answer → ℕ → List ℕ → List ℕ
plan_text a count room = answer_of a.number a.comparisons a.scanned a.faults count room

-- the room is read by its pairs alone
other_room : (a b c d count : ℕ) (room other : List ℕ) → pair_text count room ≡ pair_text count other → answer_of a b c d count room ≡ answer_of a b c d count other
unfolding answer_of
other_room a b c d count room other e = rw e

same_answer : (l : Line) (r : Step) (a : Answer) (count : ℕ) (room : List ℕ) → Gives r.answer a → count ≡ listed l r.answer → pair_text count room ≡ pair_text count r.room
    → plan_text a count room ≡ answer_text l r
same_answer l r a count room g n t =
    other_room a.number a.comparisons a.scanned a.faults count room r.room t
    ∙ rw (g.number_is, g.comparisons_are, g.scanned_is, g.faults_are, n, answer_text_lem l r)

-- the two ways out, from what the line answers, leaves and counts
module _ (w x : List ℕ) (ok : sound w ≡ true) (a : Answer) (count : ℕ) (room : List ℕ) (text : plan_text a count room ≡ answer_text (line_of x) (step_of (decode w) (line_of x)))
    (out : List ℕ) (at : ℕ) (t : Tally) {long : ℕ} (long_is : AnswerLong (plan_text a count room) count long) where
  stops : length out < at + long → Turns (turn_of w x out at (tally_of t)) at None w out
  unfolding turn_of
  stops h =
      rw (← text, lt-ltb (length out) (at + length (plan_text a count room)) (omega (arith, long_is.is)))
      (record { fits_is = refl; ended = tt; words_are = refl; out_is = refl })

  answers : at + long ≤ length out → count ≤ faults_ever → {end : ℕ} {out' words' : List ℕ} {sum : Tally} → Puts out at (plan_text a count room) end out'
      → words' ≡ encode (step_of (decode w) (line_of x)).store → tally_of sum ≡ counted (tally_of t) (decode w) (line_of x) (step_of (decode w) (line_of x))
      → Turns (turn_of w x out at (tally_of t)) at (Some (record { end = end; tally = sum })) words' out'
  unfolding turn_of
  answers h few puts words sum =
      rw (← text, le-ltb (length out) (at + length (plan_text a count room)) (omega (arith, long_is.is)))
      (record {
        fits_is = refl;
        ended = record { end_is = puts.end_is; tally_is = sum; most = omega (arith, puts.end_is, long_is.is, long_is.most, few) };
        words_are = words;
        out_is = puts.out_is;
      })

-- a line that goes ahead
module _ (w x : List ℕ) (ok : sound w ≡ true) (a : Ahead) (told : Told (line_of x) (Some a.request)) (p : GoesAhead w a) (count : ℕ) (room : List ℕ) (l : Lists (decode w) a.request count room) where
  step : asked (decode w) a.request ≡ step_of (decode w) (line_of x)
  step = asked_is (decode w) (line_of x) a.request told

  done : (step_of (decode w) (line_of x)).answer.number ≡ 0
  done = ap (λ (r : Step). r.answer.number) (sym step) ∙ sym p.answer.number_is ∙ p.done

  ahead_text : plan_text a.plan.answer count room ≡ answer_text (line_of x) (step_of (decode w) (line_of x))
  ahead_text =
      let k = line_of x in
      let r = step_of (decode w) k in
      same_answer k r a.plan.answer count room (rw (← step) p.answer) (rw (listed_done k a.request r.answer told done, ← step) l.count_is) (rw (← step) l.text_is)

  pub ahead_leaves : {words : List ℕ} → words ≡ encode (asked (decode w) a.request).store → words ≡ encode (step_of (decode w) (line_of x)).store
  ahead_leaves h = h ∙ ap (λ (r : Step). encode r.store) step

  module _ (out : List ℕ) (at : ℕ) (t : Tally) {long : ℕ} (long_is : AnswerLong (plan_text a.plan.answer count room) count long) where
    pub ahead_stops : length out < at + long → Turns (turn_of w x out at (tally_of t)) at None w out
    ahead_stops = stops w x ok a.plan.answer count room ahead_text out at t long_is

    pub ahead_answers : at + long ≤ length out → {end : ℕ} {out' words' : List ℕ} {sum : Tally} {before after : ℕ} → Puts out at (plan_text a.plan.answer count room) end out'
        → words' ≡ encode (asked (decode w) a.request).store → before ≡ size (decode w) → after ≡ size (decode words')
        → tally_of sum ≡ counted_by (tally_of t) (Some a.request) before after a.plan.answer.comparisons
        → Turns (turn_of w x out at (tally_of t)) at (Some (record { end = end; tally = sum })) words' out'
    ahead_answers h puts words before after sum =
        let k = line_of x in
        let r = step_of (decode w) k in
        answers w x ok a.plan.answer count room ahead_text out at t long_is h l.few puts (ahead_leaves words)
        (sum ∙ rw (before, after, ahead_leaves words, line_back w ok k, p.answer.comparisons_are, step) (sym (counted_done (tally_of t) (decode w) r k a.request told done)))

-- a line that is refused
module _ (w x : List ℕ) (ok : sound w ≡ true) (a : Answer) (p : Refuses (step_of (decode w) (line_of x)).answer a) where
  not_done : (step_of (decode w) (line_of x)).answer.number ≡ 0 → ⊥
  not_done z = p.refused (p.answer.number_is ∙ z)

  stays : (step_of (decode w) (line_of x)).store ≡ decode w
  stays = refused_stays (decode w) (sound_good w ok).0 (line_of x) not_done

  stay_text : plan_text a 0 [] ≡ answer_text (line_of x) (step_of (decode w) (line_of x))
  unfolding pair_text
  stay_text =
      let k = line_of x in
      let r = step_of (decode w) k in
      same_answer k r a 0 [] p.answer (sym (listed_refused k r.answer not_done)) refl

  module _ (out : List ℕ) (at : ℕ) (t : Tally) {long : ℕ} (long_is : AnswerLong (plan_text a 0 []) 0 long) where
    pub stay_stops : length out < at + long → Turns (turn_of w x out at (tally_of t)) at None w out
    stay_stops = stops w x ok a 0 [] stay_text out at t long_is

    pub stay_answers : at + long ≤ length out → {end : ℕ} {out' : List ℕ} {sum : Tally} → Puts out at (plan_text a 0 []) end out'
        → tally_of sum ≡ counted_by (tally_of t) None 0 0 a.comparisons
        → Turns (turn_of w x out at (tally_of t)) at (Some (record { end = end; tally = sum })) w out'
    stay_answers h puts sum =
        let k = line_of x in
        let r = step_of (decode w) k in
        answers w x ok a 0 [] stay_text out at t long_is h (omega arith) puts (words_stay w ok stays)
        (sum ∙ rw p.answer.comparisons_are (sym (counted_refused (tally_of t) (decode w) r k not_done (ap size stays))))
