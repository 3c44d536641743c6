-- Demands 2 and 3 of the program over every sequence of its calls and jobs, in any order, after an accepted Open. A job that meets its
-- contract leaves what the model's job leaves; the model's job is the calls of its answered lines, and what it writes is what those
-- lines say (`job_says`), so its answer lines, read back, tell what those calls answer. So the program walks with the model's sequence of calls
-- (`same_words`, `same_events`, `same_tells`), and the model's theorems hold of what the program gave and wrote.
-- One line of a job that was answered: where its answer stands in the output (`line_said`), when a filing is answered by 9 (`filing_answered`),
-- and that the pairs in the answer of a Show or a Withdraw list the card's history (`showing_answered`, `withdrawing_answered`).
-- Limits and bounds are those that the last accepted Open was asked for (`program_shape`). The table has no more than the most buckets
-- (`program_top`), and without an accepted Open format and bounds stay (`program_for_life`).
use mathlib.Core.Path.{◌≡◌, refl, sym, ap, ◌∙◌}
use mathlib.Core.Logic.{◌↔◌}
use mathlib.Core.Bool.{true}
use mathlib.Core.List.{List, [], ◌∷◌, ◌++◌, map, append_assoc, append-nil}
use Prim.Native.Nat.{ℕ, suc, ◌-◌, ◌*◌, ◌≤◌, ◌<◌}
use native.Mathlib.Omega.{arith}
use lib.ListN.{length, take, drop, get_or}
use lib.Seq.{length-take-le, take-take, take_at, get_or-take}
use Rattle.model.specs.Serial.{valid_serial, valid_fault}
use Rattle.model.specs.Shape.{Shape, top_of}
use Rattle.model.specs.Layout.{shape_of, sound, decode_as, decode}
use Rattle.model.specs.Meaning.{buckets_in}
use Rattle.model.specs.Calls.{Answer, Step, Terms, shape_for, open_call}
use Rattle.model.specs.Plain.{Book}
use Rattle.model.specs.Runs.{Act, Call, Call.acting, run, Event, events_of, events, history, taken, gone, since, Tell, tells, book_after, book_tells}
use Rattle.model.specs.Text.{lines_of}
use Rattle.model.specs.Job.{Line, line_of, padded, enough, listed, answer_text}
use Rattle.model.specs.Deeds.{acts_of, calls_of, step_by, said_by, said, words_by, words_by_all, calls_in, calls_in_all}
use Rattle.model.specs.Heard.{number_in, pairs_in, seen_in, told_in}
use Rattle.model.proofs.Demand2.{Agrees, book_of, empty_book}
use Rattle.model.proofs.Demands.{Demand3, Demand2, book_run}
use Rattle.model.proofs.Look.{look}
use Rattle.model.proofs.Listed.{ByDay, Listed}
use Rattle.model.proofs.Outcomes.{sound_run}
use Rattle.model.proofs.Buckets.{NoneOpened, SameTerms, top_holds, kept_for_life}
use Rattle.model.proofs.Deeds.{shape_lines, job_calls, said_at, deed_run, deeds_run, deeds_demand3, deeds_demand2, deeds_demand2_from, filing_line, showing_line, withdrawing_line}
use Rattle.model.proofs.Heard.{events_append, tells_append, said_seen, said_told, seen_before_lem, number_read, pairs_read}
use Rattle.model.proofs.Jobs.{lines_few}
use Rattle.store.specs.Leaves.{Opens}
use Rattle.store.specs.Sequences as Calls
use Rattle.store.proofs.ProgramDemands as Program
use Rattle.store.proofs.ProgramDemands.{left_words, shape_left, opened_words, shown_listed, withdrawn_listed}
use Rattle.job.specs.Counts.{tally_of}
use Rattle.job.specs.Sequences.{Left, Works, Made, Made.called, Made.worked, asked_in, left_by, Meets, AllMeet, end_words, lines_done, lines_written, seen, seen_of, terms_by, last_asked, told, told_of, calls_to, calls_to_all}
use Rattle.job.specs.declared.tally.Tally.{Tally}

-- a text stands in an output behind another
pub record Stands (out front text : List ℕ) : Type 0 where
  pub rest : List ℕ
  pub out_is : out ≡ front ++ (text ++ rest)

-- a done line lists all faults of its answer

show_lists : (field : List ℕ) (l : Line) (a : Answer) → l ≡ Line.show field → a.number ≡ 0 → listed l a ≡ a.faults
unfolding listed
show_lists field l a e z = rw (e, z)

withdraw_lists : (field : List ℕ) (l : Line) (a : Answer) → l ≡ Line.withdraw field → a.number ≡ 0 → listed l a ≡ a.faults
unfolding listed
withdraw_lists field l a e z = rw (e, z)

-- a job on sound words

module _ (w : List ℕ) (ok : sound w ≡ true) (scratch text out : List ℕ) (t : Tally) (l : Left) (e : Works w scratch text out t l) where
  -- it leaves the words of its lines' calls and writes what those lines say; the output behind stays
  pub job_says : (l.words ≡ run w (calls_of (shape_of w) (lines_done text l))) × (l.out ≡ said w (lines_done text l) ++ drop l.done.bytes out)
  job_says =
      let j = job_calls w ok scratch text out (tally_of t) in
      rw (e.lines_are, e.bytes_are) (e.words_are ∙ j.words_are, e.out_is ∙ j.out_is)

  written_is : take l.done.bytes l.out ≡ said w (lines_done text l)
  written_is =
      let long : length (said w (lines_done text l)) ≡ l.done.bytes = rw (e.lines_are, e.bytes_are) (sym (job_calls w ok scratch text out (tally_of t)).bytes_are) in
      ap (take l.done.bytes) job_says.1 ∙ take_at (said w (lines_done text l)) (drop l.done.bytes out) l.done.bytes long

  job_seen : seen_in (lines_done text l) (lines_written l) ≡ events w (calls_of (shape_of w) (lines_done text l))
  job_seen =
      ap (λ (s : List ℕ). seen_in (lines_done text l) (lines_of s)) (written_is ∙ sym (append-nil (said w (lines_done text l)))) ∙ said_seen w ok (lines_done text l) []

  job_told : told_in (lines_done text l) (lines_written l) ≡ tells w (calls_of (shape_of w) (lines_done text l))
  job_told =
      ap (λ (s : List ℕ). told_in (lines_done text l) (lines_of s)) (written_is ∙ sym (append-nil (said w (lines_done text l)))) ∙ said_told w ok (lines_done text l) []

  -- at line k of those answered
  module _ (k : ℕ) (h : k < l.done.lines) where
    line_in : k < length (lines_done text l)
    line_in =
        let few : l.done.lines ≤ length (lines_of text) = rw e.lines_are (lines_few w scratch text out (tally_of t)) in
        omega (arith, length-take-le l.done.lines (lines_of text) few)

    before_is : take k (lines_done text l) ≡ take k (lines_of text)
    before_is = take-take k l.done.lines (lines_of text) (omega arith)

    at_is : get_or (lines_done text l) k [] ≡ get_or (lines_of text) k []
    at_is = get_or-take l.done.lines (lines_of text) k [] h

    -- its answer stands behind those of the lines before it, on the words that they leave
    line_stands : Stands l.out (said w (take k (lines_of text))) (said_by (run w (calls_of (shape_of w) (take k (lines_of text)))) (get_or (lines_of text) k []))
    line_stands =
        let xs = lines_done text l in
        let more = said (run w (calls_of (shape_of w) (take (suc k) xs))) (drop (suc k) xs) in
        let behind = drop l.done.bytes out in
        record {
          rest = more ++ behind;
          out_is =
              job_says.1
              ∙ ap (λ (s : List ℕ). s ++ behind) (said_at w ok xs k line_in)
              ∙ rw (before_is, at_is, append_assoc (said w (take k (lines_of text))) _ behind, append_assoc (said_by _ (get_or (lines_of text) k [])) more behind);
        }

    -- what its answer line and those before it tell
    seen_earlier : seen_in (take k (lines_of text)) (lines_written l) ≡ events w (calls_of (shape_of w) (take k (lines_of text)))
    seen_earlier = rw (written_is, ← before_is) (seen_before_lem w ok (lines_done text l) k line_in)

    number_written : number_in (get_or (lines_written l) k []) ≡ (step_by (run w (calls_of (shape_of w) (take k (lines_of text)))) (acts_of (line_of (get_or (lines_of text) k [])))).answer.number
    number_written = rw (written_is, ← before_is, ← at_is) (number_read w ok (lines_done text l) k line_in)

    -- the pairs in its answer line are those at the front of the room that its step leaves
    pairs_written : let x = line_of (get_or (lines_of text) k []) in
        let r = step_by (run w (calls_of (shape_of w) (take k (lines_of text)))) (acts_of x) in
        pairs_in (get_or (lines_written l) k []) ≡ take (2 * listed x r.answer) r.room
    pairs_written = rw (written_is, ← before_is, ← at_is) (pairs_read w ok (lines_done text l) k line_in)

-- one call or one job

left_is : (w : List ℕ) (m : Made) → Meets w m → left_by m ≡ words_by w (asked_in m)
left_is w (called m) e = left_words w m.call m.gives e
left_is w (worked scratch text out t l) e = e.words_are

module _ (w : List ℕ) (ok : sound w ≡ true) where
  left_run : (m : Made) → Meets w m → left_by m ≡ run w (calls_in w (asked_in m))
  left_run m e = left_is w m e ∙ deed_run w ok (asked_in m)

  left_sound : (m : Made) → Meets w m → sound (left_by m) ≡ true
  left_sound m e = rw (left_run m e) (sound_run w ok (calls_in w (asked_in m)))

  seen_is : (m : Made) → Meets w m → seen m ≡ events w (calls_in w (asked_in m))
  seen_is (called m) e = Program.seen_is w m.call m.gives e ∙ sym (append-nil (events_of w m.call))
  seen_is (worked scratch text out t l) e =
      job_seen w ok scratch text out t l e ∙ ap (λ (n : ℕ). events w (calls_of (shape_of w) (take n (lines_of text)))) e.lines_are

  told_is : (m : Made) → Meets w m → told m ≡ tells w (calls_in w (asked_in m))
  told_is (called m) e = ap (λ (t : Tell). t ∷ []) (Program.told_is w m.call m.gives e)
  told_is (worked scratch text out t l) e =
      job_told w ok scratch text out t l e ∙ ap (λ (n : ℕ). tells w (calls_of (shape_of w) (take n (lines_of text)))) e.lines_are

  -- no line of a job opens, so a job leaves the shape that was there
  shape_is : (t : Terms) → shape_of w ≡ shape_for t → (m : Made) → Meets w m → shape_of (left_by m) ≡ shape_for (terms_by t m)
  shape_is t h (called m) e = shape_left w ok t h m.call m.gives e
  shape_is t h (worked scratch text out tally l) e =
      rw (job_says w ok scratch text out tally l e).0 (shape_lines w ok (shape_of w) (lines_done text l) ∙ h)

  -- a list of the same shape is asked the same
  calls_are : (b : Book) → Agrees b (decode w) → (m : Made) → Meets w m → calls_to b m ≡ calls_in w (asked_in m)
  unfolding decode_as
  calls_are b g (called m) e = refl
  calls_are b g (worked scratch text out t l) e = rw (g.shape, e.lines_are)

-- a sequence

same_words : (w : List ℕ) (ms : List Made) → AllMeet w ms → end_words w ms ≡ words_by_all w (map asked_in ms)
same_words w [] a = refl
same_words w (m ∷ ms) a = same_words (left_by m) ms a.1 ∙ ap (λ (v : List ℕ). words_by_all v (map asked_in ms)) (left_is w m a.0)

same_events : (w : List ℕ) → sound w ≡ true → (ms : List Made) → AllMeet w ms → seen_of ms ≡ events w (calls_in_all w (map asked_in ms))
same_events w ok [] a = refl
same_events w ok (m ∷ ms) a =
    let d = asked_in m in
    rw (seen_is w ok m a.0, events_append w (calls_in w d) (calls_in_all (words_by w d) (map asked_in ms)), ← (deed_run w ok d), ← (left_is w m a.0))
    (ap (λ (es : List Event). events w (calls_in w d) ++ es) (same_events (left_by m) (left_sound w ok m a.0) ms a.1))

same_tells : (w : List ℕ) → sound w ≡ true → (ms : List Made) → AllMeet w ms → told_of ms ≡ tells w (calls_in_all w (map asked_in ms))
same_tells w ok [] a = refl
same_tells w ok (m ∷ ms) a =
    let d = asked_in m in
    rw (told_is w ok m a.0, tells_append w (calls_in w d) (calls_in_all (words_by w d) (map asked_in ms)), ← (deed_run w ok d), ← (left_is w m a.0))
    (ap (λ (ts : List Tell). tells w (calls_in w d) ++ ts) (same_tells (left_by m) (left_sound w ok m a.0) ms a.1))

same_shape : (w : List ℕ) → sound w ≡ true → (t : Terms) → shape_of w ≡ shape_for t → (ms : List Made) → AllMeet w ms → shape_of (end_words w ms) ≡ shape_for (last_asked t ms)
same_shape w ok t h [] a = h
same_shape w ok t h (m ∷ ms) a = same_shape (left_by m) (left_sound w ok m a.0) (terms_by t m) (shape_is w ok t h m a.0) ms a.1

-- a list that agrees with the store goes on doing so, and is asked the same calls
same_calls : (w : List ℕ) → sound w ≡ true → (b : Book) → Agrees b (decode w) → (ms : List Made) → AllMeet w ms → calls_to_all b ms ≡ calls_in_all w (map asked_in ms)
same_calls w ok b g [] a = refl
same_calls w ok b g (m ∷ ms) a =
    let d = asked_in m in
    let next : Agrees (book_after b (calls_in w d)) (decode (left_by m)) = rw (left_run w ok m a.0) (book_run w ok b g (calls_in w d)).agrees in
    rw (calls_are w ok b g m a.0, ← (left_is w m a.0))
    (ap (λ (cs : List Call). calls_in w d ++ cs) (same_calls (left_by m) (left_sound w ok m a.0) (book_after b (calls_in w d)) next ms a.1))

-- each answer that the program gave or wrote is that of a plain list, and the store and the list agree on every serial at the end
pub record AsList (w : List ℕ) (b : Book) (ms : List Made) : Type 0 where
  pub answers : told_of ms ≡ book_tells b (calls_to_all b ms)
  pub agrees : Agrees (book_after b (calls_to_all b ms)) (decode (end_words w ms))

as_list : (w : List ℕ) → sound w ≡ true → (b : Book) → Agrees b (decode w) → (ms : List Made) → AllMeet w ms
    → Demand2 w b (calls_in_all w (map asked_in ms)) × (words_by_all w (map asked_in ms) ≡ run w (calls_in_all w (map asked_in ms))) → AsList w b ms
as_list w ok b g ms a d =
    let q = same_calls w ok b g ms a in
    record { answers = rw q (same_tells w ok ms a ∙ d.0.same_tells); agrees = rw (q, same_words w ms a, d.1) d.0.agrees }

-- from any sound store on, with the list of its own cards
pub program_demand2_from : (w : List ℕ) → sound w ≡ true → (ms : List Made) → AllMeet w ms → AsList w (book_of (decode w)) ms
program_demand2_from w ok ms a = as_list w ok (book_of (decode w)) (deeds_demand2_from w ok []).0.agrees ms a (deeds_demand2_from w ok (map asked_in ms))

-- from any sound store on: no more than the most buckets, and the words for the format and the bounds as they were where no Open was answered by 0
module _ (w : List ℕ) (ok : sound w ≡ true) (ms : List Made) (a : AllMeet w ms) where
  abbrev cs : List Call
  cs = calls_in_all w (map asked_in ms)

  end_words_lem : end_words w ms ≡ run w cs
  end_words_lem = same_words w ms a ∙ deeds_run w ok (map asked_in ms)

  pub program_top : buckets_in (end_words w ms) ≤ top_of (shape_of (end_words w ms))
  program_top = rw end_words_lem (top_holds (run w cs) (sound_run w ok cs))

  pub program_for_life : NoneOpened (seen_of ms) → SameTerms w (end_words w ms)
  program_for_life n = rw end_words_lem (kept_for_life w ok cs (rw (← (same_events w ok ms a)) n))

module _ (w₀ w : List ℕ) (asked : Terms) (o : Opens (open_call w₀ asked) 0 w) (ms : List Made) (a : AllMeet w ms) where
  opened_sound : sound w ≡ true
  opened_sound =
      let e = opened_words w₀ w asked o in rw e.1 (deeds_demand3 w₀ asked e.0 []).stays_sound

  pub program_demand3 : Demand3 (end_words w ms) (seen_of ms)
  program_demand3 =
      let e = opened_words w₀ w asked o in
      rw (same_words w ms a, same_events w opened_sound ms a, e.1) (deeds_demand3 w₀ asked e.0 (map asked_in ms))

  -- the words tell the limits and the bounds that the last accepted Open was asked for
  pub program_shape : shape_of (end_words w ms) ≡ shape_for (last_asked asked ms)
  program_shape = same_shape w opened_sound asked (Program.program_shape w₀ w asked o [] tt) ms a

  -- a further Show, or Withdraw, that was answered by 0: what it gave and left lists the history of the serial
  pub program_shown : (scratch bytes room : List ℕ) (n : ℕ) (g : Calls.Given) → Calls.Meets (end_words w ms) (acting scratch (Act.show bytes n room)) g
      → g.answer.number ≡ 0 → Listed (history (take n bytes) (seen_of ms) []) room g.answer.faults g.room
  program_shown = shown_listed (end_words w ms) (seen_of ms) program_demand3

  pub program_withdrawn : (scratch bytes room : List ℕ) (n : ℕ) (g : Calls.Given) → Calls.Meets (end_words w ms) (acting scratch (Act.withdraw bytes n room)) g
      → g.answer.number ≡ 0 → Listed (history (take n bytes) (seen_of ms) []) room g.answer.faults g.room
  program_withdrawn = withdrawn_listed (end_words w ms) (seen_of ms) program_demand3

  -- from an accepted Open on, with an empty list
  pub program_demand2 : AsList w (empty_book (shape_for asked)) ms
  program_demand2 =
      let e = opened_words w₀ w asked o in
      let g = deeds_demand2 w₀ asked e.0 [] in
      let d = deeds_demand2 w₀ asked e.0 (map asked_in ms) in
      as_list w opened_sound (empty_book (shape_for asked)) (rw e.1 g.0.agrees) ms a (rw e.1 d)

  -- a further job, and line k of it, which was answered
  module _ (scratch text out : List ℕ) (t : Tally) (l : Left) (e : Works (end_words w ms) scratch text out t l) (k : ℕ) (h : k < l.done.lines) where
    -- the lines before it, the words that they leave, and its bytes
    abbrev pub earlier : List (List ℕ)
    earlier = take k (lines_of text)

    abbrev pub reached : List ℕ
    reached = run (end_words w ms) (calls_of (shape_of (end_words w ms)) earlier)

    abbrev pub line : List ℕ
    line = get_or (lines_of text) k []

    -- behind the answers to those lines the output has the answer of this one: its step on these words, as text
    pub line_said : Stands l.out (said (end_words w ms) earlier) (answer_text (line_of line) (step_by reached (acts_of (line_of line))))
    line_said = line_stands (end_words w ms) program_demand3.stays_sound scratch text out t l e k h

    -- what was seen before it: the calls and jobs before this job, and the answer lines before its own
    abbrev pub seen_before : List Event
    seen_before = seen_of ms ++ seen_in earlier (lines_written l)

    before_events : seen_before ≡ events w (calls_in_all w (map asked_in ms) ++ calls_of (shape_of (end_words w ms)) earlier)
    before_events =
        let v = end_words w ms in
        let cs = calls_in_all w (map asked_in ms) in
        rw (events_append w cs (calls_of (shape_of v) earlier), same_events w opened_sound ms a, seen_earlier v program_demand3.stays_sound scratch text out t l e k h)
        (ap (λ (u : List ℕ). events w cs ++ events u (calls_of (shape_of v) earlier)) (end_words_lem w opened_sound ms a))

    limit_reached : (decode reached).shape.fault_limit ≡ (last_asked asked ms).faults
    unfolding decode_as shape_for
    limit_reached =
        ap (λ (sh : Shape). sh.fault_limit) (shape_lines (end_words w ms) program_demand3.stays_sound (shape_of (end_words w ms)) earlier ∙ program_shape)

    -- if it files a fault, with a valid serial that is held and a day and code in range, the number written in its answer line is 9 exactly when faults
    -- accepted less faults gone are the fault limit that the last accepted Open was asked for
    pub filing_answered : (field : List ℕ) (day code : ℕ) → line_of line ≡ Line.file field day code
        → valid_serial (padded field) (length field) ≡ true → valid_fault day code ≡ true → length (look (decode reached) (take (length field) (padded field))) ≡ 1
        → (number_in (get_or (lines_written l) k []) ≡ 9) ↔ (since taken seen_before 0 - since gone seen_before 0 ≡ (last_asked asked ms).faults)
    filing_answered field day code is =
        let q = opened_words w₀ w asked o in
        rw (number_written (end_words w ms) program_demand3.stays_sound scratch text out t l e k h, ← limit_reached, before_events, same_words w ms a, q.1)
        (filing_line w₀ asked q.0 (map asked_in ms) earlier line field day code is)

    -- its step, and its answer line as it was written
    abbrev step : Step
    step = step_by reached (acts_of (line_of line))

    abbrev pub answer_line : List ℕ
    answer_line = get_or (lines_written l) k []

    step_number : number_in answer_line ≡ 0 → step.answer.number ≡ 0
    step_number z = sym (number_written (end_words w ms) program_demand3.stays_sound scratch text out t l e k h) ∙ z

    pairs_listed : (x : List ℕ) → listed (line_of line) step.answer ≡ step.answer.faults → Listed (history x seen_before []) enough step.answer.faults step.room
        → ByDay (history x seen_before []) (pairs_in answer_line)
    pairs_listed x done q =
        rw (pairs_written (end_words w ms) program_demand3.stays_sound scratch text out t l e k h, done, q.count) q.front

    -- if it shows a card, or withdraws one, and the number written is 0, the pairs written in its answer line list the history of the serial: each
    -- fault that was accepted for it since its card was last entered, as often, by rising day and those of one day as filed
    pub showing_answered : (field : List ℕ) → line_of line ≡ Line.show field → number_in answer_line ≡ 0
        → ByDay (history (take (length field) (padded field)) seen_before []) (pairs_in answer_line)
    showing_answered field is z =
        let q = opened_words w₀ w asked o in
        let r : step.answer.number ≡ 0 → Listed (history (take (length field) (padded field)) seen_before []) enough step.answer.faults step.room =
        rw (before_events, same_words w ms a, q.1) (showing_line w₀ asked q.0 (map asked_in ms) earlier line field is) in
        pairs_listed (take (length field) (padded field)) (show_lists field (line_of line) step.answer is (step_number z)) (r (step_number z))

    pub withdrawing_answered : (field : List ℕ) → line_of line ≡ Line.withdraw field → number_in answer_line ≡ 0
        → ByDay (history (take (length field) (padded field)) seen_before []) (pairs_in answer_line)
    withdrawing_answered field is z =
        let q = opened_words w₀ w asked o in
        let r : step.answer.number ≡ 0 → Listed (history (take (length field) (padded field)) seen_before []) enough step.answer.faults step.room =
        rw (before_events, same_words w ms a, q.1) (withdrawing_line w₀ asked q.0 (map asked_in ms) earlier line field is) in
        pairs_listed (take (length field) (padded field)) (withdraw_lists field (line_of line) step.answer is (step_number z)) (r (step_number z))
