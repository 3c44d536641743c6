-- What the program's contracts come to. A job that saves nothing leaves the bytes (`unsaved_same`); one with another number than 0 and 10 saves nothing
-- (`refused_unsaved`). `desk new` gives 0, 1 or 15 (`new_number`). Saved answers belong to a file exactly where the job left its bytes (`belongs_last`), and then stand behind them (`answers_behind`).
-- From day to day: each job that meets its contract is one that meets the contract of `work` on the file's words, and what is read off what was written for
-- it is what that contract gives (`day_meets`, `day_seen`). So, after any number of jobs on a file since `desk new`, each on the bytes that the one before
-- left, demands 2 and 3 hold of the file's store, by what was written (`days_demand2`, `days_demand3`), and its limits and bounds are those that
-- `desk new` was asked for (`days_shape`).
use Prim.Native.Nat.{ℕ, ◌+◌, ◌-◌, ◌*◌, ◌/◌, ◌<◌}
use mathlib.Core.Path.{◌≡◌, refl, sym, ap, ◌∙◌}
use mathlib.Core.Bool.{true, false, not}
use mathlib.Core.List.{List, [], ◌∷◌, ◌++◌, map}
use mathlib.Core.Logic.{⊎_elim, ◌↔◌}
use native.Mathlib.Omega.{arith}
use lib.ListN.{length, take, get_or, length-append, length-replicate}
use lib.Seq.{length-take-le, take_at, drop_at}
use borrow.Author.Tests.{not-false}
use Rattle.rules.proofs.Tests.{by_cases, both}
use Rattle.model.specs.Lists.{same}
use Rattle.model.specs.Shape.{need}
use Rattle.model.specs.Layout.{shape_of, length_for, decode, sound}
use Rattle.model.specs.Calls.{Terms, shape_for, open_call}
use Rattle.model.specs.Plain.{Book}
use Rattle.model.specs.Runs.{Call, Event, Event.answered, Tell, book_after, book_tells}
use Rattle.model.specs.Text.{lines_of}
use Rattle.model.specs.Job.{Finished, started}
use Rattle.model.specs.Job as Job
use Rattle.model.specs.Deeds.{calls_of, said}
use Rattle.model.specs.Heard.{Heard, heard_in}
use Rattle.model.proofs.Lists.{Every, same_refl, same_eq}
use Rattle.model.proofs.Jobs.{job_cases, lines_end, lines_few}
use Rattle.model.proofs.Demand2.{Agrees, empty_book}
use Rattle.model.proofs.Demands.{Demand3}
use Rattle.model.proofs.Deeds.{job_calls, job_sound}
use Rattle.model.proofs.Outcomes.{open_cases, opened_fresh}
use Rattle.model.proofs.Fresh.{fresh_sound}
use Rattle.store.specs.Leaves.{Opens}
use Rattle.job.specs.Sequences.{Left, Made, Made.worked, Meets, AllMeet, end_words, lines_done, lines_written, seen, seen_of, last_asked, told, told_of, calls_to, calls_to_all}
use Rattle.job.specs.declared.tally.Tally.{Tally}
use Rattle.job.proofs.ProgramDemands.{program_demand2, program_demand3, program_shape}
use Rattle.reader.specs.Depot.{output_size, blank, nothing, closing, whole_text, job_on}
use Rattle.disk.specs.Bytes.{word_of, words_of, four, file_of}
use Rattle.disk.specs.Desk.{sized, after, untouched, desk_job, terms_from, file_from, fresh_for, desk_new, Serves, Makes}
use Rattle.disk.specs.Last.{head_of, head_size, stands_at, last_of, belongs, answers_in}
use Rattle.disk.specs.Days.{Day, Served, AllServed, last_file, answer_lines, seen_on, seen_all, told_on, told_all, calls_on, calls_all}
use Rattle.disk.proofs.Bytes.{four_back, bytes_back}
use Rattle.disk.proofs.Lengths.{most_words_lem, sized_is, sound_sized}
use Rattle.disk.proofs.Making.{file_length}
use Rattle.disk.proofs.AnswerLines.{said_count, heard_few}

pub unsaved_same : (file text : List ℕ) → Every (λ (b : ℕ). b < 256) file → (desk_job file text).save ≡ false → (desk_job file text).file ≡ file
unfolding desk_job after untouched
unsaved_same file text h =
    by_cases (sized (length file))
    (λ s. rw s (λ e. ap file_of (same_eq _ (words_of file) (not-false _ e)) ∙ bytes_back file _ (sized_is (length file) s).1 h))
    (λ s. rw s (λ e. refl))

-- a job with another number than 0 and 10 leaves the words
stays : (w text : List ℕ) → ((job_on w text).number ≡ 0 → ⊥) → ((job_on w text).number ≡ 10 → ⊥) → not (same (job_on w text).words w) ≡ false
stays w text =
    let kept : not (same w w) ≡ false = rw (same_refl w) in
    job_cases w (blank (need (shape_of w))) text (blank output_size) nothing (λ (f : Finished). (f.number ≡ 0 → ⊥) → (f.number ≡ 10 → ⊥) → not (same f.words w) ≡ false)
    (λ a n t. kept) (λ a b n t. kept) (λ a b c n t. kept)
    (λ a b c n t. ⊎_elim (λ e. absurd (n e.number)) (λ s. absurd (t s.number)) (lines_end (lines_of text) (length (blank output_size)) (started (decode w) nothing) refl))

pub refused_unsaved : (file text : List ℕ) → ((desk_job file text).number ≡ 0 → ⊥) → ((desk_job file text).number ≡ 10 → ⊥) → (desk_job file text).save ≡ false
unfolding desk_job after untouched
refused_unsaved file text = by_cases (sized (length file)) (λ s. rw s (stays (words_of file) text)) (λ s. rw s (λ n t. refl))

-- `desk new` gives no other number than 0, 1 and 15: the words are as many as its terms ask for
pub new_number : (cards faults upper lower : List ℕ) (n : ℕ) → (desk_new cards faults upper lower).number ≡ n → (n ≡ 0 → ⊥) → (n ≡ 1 → ⊥) → n ≡ 15
unfolding desk_new fresh_for file_from blank
new_number cards faults upper lower n =
    let t = terms_from cards faults upper lower in
    let k = length_for (shape_for t) in
    open_cases (blank k) t (λ o. o.number ≡ n → (n ≡ 0 → ⊥) → (n ≡ 1 → ⊥) → n ≡ 15) (λ v e a b. absurd (b (sym e))) (λ v u e a b. sym e)
    (λ ok v l e a b. absurd (l (length-replicate {A = ℕ} k 0))) (λ ok v l e a b. absurd (a (sym e)))

-- saved answers

four_same : (a b : ℕ) → a < 4294967296 → b < 4294967296 → four a ≡ four b → a ≡ b
unfolding four
four_same a b h k e =
    sym (four_back a h) ∙ ap (λ (l : List ℕ). word_of (get_or l 0 0) (get_or l 1 0) (get_or l 2 0) (get_or l 3 0)) e ∙ four_back b k

pub answers_behind : (file text : List ℕ) → answers_in file (last_of file text) ≡ text
unfolding last_of head_of four
answers_behind file text =
    drop_at (head_of file ++ file) text (head_size + length file) (length-append (head_of file) file)

module _ (f file text : List ℕ) (s : sized (length f) ≡ true) (t : sized (length file) ≡ true) where
  few : (g : List ℕ) → sized (length g) ≡ true → (length g / 4 < 4294967296) × (length g ≡ 4 * (length g / 4))
  few g e = let z = sized_is (length g) e in (omega (arith, most_words_lem, z.0), z.1)

  -- the head tells the length, so the bytes behind it are compared to their end
  same_file : belongs file (last_of f text) ≡ true → f ≡ file
  unfolding belongs last_of head_of four
  same_file e =
      let a = both (stands_at (last_of f text) 0 (head_of file)) (stands_at (last_of f text) head_size file) e in
      let heads : head_of f ≡ head_of file = same_eq (head_of f) (head_of file) a.0 in
      let n : length f / 4 ≡ length file / 4 = four_same (length f / 4) (length file / 4) (few f s).0 (few file t).0 heads in
      let l : length f ≡ length file = omega (arith, n, (few f s).1, (few file t).1) in
      let q : take (length file) (f ++ text) ≡ file = same_eq (take (length file) (f ++ text)) file a.1 in
      sym (take_at f text (length file) l) ∙ q

  its_own : f ≡ file → belongs file (last_of f text) ≡ true
  unfolding belongs last_of head_of four
  its_own e = rw (← e, same_refl (head_of f), take_at f text (length f) refl, same_refl f)

  pub belongs_last : (belongs file (last_of f text) ≡ true) ↔ (f ≡ file)
  belongs_last = (same_file, its_own)

-- one day

-- a file of a sound store: whole words
pub record Whole (file : List ℕ) : Type 0 where
  pub ok : sound (words_of file) ≡ true
  pub long : length file ≡ 4 * length (words_of file)

whole_sized : {file : List ℕ} → Whole file → sized (length file) ≡ true
whole_sized w = rw w.long (sound_sized _ w.ok)

-- a job as the program's contracts have it: what it gave and left
abbrev pub none : Tally
none = record { entries = 0; withdrawals = 0; filings = 0; splits = 0; contractions = 0; comparisons = 0 }

abbrev pub held_as : Job.Tally → Tally
held_as t =
    record {
      entries = t.entries;
      withdrawals = t.withdrawals;
      filings = t.filings;
      splits = t.splits;
      contractions = t.contractions;
      comparisons = t.comparisons;
    }

abbrev pub left_on : Finished → Day → Left
left_on f d =
    record {
      done = record { number = f.number; lines = f.lines; bytes = f.bytes };
      tally = held_as f.tally;
      words = words_of d.file;
      scratch = f.scratch;
      out = f.out;
    }

abbrev pub made_on : List ℕ → Day → Made
made_on w d = worked (blank (need (shape_of w))) d.text (blank output_size) none (left_on (job_on w d.text) d)

module _ (file : List ℕ) (h : Whole file) (d : Day) (v : Served file d) where
  abbrev pub w : List ℕ
  w = words_of file

  abbrev pub f : Finished
  f = job_on w d.text

  serves : Serves (after w f) v.before d.number v.len v.save d.file v.out
  unfolding desk_job
  serves = rw (whole_sized h) at v.serves

  pub day_words : words_of d.file ≡ f.words
  unfolding after
  day_words = serves.back_are

  pub day_meets : Meets w (made_on w d)
  unfolding nothing
  day_meets =
      record {
        number_is = refl;
        lines_are = refl;
        bytes_are = refl;
        tally_is = refl;
        words_are = day_words;
        scratch_is = refl;
        out_is = refl;
      }

  -- the bytes left are those of a sound store
  pub day_whole : Whole d.file
  unfolding after
  day_whole =
      record {
        ok = rw day_words (job_sound w h.ok (blank (need (shape_of w))) d.text (blank output_size) nothing);
        long = ap length serves.file_is ∙ file_length f.words ∙ ap (λ (l : List ℕ). 4 * length l) (sym day_words);
      }

  -- what was written is the job's answers and the closing line
  written_whole : d.written ≡ take f.bytes f.out ++ closing f.number
  unfolding after whole_text
  written_whole =
      let t = serves.text_is in
      v.written_is ∙ rw (t.out_is, t.len_is) (take_at (take f.bytes f.out ++ closing f.number) _ _ refl)

  -- so the answer lines are those in the output that the job left
  pub day_answers : answer_lines d ≡ lines_written (left_on f d)
  unfolding after
  day_answers =
      let c = closing f.number in
      let a = take f.bytes f.out in
      let n : length d.written - length (closing d.number) ≡ length a = rw serves.number_is (omega (arith, ap length written_whole, length-append a c)) in
      ap lines_of (ap (λ (k : ℕ). take k d.written) n ∙ ap (take (length a)) written_whole ∙ take_at a c (length a) refl)

  -- as many as lines were answered
  day_count : length (answer_lines d) ≡ f.lines
  unfolding blank
  day_count =
      let scratch = blank (need (shape_of w)) in
      let j = job_calls w h.ok scratch d.text (blank output_size) nothing in
      let xs = take f.lines (lines_of d.text) in
      let says : take f.bytes f.out ≡ said w xs = ap (take f.bytes) j.out_is ∙ take_at (said w xs) _ f.bytes (sym j.bytes_are) in
      ap length day_answers ∙ ap (λ (l : List ℕ). length (lines_of l)) says ∙ said_count xs w ∙ length-take-le f.lines (lines_of d.text) (lines_few w scratch d.text (blank output_size) nothing)

  day_heard : heard_in (lines_of d.text) (answer_lines d) ≡ heard_in (lines_done d.text (left_on f d)) (lines_written (left_on f d))
  day_heard =
      sym (heard_few (lines_of d.text) (answer_lines d))
      ∙ ap (λ (n : ℕ). heard_in (take n (lines_of d.text)) (answer_lines d)) day_count
      ∙ ap (heard_in (lines_done d.text (left_on f d))) day_answers

  pub day_seen : seen_on d ≡ seen (made_on w d)
  day_seen = ap (map (λ (x : Heard). answered x.act x.tell.number x.tell.faults)) day_heard

  pub day_told : told_on d ≡ told (made_on w d)
  day_told = ap (map (λ (x : Heard). x.tell)) day_heard

  pub day_calls : (b : Book) → calls_on b d ≡ calls_to b (made_on w d)
  day_calls b = ap (λ (n : ℕ). calls_of b.shape (take n (lines_of d.text))) day_count

-- one after another

abbrev pub made_all : List ℕ → List Day → List Made
made_all w [] = []
made_all w (d ∷ ds) = made_on w d ∷ made_all (words_of d.file) ds

all_meet : (file : List ℕ) → Whole file → (ds : List Day) → AllServed file ds → AllMeet (words_of file) (made_all (words_of file) ds)
all_meet file h [] a = tt
all_meet file h (d ∷ ds) a = (day_meets file h d a.0, all_meet d.file (day_whole file h d a.0) ds a.1)

all_words : (file : List ℕ) (ds : List Day) → words_of (last_file file ds) ≡ end_words (words_of file) (made_all (words_of file) ds)
all_words file [] = refl
all_words file (d ∷ ds) = all_words d.file ds

all_seen : (file : List ℕ) → Whole file → (ds : List Day) → AllServed file ds → seen_all ds ≡ seen_of (made_all (words_of file) ds)
all_seen file h [] a = refl
all_seen file h (d ∷ ds) a =
    ap (λ (es : List Event). es ++ seen_all ds) (day_seen file h d a.0)
    ∙ ap (λ (es : List Event). seen (made_on (words_of file) d) ++ es) (all_seen d.file (day_whole file h d a.0) ds a.1)

all_told : (file : List ℕ) → Whole file → (ds : List Day) → AllServed file ds → told_all ds ≡ told_of (made_all (words_of file) ds)
all_told file h [] a = refl
all_told file h (d ∷ ds) a =
    ap (λ (ts : List Tell). ts ++ told_all ds) (day_told file h d a.0)
    ∙ ap (λ (ts : List Tell). told (made_on (words_of file) d) ++ ts) (all_told d.file (day_whole file h d a.0) ds a.1)

all_calls : (file : List ℕ) → Whole file → (b : Book) (ds : List Day) → AllServed file ds → calls_all b ds ≡ calls_to_all b (made_all (words_of file) ds)
all_calls file h b [] a = refl
all_calls file h b (d ∷ ds) a =
    let c = calls_to b (made_on (words_of file) d) in
    rw (day_calls file h d a.0 b) (ap (λ (cs : List Call). c ++ cs) (all_calls d.file (day_whole file h d a.0) (book_after b c) ds a.1))

all_asked : (t : Terms) (w : List ℕ) (ds : List Day) → last_asked t (made_all w ds) ≡ t
all_asked t w [] = refl
all_asked t w (d ∷ ds) = all_asked t (words_of d.file) ds

-- each answer that was written is that of a plain list, and the file's store and the list agree on every serial at the end
pub record AsDays (file : List ℕ) (b : Book) (ds : List Day) : Type 0 where
  pub answers : told_all ds ≡ book_tells b (calls_all b ds)
  pub agrees : Agrees (book_after b (calls_all b ds)) (decode (words_of (last_file file ds)))

-- a file that `desk new` made for these arguments, answered by 0, and any number of jobs on it
module _ (cards faults upper lower before out : List ℕ) {len said : ℕ} {file' out' : List ℕ} (m : Makes (desk_new cards faults upper lower) before out 0 len said file' out')
    (ds : List Day) (a : AllServed (take len file') ds) where
  abbrev asked : Terms
  asked = terms_from cards faults upper lower

  abbrev room : List ℕ
  room = blank (length_for (shape_for asked))

  accepted : (open_call room asked).number ≡ 0
  unfolding desk_new fresh_for file_from
  accepted = sym m.made.number_is

  made_file : (take len file' ≡ file_of (open_call room asked).words) × (words_of (file_of (open_call room asked).words) ≡ (open_call room asked).words)
  unfolding desk_new fresh_for file_from
  made_file =
      let k = m.made in
      let e : (desk_new cards faults upper lower).file ≡ file_of (open_call room asked).words = rw accepted in
      let b : words_of (desk_new cards faults upper lower).file ≡ (open_call room asked).words = k.back_are ∙ rw accepted in
      (rw (k.file_is.out_is, k.file_is.len_is) (take_at (desk_new cards faults upper lower).file _ _ refl) ∙ e, ap words_of (sym e) ∙ b)

  made_words : words_of (take len file') ≡ (open_call room asked).words
  made_words = ap words_of made_file.0 ∙ made_file.1

  opens : Opens (open_call room asked) 0 (words_of (take len file'))
  opens = record { number_is = sym accepted; words_are = made_words }

  first_whole : Whole (take len file')
  first_whole =
      let o = opened_fresh room asked accepted in
      record {
        ok = rw (made_words, o.1) (fresh_sound (shape_for asked) o.0);
        long = ap length made_file.0 ∙ file_length (open_call room asked).words ∙ ap (λ (l : List ℕ). 4 * length l) (sym made_words);
      }

  abbrev ms : List Made
  ms = made_all (words_of (take len file')) ds

  meets : AllMeet (words_of (take len file')) ms
  meets = all_meet (take len file') first_whole ds a

  -- demand 3, by what was written
  pub days_demand3 : Demand3 (words_of (last_file (take len file') ds)) (seen_all ds)
  days_demand3 = rw (all_words (take len file') ds, all_seen (take len file') first_whole ds a) (program_demand3 room (words_of (take len file')) asked opens ms meets)

  -- demand 2: as a plain list that was empty at first
  pub days_demand2 : AsDays (take len file') (empty_book (shape_for asked)) ds
  days_demand2 =
      let b = empty_book (shape_for asked) in
      let q = program_demand2 room (words_of (take len file')) asked opens ms meets in
      let c = all_calls (take len file') first_whole b ds a in
      record {
        answers = rw (all_told (take len file') first_whole ds a, c) q.answers;
        agrees = rw (c, all_words (take len file') ds) q.agrees;
      }

  -- the limits and the bounds are those that `desk new` was asked for
  pub days_shape : shape_of (words_of (last_file (take len file') ds)) ≡ shape_for asked
  days_shape =
      rw (all_words (take len file') ds) (program_shape room (words_of (take len file')) asked opens ms meets)
      ∙ ap shape_for (all_asked asked (words_of (take len file')) ds)
