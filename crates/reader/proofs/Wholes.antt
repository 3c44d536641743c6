-- The whole text of a job. Its number has at most two digits (`job_number`), its bytes stand within the output (`job_bytes`), the output keeps its length and
-- what stands behind them (`job_length`, `job_rest`), and text, number and words go by the output's length alone (`whole_same`, `job_same`). So the job in the
-- front of an output, with its closing line behind it, is answered as one with an output of zeros (`whole_answers`), within that output (`writes_within`).
use Prim.Native.Nat.{ℕ, ◌+◌, ◌≤◌}
use mathlib.Core.Path.{◌≡◌, refl, sym, ap, ◌∙◌}
use mathlib.Core.Bool.{cond}
use mathlib.Core.Logic.{⊎_elim}
use mathlib.Core.List.{List, ◌++◌}
use native.Mathlib.Omega.{arith}
use lib.Dec.{ltb}
use lib.ListN.{length, take, drop, length-append, length-drop, length-replicate, take-append-drop}
use lib.Seq.{sets, length-take-le, take-append_seam, drop-append_seam, take-append-le, drop-append-le}
use Rattle.rules.proofs.Tests.{by_cases}
use Rattle.model.specs.Shape.{need}
use Rattle.model.specs.Layout.{shape_of, decode, sound}
use Rattle.model.specs.Text.{lines_of}
use Rattle.model.specs.Job.{Run, run_lines, started, Tally, most_text, job}
use Rattle.model.proofs.Jobs.{job_cases, lines_end, lines_fit}
use Rattle.text.specs.Decimals.{Puts}
use Rattle.text.proofs.Putting.{put_front, put_rest}
use Rattle.job.specs.declared.Done.{Done}
use Rattle.reader.specs.Depot.{output_size, whole_size, blank, nothing, closing, whole_text, job_on, Ended, Writes, Answers}
use Rattle.reader.proofs.Closing.{closing_long}

module _ (w scratch text out : List ℕ) (t : Tally) where
  pub job_number : (job w scratch text out t).number ≤ 13
  job_number =
      job_cases w scratch text out t (λ f. f.number ≤ 13) (λ a. omega arith) (λ a b. omega arith) (λ a b c. omega arith)
      (λ a b c. ⊎_elim (λ e. omega (arith, e.number)) (λ s. omega (arith, s.number)) (lines_end (lines_of text) (length out) (started (decode w) t) refl))

  pub job_bytes : (job w scratch text out t).bytes ≤ length out
  job_bytes = job_cases w scratch text out t (λ f. f.bytes ≤ length out) (λ a. omega arith) (λ a b. omega arith) (λ a b c. omega arith) (λ a b c. lines_fit (lines_of text) (length out) _ (omega arith))

  pub job_rest : drop (job w scratch text out t).bytes (job w scratch text out t).out ≡ drop (job w scratch text out t).bytes out
  job_rest =
      let r = run_lines (lines_of text) (length out) (started (decode w) t) in
      job_cases w scratch text out t (λ f. drop f.bytes f.out ≡ drop f.bytes out) (λ a. refl) (λ a b. refl) (λ a b c. refl) (λ a b c. drop-append_seam r.text (drop (length r.text) out))

  pub job_length : length (job w scratch text out t).out ≡ length out
  job_length =
      let r = run_lines (lines_of text) (length out) (started (decode w) t) in
      let h : length r.text ≤ length out = lines_fit (lines_of text) (length out) (started (decode w) t) (omega arith) in
      job_cases w scratch text out t (λ f. length f.out ≡ length out) (λ a. refl) (λ a b. refl) (λ a b c. refl)
      (λ a b c. omega (arith, length-append r.text (drop (length r.text) out), length-drop (length r.text) out))

-- what is written by the output's length alone
unfoldable pub lines_text : Run → List ℕ
lines_text r = r.text ++ closing r.number

unfoldable pub text_in : List ℕ → List ℕ → List ℕ → ℕ → Tally → List ℕ
text_in w scratch text room t =
    cond (ltb (length scratch) (need (shape_of w))) (closing 11)
    (cond (ltb most_text (length text)) (closing 13)
    (cond (sound w) (lines_text (run_lines (lines_of text) room (started (decode w) t))) (closing 3)))

pub whole_text_lem : (w scratch text out : List ℕ) (t : Tally) → whole_text (job w scratch text out t) ≡ text_in w scratch text (length out) t
unfolding job whole_text text_in lines_text
whole_text_lem w scratch text out t =
    let r = run_lines (lines_of text) (length out) (started (decode w) t) in
    by_cases (ltb (length scratch) (need (shape_of w))) (λ e. rw e)
    (λ e. rw e (by_cases (ltb most_text (length text)) (λ e. rw e)
    (λ e. rw e (by_cases (sound w) (λ e. rw (e, take-append_seam r.text (drop (length r.text) out))) (λ e. rw e)))))

pub whole_same : (w scratch text : List ℕ) (t : Tally) (out out' : List ℕ) → length out ≡ length out' → whole_text (job w scratch text out t) ≡ whole_text (job w scratch text out' t)
whole_same w scratch text t out out' e =
    whole_text_lem w scratch text out t ∙ ap (λ (n : ℕ). text_in w scratch text n t) e ∙ sym (whole_text_lem w scratch text out' t)

pub job_same : (w scratch text : List ℕ) (t : Tally) (out out' : List ℕ) → length out ≡ length out'
    → ((job w scratch text out t).number ≡ (job w scratch text out' t).number) × ((job w scratch text out t).words ≡ (job w scratch text out' t).words)
unfolding job
job_same w scratch text t out out' e =
    by_cases (ltb (length scratch) (need (shape_of w))) (λ a. rw a (refl, refl))
    (λ a. rw a (by_cases (ltb most_text (length text)) (λ b. rw b (refl, refl))
    (λ b. rw b (by_cases (sound w) (λ s. rw (s, e) (refl, refl)) (λ s. rw s (refl, refl))))))

-- what is written lies within what it is written into
pub writes_within : {text before : List ℕ} {r : ℕ} {out : List ℕ} → Writes text before r out → r ≤ length out
writes_within {text} {before} w = omega (arith, ap length w.out_is, length-append text (drop (length text) before))

-- an output in two parts: the job's, and the room for the closing line
abbrev front : List ℕ → List ℕ
front out = take output_size out

abbrev behind : List ℕ → List ℕ
behind out = drop output_size out

-- the job in the front of an output, and its closing line behind it
module _ (w input out : List ℕ) (l : length out ≡ whole_size) {done : Done} {words after : List ℕ} (e : Ended (job w (blank (need (shape_of w))) input (front out) nothing) done words after) where
  front_long : length (front out) ≡ output_size
  front_long = length-take-le output_size out (omega arith)

  bytes_front : done.bytes ≤ length (front out)
  bytes_front = rw e.bytes_are (job_bytes w (blank (need (shape_of w))) input (front out) nothing)

  bytes_in_lem : done.bytes ≤ length after
  bytes_in_lem = omega (arith, bytes_front, ap length e.out_is, job_length w (blank (need (shape_of w))) input (front out) nothing)

  pub whole_fits : done.bytes + length (closing done.number) ≤ length (after ++ behind out)
  whole_fits =
      let n : done.number ≤ 13 = rw e.number_is (job_number w (blank (need (shape_of w))) input (front out) nothing) in
      omega (arith, bytes_in_lem, closing_long done.number (omega arith), length-append after (behind out), length-drop output_size out)

  -- up to its end stand the job's answers and the closing line, and behind it what stood there
  whole_front : take done.bytes (after ++ behind out) ++ closing done.number ≡ whole_text (job_on w input)
  unfolding whole_text blank
  whole_front =
      rw (take-append-le done.bytes after (behind out) bytes_in_lem, e.out_is, e.bytes_are, e.number_is)
      (whole_same w (blank (need (shape_of w))) input nothing (front out) (blank output_size) (front_long ∙ sym (length-replicate {A = ℕ} output_size 0)))

  whole_rest : drop done.bytes (after ++ behind out) ≡ drop done.bytes out
  whole_rest =
      let kept : drop done.bytes after ≡ drop done.bytes (front out) = rw (e.bytes_are, e.out_is) (job_rest w (blank (need (shape_of w))) input (front out) nothing) in
      rw (drop-append-le done.bytes after (behind out) bytes_in_lem, kept, ← (drop-append-le done.bytes (front out) (behind out) bytes_front), take-append-drop output_size out)

  pub whole_writes : {r : ℕ} {left : List ℕ} → Puts (after ++ behind out) done.bytes (closing done.number) r left → Writes (whole_text (job_on w input)) out r left
  whole_writes {r} {left} p =
      let o = after ++ behind out in
      let k = closing done.number in
      let n = done.bytes + length k in
      let long : n ≡ length (whole_text (job_on w input)) = omega (arith, ap length whole_front, length-append (take done.bytes o) k, length-take-le done.bytes o (omega (arith, whole_fits))) in
      record {
        out_is =
            p.out_is ∙ sym (take-append-drop n (sets o done.bytes k))
            ∙ rw (put_front o k done.bytes whole_fits, put_rest o out k done.bytes whole_fits whole_rest, whole_front, long);
        len_is = p.end_is ∙ long;
      }

  -- the job goes by the output's length alone, so its number and its words are those of one with an output of zeros
  same_job : (done.number ≡ (job_on w input).number) × (words ≡ (job_on w input).words)
  unfolding blank
  same_job =
      let s = job_same w (blank (need (shape_of w))) input nothing (front out) (blank output_size) (front_long ∙ sym (length-replicate {A = ℕ} output_size 0)) in
      (e.number_is ∙ s.0, e.words_are ∙ s.1)

  pub whole_answers : {r : ℕ} {left : List ℕ} → Puts (after ++ behind out) done.bytes (closing done.number) r left → Answers (job_on w input) out done.number r words left
  whole_answers p = record { number_is = same_job.0; words_are = same_job.1; text_is = whole_writes p }
