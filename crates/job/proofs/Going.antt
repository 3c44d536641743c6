-- The job's loop: from each line on, the lines left answer what all lines answer from the start (`Going`). It holds at the first line
-- (`going_start`) and behind a line whose answer fits (`going_on`), and both ends of the loop read the outcome off it (`going_stop`, `going_end`).
use Prim.Native.Nat.{ℕ, ◌+◌, ◌*◌, ◌≤◌, ◌<◌}
use mathlib.Core.Path.{◌≡◌, refl, sym, ◌∙◌}
use mathlib.Core.Bool.{true}
use mathlib.Core.List.{List, [], ◌∷◌}
use native.Mathlib.Numerals.{add-one}
use native.Mathlib.Omega.{arith}
use lib.ListN.{length, take, drop, take-append-drop}
use lib.Seq.{length-take-le}
use Rattle.model.specs.Layout.{decode, sound}
use Rattle.model.specs.Text.{lines_of}
use Rattle.model.specs.Job.{run_lines}
use Rattle.model.specs.Job as Job
use Rattle.model.proofs.Sound.{sound_good}
use Rattle.std.proofs.Common.{Some, None}
use Rattle.job.specs.Counts.{tally_of}
use Rattle.job.specs.Turns.{longest, turn_of, Turns}
use Rattle.job.specs.Runs.{lines_on, Ends}
use Rattle.job.specs.declared.tally.Tally as Held
use Rattle.job.specs.declared.turn.Turned.{Turned}
use Rattle.job.proofs.OneLine.{run_at, turn_over, turn_sound, turn_long, turn_inside, turn_rest, turn_on, turn_stop}

-- behind some lines, with the rest of the text: the words are sound, the output is the text and then what was there, and each line took
-- a byte of the text and gave at most the longest answer
pub record Going (words₀ text out₀ : List ℕ) (t₀ : Job.Tally) (words out : List ℕ) (t : Job.Tally) (lines bytes : ℕ) (rest : List ℕ) : Type 0 where
  pub good : sound words ≡ true
  pub same : run_lines (lines_of rest) (length out) (run_at lines words out bytes t) ≡ lines_on words₀ text out₀ t₀
  pub behind : drop bytes out ≡ drop bytes out₀
  pub long : length out ≡ length out₀
  pub inside : bytes ≤ length out
  pub few : lines + length rest ≤ length text
  pub most : bytes ≤ longest * lines

module _ (words₀ text out₀ : List ℕ) (t₀ : Job.Tally) where
  pub going_start : sound words₀ ≡ true → Going words₀ text out₀ t₀ words₀ out₀ t₀ 0 0 text
  unfolding lines_on
  going_start ok =
      record { good = ok; same = refl; behind = refl; long = refl; inside = omega arith; few = omega arith; most = omega arith }

  module _ {words out : List ℕ} {t : Held.Tally} {lines bytes : ℕ} {rest : List ℕ} (g : Going words₀ text out₀ t₀ words out (tally_of t) lines bytes rest) where
    -- the loop's two ends

    ended : (n : ℕ) → lines_on words₀ text out₀ t₀ ≡ record { number = n; lines = lines; text = take bytes out; store = decode words; tally = tally_of t }
        → Ends (lines_on words₀ text out₀ t₀) out₀ (record { number = n; lines = lines; bytes = bytes }) t words out
    ended n e =
        let l = length-take-le bytes out g.inside in
        rw e
        (record {
          number_is = refl;
          lines_are = refl;
          bytes_are = sym l;
          tally_is = refl;
          words_are = sym (sound_good words g.good).1;
          out_is = rw (l, ← g.behind) (sym (take-append-drop bytes out));
        })

    pub going_end : lines_of rest ≡ [] → Ends (lines_on words₀ text out₀ t₀) out₀ (record { number = 0; lines = lines; bytes = bytes }) t words out
    unfolding run_lines
    going_end h = ended 0 (sym g.same ∙ rw h)

    -- a turn of it
    module _ (x more : List ℕ) (next : lines_of rest ≡ x ∷ lines_of more) (less : length more < length rest) {words' out' : List ℕ} where
      pub going_stop : Turns (turn_of words x out bytes (tally_of t)) bytes None words' out'
          → Ends (lines_on words₀ text out₀ t₀) out₀ (record { number = 10; lines = lines; bytes = bytes }) t words' out'
      going_stop d =
          let s = sym d.fits_is in
          let v = (turn_over words x out bytes (tally_of t) s).1 in
          rw (d.words_are, d.out_is, v)
          (ended 10 (sym g.same ∙ rw next (turn_stop words x out bytes (tally_of t) lines _ g.inside s)))

      pub going_on : {r : Turned} → Turns (turn_of words x out bytes (tally_of t)) bytes (Some r) words' out'
          → Going words₀ text out₀ t₀ words' out' (tally_of r.tally) (lines + 1) r.end more
      going_on {r} d =
          let s = sym d.fits_is in
          let e = d.ended in
          let long = turn_long words x out bytes (tally_of t) s in
          rw (d.words_are, d.out_is, e.end_is, e.tally_is)
          (record {
            good = turn_sound words x out bytes (tally_of t) s g.good;
            same = rw (long, add-one lines, ← (turn_on words x out bytes (tally_of t) lines (lines_of more) g.inside g.good s), ← next) g.same;
            behind = turn_rest words x out bytes (tally_of t) s out₀ g.behind;
            long = long ∙ g.long;
            inside = rw long (turn_inside words x out bytes (tally_of t) s);
            few = omega arith;
            most = omega (arith, e.most, e.end_is);
          })
