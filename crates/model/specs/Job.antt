-- The job: lines of text run against a store, their answers, and the tally.
use Rattle.std.specs.Prelude.{ℕ, zero, suc, ◌+◌, ◌*◌, min, List, [], ◌∷◌, ◌++◌, Bool, true, false, ◌&&◌, cond, ltb, eqb, length, take, drop, replicate}
use Rattle.model.specs.Lists.{same}
use Rattle.model.specs.Serial.{most_bytes}
use Rattle.model.specs.Model.{Store, size}
use Rattle.model.specs.Shape.{faults_ever, need}
use Rattle.model.specs.Layout.{shape_of, encode, decode, sound}
use Rattle.model.specs.Numbers.{not_sound, short_room, short_scratch, bad_line, long_text}
use Rattle.model.specs.Calls.{Answer, Step, refused, cleaned, stays, enter_step, file_step, show_step, withdraw_step}
use Rattle.model.specs.Text.{lf, space, fields, lines_of, is_number, value_from, decimal}

-- a colon parts day and code
abbrev pub colon : ℕ
colon = 58

-- E enters, F files, S shows, W withdraws
abbrev pub letter_e : ℕ
letter_e = 69

abbrev pub letter_f : ℕ
letter_f = 70

abbrev pub letter_s : ℕ
letter_s = 83

abbrev pub letter_w : ℕ
letter_w = 87

-- the longest line without its LF
abbrev pub longest_line : ℕ
longest_line = 64

-- a serial as a field, made sixteen bytes; its length is kept, so an empty one or one over 16 is refused by 4
unfoldable pub padded : List ℕ → List ℕ
padded f = take most_bytes (f ++ replicate most_bytes 0)

pub data Line : Type 0 where
  bad : Line
  enter : List ℕ → Line
  show : List ℕ → Line
  withdraw : List ℕ → Line
  file : List ℕ → ℕ → ℕ → Line

unfoldable pub two : List ℕ → List ℕ → Line
two op serial =
    cond (same op (letter_e ∷ [])) (enter serial) (cond (same op (letter_s ∷ [])) (show serial) (cond (same op (letter_w ∷ [])) (withdraw serial) bad))

unfoldable pub four : List ℕ → List ℕ → List ℕ → List ℕ → Line
four op serial day code =
    cond (same op (letter_f ∷ []) && (is_number day && is_number code)) (file serial (value_from 0 day) (value_from 0 code)) bad

unfoldable pub from_fields : List (List ℕ) → Line
from_fields [] = bad
from_fields (a ∷ []) = bad
from_fields (a ∷ b ∷ []) = two a b
from_fields (a ∷ b ∷ c ∷ []) = bad
from_fields (a ∷ b ∷ c ∷ d ∷ []) = four a b c d
from_fields (a ∷ b ∷ c ∷ d ∷ e ∷ fs) = bad

unfoldable pub line_of : List ℕ → Line
line_of l = cond (ltb longest_line (length l)) bad (from_fields (fields space l))

-- the room that a line is given: two words for each fault that a store of any format can hold, never too little
unfoldable pub enough : List ℕ
enough = replicate (2 * faults_ever) 0

unfoldable pub step_of : Store → Line → Step
step_of s bad = stays (refused bad_line) s []
step_of s (enter f) = enter_step s (padded f) (length f)
step_of s (show f) = show_step s (padded f) (length f) enough
step_of s (withdraw f) = withdraw_step s (padded f) (length f) enough
step_of s (file f day code) = file_step s (padded f) (length f) day code

unfoldable pub pair_text : ℕ → List ℕ → List ℕ
pair_text zero room = []
pair_text (suc k) [] = []
pair_text (suc k) (d ∷ []) = []
pair_text (suc k) (d ∷ c ∷ rest) = space ∷ (decimal d ++ (colon ∷ (decimal c ++ pair_text k rest)))

-- pairs are written behind a done show or withdraw, whose room holds them
unfoldable pub listed : Line → Answer → ℕ
listed bad a = 0
listed (enter f) a = 0
listed (show f) a = cond (eqb a.number 0) a.faults 0
listed (withdraw f) a = cond (eqb a.number 0) a.faults 0
listed (file f day code) a = 0

unfoldable pub answer_text : Line → Step → List ℕ
answer_text l r =
    let a = r.answer in
    decimal a.number ++ (space ∷ (decimal a.comparisons ++ (space ∷ (decimal a.scanned ++ (space ∷ (decimal a.faults ++ (pair_text (listed l a) r.room ++ (lf ∷ []))))))))

pub record Tally : Type 0 where
  pub entries : ℕ
  pub withdrawals : ℕ
  pub filings : ℕ
  pub splits : ℕ
  pub contractions : ℕ
  pub comparisons : ℕ

-- a sum of 64 bits, held at the top instead of passing it
unfoldable pub tally_top : ℕ
tally_top = 18446744073709551615

unfoldable pub plus : ℕ → ℕ → ℕ
plus a b = min tally_top (a + b)

unfoldable pub one : Bool → ℕ
one b = cond b 1 0

-- the lines that count, once they are done
unfoldable pub entering : Line → Bool
entering bad = false
entering (enter f) = true
entering (show f) = false
entering (withdraw f) = false
entering (file f day code) = false

unfoldable pub withdrawing : Line → Bool
withdrawing bad = false
withdrawing (enter f) = false
withdrawing (show f) = false
withdrawing (withdraw f) = true
withdrawing (file f day code) = false

unfoldable pub filing : Line → Bool
filing bad = false
filing (enter f) = false
filing (show f) = false
filing (withdraw f) = false
filing (file f day code) = true

unfoldable pub counted : Tally → Store → Line → Step → Tally
counted t s l r =
    let done = eqb r.answer.number 0 in
    record {
      entries = plus t.entries (one (done && entering l));
      withdrawals = plus t.withdrawals (one (done && withdrawing l));
      filings = plus t.filings (one (done && filing l));
      splits = plus t.splits (one (ltb (size s) (size r.store)));
      contractions = plus t.contractions (one (ltb (size r.store) (size s)));
      comparisons = plus t.comparisons r.answer.comparisons;
    }

-- a job under way: its number so far, lines done, text written, the store and the tally
pub record Run : Type 0 where
  pub number : ℕ
  pub lines : ℕ
  pub text : List ℕ
  pub store : Store
  pub tally : Tally

-- a line whose answer exceeds the output left stops the job before it
unfoldable pub run_lines : List (List ℕ) → ℕ → Run → Run
run_lines [] room r = r
run_lines (x ∷ xs) room r =
    let l = line_of x in
    let step = step_of r.store l in
    let answer = answer_text l step in
    let stopped : Run = record { number = short_room; lines = r.lines; text = r.text; store = r.store; tally = r.tally } in
    let next : Run =
    record { number = 0; lines = suc r.lines; text = r.text ++ answer; store = step.store; tally = counted r.tally r.store l step } in
    let rest = run_lines xs room next in
    cond (ltb room (length r.text + length answer)) stopped rest

-- what a job returns, and all that it leaves
pub record Finished : Type 0 where
  pub number : ℕ
  pub lines : ℕ
  pub bytes : ℕ
  pub words : List ℕ
  pub out : List ℕ
  pub scratch : List ℕ
  pub tally : Tally

-- a job that is refused: no line is done, no byte written, and store, output and tally stay
abbrev pub refused_job : ℕ → List ℕ → List ℕ → List ℕ → Tally → Finished
refused_job n w out scratch t = record { number = n; lines = 0; bytes = 0; words = w; out = out; scratch = scratch; tally = t }

abbrev pub started : Store → Tally → Run
started s t = record { number = 0; lines = 0; text = []; store = s; tally = t }

abbrev pub job_if : Bool → List ℕ → List ℕ → List ℕ → List ℕ → Tally → Finished
job_if false w scratch text out t = refused_job not_sound w out (cleaned (need (shape_of w)) scratch) t
job_if true w scratch text out t =
    let r = run_lines (lines_of text) (length out) (started (decode w) t) in
    record {
      number = r.number;
      lines = r.lines;
      bytes = length r.text;
      words = encode r.store;
      out = r.text ++ drop (length r.text) out;
      scratch = cleaned (need (shape_of w)) scratch;
      tally = r.tally;
    }

unfoldable pub most_text : ℕ
most_text = 16384

-- first 11, then 13, then 3; soundness is tested once
unfoldable pub job : List ℕ → List ℕ → List ℕ → List ℕ → Tally → Finished
job w scratch text out t =
    cond (ltb (length scratch) (need (shape_of w))) (refused_job short_scratch w out scratch t)
    (cond (ltb most_text (length text)) (refused_job long_text w out (cleaned (need (shape_of w)) scratch) t)
    (job_if (sound w) w scratch text out t))
