-- One line of a job on a store in words: what is asked, what is listed, and what the line leaves.
use Rattle.std.specs.Prelude.{◌≡◌, Bool, true, false, cond, List, ℕ, ◌+◌, ◌*◌, ◌≤◌, ltb, length, Option, Some, is_some, IfSome, Result, Ok, Err}
use Rattle.std.proofs.lemmas.List.Edits.{sets}
use Rattle.model.specs.Model.{Store}
use Rattle.model.specs.Shape.{faults_ever}
use Rattle.model.specs.Layout.{encode, decode}
use Rattle.model.specs.Calls.{Step, enter_step, file_step, show_step, withdraw_step}
use Rattle.model.specs.Job.{enough, line_of, step_of, pair_text, answer_text, counted}
use Rattle.model.specs.Job as Job
use Rattle.store.specs.declared.answer.Answer.{Answer}
use Rattle.store.specs.declared.plans.Plan.{Plan}
use Rattle.store.specs.Plans.{Plans, Planned, Refuses}
use Rattle.job.specs.Told.{Told}
use Rattle.job.specs.Counts.{tally_of}
use Rattle.job.specs.declared.fields.Serial.{Serial}
use Rattle.job.specs.declared.fields.Request.{Request}
use Rattle.job.specs.declared.fields.Request.TheVariants.{Enter, Withdraw, File, Show}
use Rattle.job.specs.declared.turn.Ahead.{Ahead}
use Rattle.job.specs.declared.turn.Turned.{Turned}

-- what is asked of a store, and its serial
abbrev pub asked : Store → Request → Step
asked s (Enter x) = enter_step s x.bytes x.len
asked s (Withdraw x) = withdraw_step s x.bytes x.len enough
asked s (File x f) = file_step s x.bytes x.len f.day f.code
asked s (Show x) = show_step s x.bytes x.len enough

abbrev pub serial_in : Request → Serial
serial_in (Enter x) = x
serial_in (Withdraw x) = x
serial_in (File x f) = x
serial_in (Show x) = x

-- a plan of what is asked, on these words
abbrev pub PlansRequest : List ℕ → Request → Result Plan Answer → Type 0
PlansRequest w q plan = Plans (asked (decode w) q).answer w (serial_in q).bytes (serial_in q).len plan

-- what goes ahead, on these words
abbrev pub GoesAhead : List ℕ → Ahead → Type 0
GoesAhead w a = Planned (asked (decode w) a.request).answer w (serial_in a.request).bytes (serial_in a.request).len a.plan

-- the line x on these words goes ahead with what it tells, or is refused
abbrev pub PlansLine : List ℕ → List ℕ → Result Ahead Answer → Type 0
PlansLine w x (Ok a) = Told (line_of x) (Some a.request) × GoesAhead w a
PlansLine w x (Err answer) = Refuses (step_of (decode w) (line_of x)).answer answer

-- a show and a withdraw list pairs
abbrev pub listing : Request → Bool
listing (Enter x) = false
listing (Withdraw x) = true
listing (File x f) = false
listing (Show x) = true

-- the room holds the pairs that the answer lists, once the request is done
pub record Lists (s : Store) (q : Request) (count : ℕ) (room : List ℕ) : Type 0 where
  pub count_is : count ≡ cond (listing q) (asked s q).answer.faults 0
  pub few : count ≤ faults_ever
  pub text_is : pair_text count room ≡ pair_text count (asked s q).room

-- what a line leaves: whether its answer fitted, the words, the output and where its text ends, the tally
pub record Turn : Type 0 where
  pub fits : Bool
  pub words : List ℕ
  pub out : List ℕ
  pub end : ℕ
  pub tally : Job.Tally

-- the line x on the words w, its answer from `at` on; a line whose answer exceeds the output left changes nothing
unfoldable pub turn_of : List ℕ → List ℕ → List ℕ → ℕ → Job.Tally → Turn
turn_of w x out at t =
    let s = decode w in
    let l = line_of x in
    let step = step_of s l in
    let answer = answer_text l step in
    cond (ltb (length out) (at + length answer))
    (record { fits = false; words = w; out = out; end = at; tally = t })
    (record { fits = true; words = encode step.store; out = sets out at answer; end = at + length answer; tally = counted t s l step })

-- the longest answer: four numbers of ten digits, three spaces, LF, and 22 bytes for each fault
abbrev pub longest : ℕ
longest = 44 + 22 * faults_ever

-- where the text of a turn of the program ends, and its tally
pub record Ended (t : Turn) (at : ℕ) (r : Turned) : Type 0 where
  pub end_is : r.end ≡ t.end
  pub tally_is : tally_of r.tally ≡ t.tally
  pub most : r.end ≤ at + longest

-- a turn of the program, held to it: it gives nothing where the answer does not fit
pub record Turns (t : Turn) (at : ℕ) (r : Option Turned) (words out : List ℕ) : Type 0 where
  pub fits_is : is_some r ≡ t.fits
  pub ended : IfSome r (Ended t at)
  pub words_are : words ≡ t.words
  pub out_is : out ≡ t.out
