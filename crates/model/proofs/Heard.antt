-- Answer lines read back. An answer of a good store lists valid faults, and its number and its count are small (`line_says`); so its line is
-- pieces of digits between spaces, the pairs with a colon in them (`pair_text_lem`), and reading gives the step's number, faults and room again (`reads_back`).
-- No LF stands in it, so the lines of what a job wrote are its answer lines (`next_answer`): what is read off them is what the calls of
-- the job's lines answer, as events (`said_seen`) and as demand 2 compares them (`said_told`), and at each line in the middle (`seen_before_lem`, `number_read`, `pairs_read`).
use Prim.Native.Nat.{ℕ, suc, ◌*◌, ◌^◌, ◌<◌}
use mathlib.Core.Path.{◌≡◌, refl, sym, ap, ◌∙◌, subst}
use mathlib.Core.List.{List, [], ◌∷◌, ◌++◌, map, append-nil, append_assoc}
use mathlib.Core.Bool.{true}
use native.Mathlib.Omega.{arith}
use lib.Dec.{eqb}
use lib.ListN.{length, take, drop, get_or}
use lib.Seq.{length-take-le, take_at}
use Rattle.rules.specs.Code.{code_of}
use Rattle.rules.specs.Table.{address_of}
use Rattle.rules.proofs.Tests.{both}
use Rattle.model.specs.Lists.{between}
use Rattle.model.specs.Serial.{serial_ok, valid_fault, most_code}
use Rattle.model.specs.Shape.{Shape}
use Rattle.model.specs.Model.{Fault, Card, Store, histories, address_in, chain_for, is, history_in}
use Rattle.model.specs.Layout.{shape_of, decode, sound, good_card}
use Rattle.model.specs.Calls.{Answer, Step, pairs, listing, written}
use Rattle.model.specs.Runs.{Call, Call.acting, words_after, run, Event, Event.answered, events_of, events, Tell, tells}
use Rattle.model.specs.Text.{fields, lines_of, decimal}
use Rattle.model.specs.Job.{Line, bad, enter, show, withdraw, file, padded, line_of, enough, step_of, pair_text, listed, answer_text}
use Rattle.model.specs.Deeds.{acts_of, tidy, calls_by, calls_of, step_by, said_by, said}
use Rattle.model.specs.Heard.{number_at, number_in, faults_in, pairs_by, pairs_in, heard, Heard, heard_in, seen_in, told_in}
use Rattle.model.proofs.Jobs.{history_fits}
use Rattle.model.proofs.Lists.{between_is, map_append, Every, every_append, every_keep}
use Rattle.model.proofs.Listing.{listing_length, listing_every}
use Rattle.model.proofs.Listed.{pairs_long}
use Rattle.model.proofs.Walks.{all_every}
use Rattle.model.proofs.Fair.{Good}
use Rattle.model.proofs.Look.{look}
use Rattle.model.proofs.Sound.{sound_good}
use Rattle.model.proofs.Cases.{enter_cases, file_cases, show_cases, withdraw_cases}
use Rattle.model.proofs.Outcomes.{sound_run}
use Rattle.model.proofs.Deeds.{shape_acts, line_step_lem, said_at}
use Rattle.model.proofs.Fields.{Without, glued, fields_mean, more_lines, lines_mean}
use Rattle.model.proofs.Decimals.{Digit, decimal_back, decimal_without}

-- a store's faults are valid, and few

abbrev Valid : Fault → Type 0
Valid f = valid_fault f.day f.code ≡ true

card_valid : (m p b : ℕ) (c : Card) → good_card m p b c ≡ true → Every Valid c.faults
unfolding good_card
card_valid m p b c t =
    let h = both (serial_ok c.serial) _ t in
    all_every (λ f. valid_fault f.day f.code) c.faults (both (eqb (address_of (code_of c.serial) m p) b) _ h.1).1

cards_valid : (m p b : ℕ) (cs : List Card) → Every (λ c. good_card m p b c ≡ true) cs → Every Valid (histories cs)
cards_valid m p b [] r = tt
cards_valid m p b (c ∷ cs) r = every_append Valid c.faults (histories cs) (card_valid m p b c r.0) (cards_valid m p b cs r.1)

module _ (s : Store) (g : Good s) (y : List ℕ) where
  history_valid : Every Valid (history_in s y)
  history_valid =
      let m = s.maxp in
      let p = s.p in
      let b = address_in s y in
      cards_valid m p b (look s y)
      (every_keep (λ c. good_card m p b c ≡ true) (is y) (chain_for s y) (all_every (good_card m p b) (chain_for s y) (g.fair.addressed b)))

-- the answer of a line that was given this room: it lists valid faults, and the room has them at its front
record Says (l : Line) (room : List ℕ) (r : Step) : Type 0 where
  pub told : List Fault
  pub valid : Every Valid told
  pub count : listed l r.answer ≡ length told
  pub room_is : r.room ≡ pairs told ++ drop (2 * length told) room
  pub number : r.answer.number < 10 ^ 20
  pub faults : r.answer.faults < 10 ^ 20

-- the room that a line is given
abbrev room_for : Line → List ℕ
room_for bad = []
room_for (enter f) = []
room_for (show f) = enough
room_for (withdraw f) = enough
room_for (file f day code) = []

-- one that lists none and leaves the room
silent : (l : Line) (room : List ℕ) (r : Step) → listed l r.answer ≡ 0 → r.room ≡ room → r.answer.number < 10 ^ 20 → r.answer.faults < 10 ^ 20 → Says l room r
silent l room r c e n f = record { told = []; valid = tt; count = c; room_is = e; number = n; faults = f }

-- one that lists a history
listed_by_day : (l : Line) (room : List ℕ) (r : Step) (h : List Fault) → Every Valid h → listed l r.answer ≡ length h → r.room ≡ written h room
    → r.answer.number < 10 ^ 20 → r.answer.faults < 10 ^ 20 → Says l room r
listed_by_day l room r h v c e n f =
    let long = listing_length (λ (g : Fault). g.day) h in
    record { told = listing h; valid = listing_every (λ (g : Fault). g.day) Valid h v; count = c ∙ sym long; room_is = rw long e; number = n; faults = f }

module _ (s : Store) (g : Good s) where
  line_says : (l : Line) → Says l (room_for l) (step_of s l)
  unfolding step_of listed
  line_says bad = silent bad [] _ refl refl (omega arith) (omega arith)
  line_says (enter f) =
      let none = silent (enter f) [] in
      enter_cases s g (padded f) (length f) (Says (enter f) [])
      (λ v. none _ refl refl (omega arith) (omega arith)) (λ v l. none _ refl refl (omega arith) (omega arith))
      (λ v l k. none _ refl refl (omega arith) (omega arith)) (λ v l k. none _ refl refl (omega arith) (omega arith))
  line_says (file f day code) =
      let none = silent (file f day code) [] in
      let few = history_fits s g (take (length f) (padded f)) in
      file_cases s g (padded f) (length f) (Says (file f day code) []) day code
      (λ v. none _ refl refl (omega arith) (omega arith)) (λ v w. none _ refl refl (omega arith) (omega arith))
      (λ v w l. none _ refl refl (omega arith) (omega arith)) (λ v w l k. none _ refl refl (omega arith) (omega arith))
      (λ v w l k. none _ refl refl (omega arith) (omega (arith, few)))
  line_says (show f) =
      let none = silent (show f) enough in
      let y = take (length f) (padded f) in
      let few = history_fits s g y in
      show_cases s g (padded f) (length f) (Says (show f) enough) enough
      (λ v. none _ refl refl (omega arith) (omega arith)) (λ v l. none _ refl refl (omega arith) (omega arith))
      (λ v l k. none _ refl refl (omega arith) (omega (arith, few)))
      (λ v l k. listed_by_day (show f) enough _ (history_in s y) (history_valid s g y) refl refl (omega arith) (omega (arith, few)))
  line_says (withdraw f) =
      let none = silent (withdraw f) enough in
      let y = take (length f) (padded f) in
      let few = history_fits s g y in
      withdraw_cases s g (padded f) (length f) (Says (withdraw f) enough) enough
      (λ v. none _ refl refl (omega arith) (omega arith)) (λ v l. none _ refl refl (omega arith) (omega arith))
      (λ v l k. none _ refl refl (omega arith) (omega (arith, few)))
      (λ v l k. listed_by_day (withdraw f) enough _ (history_in s y) (history_valid s g y) refl refl (omega arith) (omega (arith, few)))

-- the text of an answer in pieces between spaces

abbrev pair_piece : Fault → List ℕ
pair_piece f = decimal f.day ++ (58 ∷ decimal f.code)

abbrev pieces : Answer → List Fault → List (List ℕ)
pieces a h = decimal a.number ∷ decimal a.comparisons ∷ decimal a.scanned ∷ decimal a.faults ∷ map pair_piece h

pairs_glued : (p : List ℕ) (h : List Fault) (rest : List ℕ) → p ++ pair_text (length h) (pairs h ++ rest) ≡ glued 32 (p ∷ map pair_piece h)
unfolding pair_text
pairs_glued p [] rest = append-nil p
pairs_glued p (f ∷ h) rest =
    rw (← (pairs_glued (pair_piece f) h rest), append_assoc (decimal f.day) (58 ∷ decimal f.code) (pair_text (length h) (pairs h ++ rest)))

-- no byte but digits, spaces and colons

piece_without : (b : ℕ) → (Digit b → ⊥) → (58 ≡ b → ⊥) → (f : Fault) → Without b (pair_piece f)
piece_without b d c f = every_append (λ x. x ≡ b → ⊥) (decimal f.day) (58 ∷ decimal f.code) (decimal_without f.day b d) (c, decimal_without f.code b d)

pairs_without : (b : ℕ) → (Digit b → ⊥) → (58 ≡ b → ⊥) → (h : List Fault) → Every (Without b) (map pair_piece h)
pairs_without b d c [] = tt
pairs_without b d c (f ∷ h) = (piece_without b d c f, pairs_without b d c h)

pieces_without : (b : ℕ) → (Digit b → ⊥) → (58 ≡ b → ⊥) → (a : Answer) (h : List Fault) → Every (Without b) (pieces a h)
pieces_without b d c a h = (decimal_without a.number b d, (decimal_without a.comparisons b d, (decimal_without a.scanned b d, (decimal_without a.faults b d, pairs_without b d c h))))

pub glued_without : (b sep : ℕ) → (sep ≡ b → ⊥) → (fs : List (List ℕ)) → Every (Without b) fs → Without b (glued sep fs)
glued_without b sep n [] w = tt
glued_without b sep n (f ∷ []) w = w.0
glued_without b sep n (f ∷ g ∷ fs) w = every_append (λ x. x ≡ b → ⊥) f (sep ∷ glued sep (g ∷ fs)) w.0 (n, glued_without b sep n (g ∷ fs) w.1)

-- the pairs read back

pair_fields : (f : Fault) → fields 58 (pair_piece f) ≡ decimal f.day ∷ decimal f.code ∷ []
pair_fields f =
    (fields_mean 58 (pair_piece f) (decimal f.day ∷ decimal f.code ∷ [])).1
    (record { some = omega arith; whole = (decimal_without f.day 58 (omega arith), (decimal_without f.code 58 (omega arith), tt)); text_is = refl })

pairs_back : (h : List Fault) → Every Valid h → pairs_by (map pair_piece h) ≡ pairs h
unfolding valid_fault
pairs_back [] v = refl
pairs_back (f ∷ h) v =
    let k = both (between 1 65535 f.day) (between 1 most_code f.code) v.0 in
    let d = (between_is 1 65535 f.day).0 k.0 in
    let c = (between_is 1 most_code f.code).0 k.1 in
    rw (pair_fields f, decimal_back f.day (omega arith), decimal_back f.code (omega arith), pairs_back h v.1)

-- a pair as text: a space, the day, a colon, the code
pub pair_text_lem : (k day code : ℕ) (room : List ℕ) → pair_text (suc k) (day ∷ code ∷ room) ≡ 32 ∷ (decimal day ++ (58 ∷ (decimal code ++ pair_text k room)))
unfolding pair_text
pair_text_lem k day code room = refl

-- an answer line: what is written is this and an LF, no LF stands in it, and it tells what the step gave
record ReadsBack (l : Line) (room : List ℕ) (r : Step) : Type 0 where
  pub line : List ℕ
  pub text_is : answer_text l r ≡ line ++ (10 ∷ [])
  pub whole : Without 10 line
  pub number_is : number_in line ≡ r.answer.number
  pub comparisons_are : r.answer.comparisons < 10 ^ 20 → number_at 1 (fields 32 line) ≡ r.answer.comparisons
  pub scanned_is : r.answer.scanned < 10 ^ 20 → number_at 2 (fields 32 line) ≡ r.answer.scanned
  pub faults_are : faults_in line ≡ r.answer.faults
  pub room_is : pairs_in line ++ drop (length (pairs_in line)) room ≡ r.room
  pub pairs_are : pairs_in line ≡ take (2 * listed l r.answer) r.room

reads_back : (l : Line) (room : List ℕ) (r : Step) → Says l room r → ReadsBack l room r
unfolding answer_text number_in faults_in pairs_in
reads_back l room r q =
    let a = r.answer in
    let ps = pieces a q.told in
    let e : fields 32 (glued 32 ps) ≡ ps = (fields_mean 32 (glued 32 ps) ps).1 (record { some = omega arith; whole = pieces_without 32 (omega arith) (omega arith) a q.told; text_is = refl }) in
    record {
      line = glued 32 ps;
      text_is = rw (q.count, q.room_is, ← (pairs_glued (decimal a.faults) q.told (drop (2 * length q.told) room))) (simp append_assoc);
      whole = glued_without 10 32 (omega arith) ps (pieces_without 10 (omega arith) (omega arith) a q.told);
      number_is = rw e (decimal_back a.number q.number);
      comparisons_are = λ h. rw e (decimal_back a.comparisons h);
      scanned_is = λ h. rw e (decimal_back a.scanned h);
      faults_are = rw e (decimal_back a.faults q.faults);
      room_is = rw (e, pairs_back q.told q.valid, pairs_long q.told) (sym q.room_is);
      pairs_are =
          rw (e, pairs_back q.told q.valid, q.count, q.room_is)
          (sym (take_at (pairs q.told) (drop (2 * length q.told) room) (2 * length q.told) (pairs_long q.told)));
    }

-- lines one behind the other

pub first_line : (y text : List ℕ) → Without 10 y → lines_of (y ++ (10 ∷ text)) ≡ y ∷ lines_of text
first_line y text h = (lines_mean (y ++ (10 ∷ text)) (y ∷ lines_of text)).1 (more_lines y text (lines_of text) h ((lines_mean text (lines_of text)).0 refl))

pub events_append : (w : List ℕ) (cs ds : List Call) → events w (cs ++ ds) ≡ events w cs ++ events (run w cs) ds
events_append w [] ds = refl
events_append w (c ∷ cs) ds = rw (events_append (words_after w c) cs ds) (sym (append_assoc (events_of w c) (events (words_after w c) cs) (events (run (words_after w c) cs) ds)))

pub tells_append : (w : List ℕ) (cs ds : List Call) → tells w (cs ++ ds) ≡ tells w cs ++ tells (run w cs) ds
tells_append w [] ds = refl
tells_append w (c ∷ cs) ds = rw (tells_append (words_after w c) cs ds)

-- a line on sound words
module _ (w : List ℕ) (ok : sound w ≡ true) (x : List ℕ) where
  line_read : ReadsBack (line_of x) (room_for (line_of x)) (step_by w (acts_of (line_of x)))
  line_read = reads_back (line_of x) (room_for (line_of x)) _ (rw (← (line_step_lem w ok (line_of x))) (line_says (decode w) (sound_good w ok).0 (line_of x)))

  -- behind its answer line come those of the text that follows
  next_answer : (text : List ℕ) → lines_of (said_by w x ++ text) ≡ line_read.line ∷ lines_of text
  next_answer text = rw (line_read.text_is, append_assoc line_read.line (10 ∷ []) text) (first_line line_read.line text line_read.whole)

-- what is read off an answer line is what the line's calls answer

abbrev as_event : Heard → Event
as_event h = answered h.act h.tell.number h.tell.faults

abbrev heard_of : List ℕ → Line → List Heard
heard_of y l = map (λ a. record { act = a; tell = heard a y }) (acts_of l)

abbrev calls_for : List ℕ → Line → List Call
calls_for w l = map (acting (tidy (shape_of w))) (acts_of l)

line_events : (w : List ℕ) (l : Line) (q : ReadsBack l (room_for l) (step_by w (acts_of l))) → map as_event (heard_of q.line l) ≡ events w (calls_for w l)
line_events w bad q = refl
line_events w (enter f) q = rw (q.number_is, q.faults_are)
line_events w (show f) q = rw (q.number_is, q.faults_are)
line_events w (withdraw f) q = rw (q.number_is, q.faults_are)
line_events w (file f day code) q = rw (q.number_is, q.faults_are)

line_tells : (w : List ℕ) (l : Line) (q : ReadsBack l (room_for l) (step_by w (acts_of l))) → map (λ (h : Heard). h.tell) (heard_of q.line l) ≡ tells w (calls_for w l)
line_tells w bad q = refl
line_tells w (enter f) q = rw (q.number_is, q.faults_are, q.room_is)
line_tells w (show f) q = rw (q.number_is, q.faults_are, q.room_is)
line_tells w (withdraw f) q = rw (q.number_is, q.faults_are, q.room_is)
line_tells w (file f day code) q = rw (q.number_is, q.faults_are, q.room_is)

-- the answer lines at the front of a text, whatever follows

pub said_seen : (w : List ℕ) → sound w ≡ true → (xs : List (List ℕ)) (rest : List ℕ) → seen_in xs (lines_of (said w xs ++ rest)) ≡ events w (calls_of (shape_of w) xs)
said_seen w ok [] rest = refl
said_seen w ok (x ∷ xs) rest =
    let sh = shape_of w in
    let next = run w (calls_by sh x) in
    let q = line_read w ok x in
    let later = lines_of (said next xs ++ rest) in
    rw (append_assoc (said_by w x) (said next xs) rest, next_answer w ok x (said next xs ++ rest), map_append as_event (heard_of q.line (line_of x)) (heard_in xs later), line_events w (line_of x) q, events_append w (calls_by sh x) (calls_of sh xs))
    (ap (λ (es : List Event). events w (calls_by sh x) ++ es)
    (said_seen next (sound_run w ok (calls_by sh x)) xs rest ∙ ap (λ (s : Shape). events next (calls_of s xs)) (shape_acts w ok (tidy sh) (acts_of (line_of x)))))

pub said_told : (w : List ℕ) → sound w ≡ true → (xs : List (List ℕ)) (rest : List ℕ) → told_in xs (lines_of (said w xs ++ rest)) ≡ tells w (calls_of (shape_of w) xs)
said_told w ok [] rest = refl
said_told w ok (x ∷ xs) rest =
    let sh = shape_of w in
    let next = run w (calls_by sh x) in
    let q = line_read w ok x in
    let later = lines_of (said next xs ++ rest) in
    rw (append_assoc (said_by w x) (said next xs) rest, next_answer w ok x (said next xs ++ rest), map_append (λ (h : Heard). h.tell) (heard_of q.line (line_of x)) (heard_in xs later), line_tells w (line_of x) q, tells_append w (calls_by sh x) (calls_of sh xs))
    (ap (λ (ts : List Tell). tells w (calls_by sh x) ++ ts)
    (said_told next (sound_run w ok (calls_by sh x)) xs rest ∙ ap (λ (s : Shape). tells next (calls_of s xs)) (shape_acts w ok (tidy sh) (acts_of (line_of x)))))

-- as many answer lines as lines
said_behind : (w : List ℕ) → sound w ≡ true → (xs : List (List ℕ)) (rest : List ℕ) → get_or (lines_of (said w xs ++ rest)) (length xs) [] ≡ get_or (lines_of rest) 0 []
said_behind w ok [] rest = refl
said_behind w ok (x ∷ xs) rest =
    let next = run w (calls_by (shape_of w) x) in
    rw (append_assoc (said_by w x) (said next xs) rest, next_answer w ok x (said next xs ++ rest)) (said_behind next (sound_run w ok (calls_by (shape_of w) x)) xs rest)

-- at line k
module _ (w : List ℕ) (ok : sound w ≡ true) (xs : List (List ℕ)) (k : ℕ) (h : k < length xs) where
  abbrev to : List ℕ
  to = run w (calls_of (shape_of w) (take k xs))

  pub seen_before_lem : seen_in (take k xs) (lines_of (said w xs)) ≡ events w (calls_of (shape_of w) (take k xs))
  seen_before_lem = rw (said_at w ok xs k h) (said_seen w ok (take k xs) _)

  at_line : get_or (lines_of (said w xs)) k [] ≡ (line_read to (sound_run w ok (calls_of (shape_of w) (take k xs))) (get_or xs k [])).line
  at_line =
      let x = get_or xs k [] in
      let v = sound_run w ok (calls_of (shape_of w) (take k xs)) in
      let more = said (run w (calls_of (shape_of w) (take (suc k) xs))) (drop (suc k) xs) in
      let e : length (take k xs) ≡ k = length-take-le k xs (omega arith) in
      ap (λ (t : List ℕ). get_or (lines_of t) k []) (said_at w ok xs k h)
      ∙ subst (λ (n : ℕ). get_or (lines_of (said w (take k xs) ++ (said_by to x ++ more))) n [] ≡ get_or (lines_of (said_by to x ++ more)) 0 []) e (said_behind w ok (take k xs) (said_by to x ++ more))
      ∙ ap (λ (ls : List (List ℕ)). get_or ls 0 []) (next_answer to v x more)

  pub number_read : number_in (get_or (lines_of (said w xs)) k []) ≡ (step_by to (acts_of (line_of (get_or xs k [])))).answer.number
  number_read = ap number_in at_line ∙ (line_read to (sound_run w ok (calls_of (shape_of w) (take k xs))) (get_or xs k [])).number_is

  -- the pairs in its answer line are those at the front of the room that it leaves
  pub pairs_read : let l = line_of (get_or xs k []) in
      let r = step_by to (acts_of l) in
      pairs_in (get_or (lines_of (said w xs)) k []) ≡ take (2 * listed l r.answer) r.room
  pairs_read = ap pairs_in at_line ∙ (line_read to (sound_run w ok (calls_of (shape_of w) (take k xs))) (get_or xs k [])).pairs_are
