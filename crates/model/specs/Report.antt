-- Faults by code: one report over up to eight stores that stand one behind another in one run of words.
use Rattle.std.specs.Prelude.{ℕ, ◌*◌, ◌/◌, ◌%◌, min, max, List, [], ◌∷◌, ◌++◌, map, Bool, not, ◌&&◌, cond, ltb, eqb, length, take, drop}
use Rattle.model.specs.Lists.{between, all, keep, join, from, total}
use Rattle.model.specs.Shape.{need}
use Rattle.model.specs.Serial.{most_code}
use Rattle.model.specs.Layout.{shape_of, decode, sound}
use Rattle.model.specs.Numbers.{not_sound, short_room, short_scratch, bad_stores}
use Rattle.model.specs.Calls.{cleaned}
use Rattle.model.specs.Plain.{Slip, plain}
use Rattle.model.specs.Text.{lf, space, decimal}

-- the stores

abbrev pub most_stores : ℕ
most_stores = 8

-- the run, cut by the list of lengths
unfoldable pub pieces : List ℕ → List ℕ → List (List ℕ)
pieces run [] = []
pieces run (n ∷ ns) = take n run ∷ pieces (drop n run) ns

-- the lengths add up to the run, and every store is sound; so none has length 0
unfoldable pub run_sound : List ℕ → List ℕ → Bool
run_sound run ns = eqb (total (λ n. n) ns) (length run) && all sound (pieces run ns)

-- the scratch that they take: the most that any takes, and no less than no words at all do
unfoldable pub most_need : List (List ℕ) → ℕ
most_need [] = need (shape_of [])
most_need (w ∷ ws) = max (need (shape_of w)) (most_need ws)

-- of the first eight, as the lengths tell them
unfoldable pub need_of : List ℕ → List ℕ → ℕ
need_of run ns = most_need (pieces run (take most_stores ns))

-- the histories of all their cards: the same serial in two stores is two cards
abbrev pub histories_in : List ℕ → List (List Slip)
histories_in w = map (λ e. e.slips) (plain (decode w))

unfoldable pub all_histories : List (List ℕ) → List (List Slip)
all_histories ws = join (map histories_in ws)

-- a code

-- the faults that have it, among some
abbrev pub of_code : ℕ → List Slip → List Slip
of_code k fs = keep (λ f. eqb f.code k) fs

-- its entries, and the cards that have it
unfoldable pub entries_of : ℕ → List (List Slip) → ℕ
entries_of k hs = length (of_code k (join hs))

unfoldable pub cards_with : ℕ → List (List Slip) → ℕ
cards_with k hs = length (keep (λ h. ltb 0 (length (of_code k h))) hs)

-- the lowest and the highest of some numbers, 0 where there is none
unfoldable pub lowest : List ℕ → ℕ
lowest [] = 0
lowest (d ∷ []) = d
lowest (d ∷ e ∷ ds) = min d (lowest (e ∷ ds))

unfoldable pub highest : List ℕ → ℕ
highest [] = 0
highest (d ∷ ds) = max d (highest ds)

-- its days, the earliest and the latest of them
abbrev pub days_of : ℕ → List (List Slip) → List ℕ
days_of k hs = map (λ f. f.day) (of_code k (join hs))

unfoldable pub earliest : ℕ → List (List Slip) → ℕ
earliest k hs = lowest (days_of k hs)

unfoldable pub latest : ℕ → List (List Slip) → ℕ
latest k hs = highest (days_of k hs)

-- the codes that occur, rising
unfoldable pub codes_in : List (List Slip) → List ℕ
codes_in hs = keep (λ k. ltb 0 (entries_of k hs)) (from 1 most_code)

-- the text

-- a line of numbers, one space between, LF behind
unfoldable pub numbers_line : List ℕ → List ℕ
numbers_line [] = lf ∷ []
numbers_line (n ∷ []) = decimal n ++ (lf ∷ [])
numbers_line (n ∷ m ∷ ns) = decimal n ++ (space ∷ numbers_line (m ∷ ns))

-- code, entries, cards, earliest and latest day
unfoldable pub code_line : List (List Slip) → ℕ → List ℕ
code_line hs k = numbers_line (k ∷ entries_of k hs ∷ cards_with k hs ∷ earliest k hs ∷ latest k hs ∷ [])

-- entries per thousand cards, whole part and remainder; left out with no cards
unfoldable pub rate_line : ℕ → ℕ → List ℕ
rate_line cards entries =
    let all = 1000 * entries in
    cond (eqb cards 0) [] (numbers_line (all / cards ∷ all % cards ∷ []))

-- all cards, all entries, the rate
unfoldable pub total_lines : ℕ → ℕ → List ℕ
total_lines cards entries = numbers_line (cards ∷ []) ++ (numbers_line (entries ∷ []) ++ rate_line cards entries)

unfoldable pub report_text : List (List Slip) → List ℕ
report_text hs = join (map (code_line hs) (codes_in hs)) ++ total_lines (length hs) (total length hs)

-- what a report gives, its number and the bytes written, and all that it leaves; run and lengths are only read
pub record Reported : Type 0 where
  pub number : ℕ
  pub count : ℕ
  pub out : List ℕ
  pub scratch : List ℕ

-- a report that is refused: nothing is written
abbrev pub refused_report : ℕ → List ℕ → List ℕ → Reported
refused_report n out scratch = record { number = n; count = 0; out = out; scratch = scratch }

-- a text in the output, if it has room for all of it
abbrev pub written_report : List ℕ → List ℕ → List ℕ → Reported
written_report text out scratch =
    cond (ltb (length out) (length text)) (refused_report short_room out scratch)
    (record { number = 0; count = length text; out = text ++ drop (length text) out; scratch = scratch })

-- first 11, then 14, then 3, then 10
unfoldable pub report_call : List ℕ → List ℕ → List ℕ → List ℕ → Reported
report_call run ns scratch out =
    let clean = cleaned (need_of run ns) scratch in
    cond (ltb (length scratch) (need_of run ns)) (refused_report short_scratch out scratch)
    (cond (not (between 1 most_stores (length ns))) (refused_report bad_stores out clean)
    (cond (not (run_sound run ns)) (refused_report not_sound out clean)
    (written_report (report_text (all_histories (pieces run ns))) out clean)))
