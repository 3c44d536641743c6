-- What the rows say once all histories are noted: the row of a code has its entries, the cards that have it, its earliest and its latest day
-- (`rows_say`). A history changes a code's row by the days of its own faults of that code alone (`history_row`); at the first of them the card
-- is new to the row, at the others it is not, so the cards grow by one exactly where the history has the code. So the lines of the rows are those of
-- the codes that occur (`rows_text`), and with the totals they are the report (`text_is_report`).
use mathlib.Core.Path.{◌≡◌, refl, sym, ap, ◌∙◌}
use mathlib.Core.Bool.{true, cond}
use mathlib.Core.List.{List, [], ◌∷◌, ◌++◌, map, append-nil, append_assoc}
use Prim.Native.Nat.{ℕ, zero, suc, ◌+◌, ◌≤◌, min, max}
use native.Mathlib.Omega.{arith}
use lib.Dec.{ltb, eqb}
use lib.ListN.{length, length-append, length-map}
use lib.Seq.{append_snoc}
use borrow.Author.Tests.{eqb-true, eqb-false, eq-eqb, ne_eqb, lt-ltb, le-ltb}
use Rattle.rules.proofs.Tests.{by_cases}
use Rattle.model.specs.Lists.{keep, join, from, total}
use Rattle.model.specs.Serial.{most_code}
use Rattle.model.specs.Plain.{Slip}
use Rattle.model.specs.Report.{of_code, entries_of, cards_with, lowest, highest, days_of, earliest, latest, codes_in, code_line, report_text}
use Rattle.model.proofs.Lists.{keep_append, map_append}
use Rattle.model.proofs.Sums.{bit}
use Rattle.report.specs.declared.rows.Row.{Row}
use Rattle.report.specs.Rows.{rows_long, blank, row_of, cards_after, earliest_after, latest_after, note_row, noted, note_history, note_all, codes_fit}
use Rattle.report.specs.Texts.{row_line, row_lines, text_of}
use Rattle.report.specs.declared.totals.Totals.{Totals}
use Rattle.report.proofs.RowLaws.{noted_long, noted_here, noted_other, history_long, codes_first, codes_parts, row_in, blank_long, blank_row}

-- the row of one code

-- the days of its faults in a history, and a row with some days more of card n
abbrev days_in : ℕ → List Slip → List ℕ
days_in k fs = map (λ f. f.day) (of_code k fs)

abbrev note_days : ℕ → Row → List ℕ → Row
note_days n r [] = r
note_days n r (d ∷ ds) = note_days n (note_row n d r) ds

noted_row : (rows : List Row) (n : ℕ) (f : Slip) (k : ℕ) → length rows ≡ rows_long → f.code ≤ most_code
    → row_of (noted rows n f) k ≡ cond (eqb f.code k) (note_row n f.day (row_of rows k)) (row_of rows k)
noted_row rows n f k l h =
    by_cases (eqb f.code k)
    (λ e. rw (e, ← (eqb-true f.code k e)) (noted_here rows n f (row_in rows f.code l h)))
    (λ e. rw e (noted_other rows n f k (λ d. eqb-false f.code k e (sym d))))

history_row : (k : ℕ) (rows : List Row) (n : ℕ) (fs : List Slip) → length rows ≡ rows_long → codes_fit fs ≡ true
    → row_of (note_history rows n fs) k ≡ note_days n (row_of rows k) (days_in k fs)
unfolding note_history
history_row k rows n [] l c = refl
history_row k rows n (f ∷ fs) l c =
    let h = codes_first f fs c in
    history_row k (noted rows n f) n fs (noted_long rows n f ∙ l) h.1
    ∙ rw (noted_row rows n f k l h.0) (by_cases (eqb f.code k) (λ e. rw e) (λ e. rw e))

-- a number more behind the lowest and the highest of some

lowest_more : (e : ℕ) (ds : List ℕ) (d : ℕ) → lowest (e ∷ (ds ++ (d ∷ []))) ≡ min (lowest (e ∷ ds)) d
unfolding lowest
lowest_more e [] d = refl
lowest_more e (g ∷ ds) d = omega (arith, lowest_more g ds d)

lowest_snoc : (ds : List ℕ) (d : ℕ) → earliest_after (length ds) (lowest ds) d ≡ lowest (ds ++ (d ∷ []))
unfolding earliest_after lowest
lowest_snoc [] d = refl
lowest_snoc (e ∷ ds) d =
    rw (ne_eqb (suc (length ds)) 0 (omega arith)) (sym (lowest_more e ds d))

highest_more : (ds : List ℕ) (d : ℕ) → highest (ds ++ (d ∷ [])) ≡ max (highest ds) d
unfolding highest
highest_more [] d = omega arith
highest_more (e ∷ ds) d = omega (arith, highest_more ds d)

highest_snoc : (ds : List ℕ) (d : ℕ) → latest_after (highest ds) d ≡ highest (ds ++ (d ∷ []))
unfolding latest_after
highest_snoc ds d = sym (highest_more ds d)

-- a row speaks of faults on these days, on so many cards, none behind card n
record Speaks (n : ℕ) (ds : List ℕ) (c : ℕ) (r : Row) : Type 0 where
  entries_are : r.entries ≡ length ds
  cards_are : r.cards ≡ c
  earliest_is : r.earliest ≡ lowest ds
  latest_is : r.latest ≡ highest ds
  seen_few : r.seen ≤ n

speaks_same : {m n c d : ℕ} {ds es : List ℕ} {r : Row} → m ≤ n → ds ≡ es → c ≡ d → Speaks m ds c r → Speaks n es d r
speaks_same p q s t =
    record {
      entries_are = t.entries_are ∙ ap length q;
      cards_are = t.cards_are ∙ s;
      earliest_is = t.earliest_is ∙ ap lowest q;
      latest_is = t.latest_is ∙ ap highest q;
      seen_few = omega (arith, t.seen_few);
    }

-- one day more
speaks_day : (m n : ℕ) (ds : List ℕ) (c d : ℕ) (r : Row) → Speaks m ds c r → Speaks n (ds ++ (d ∷ [])) (cards_after c r.seen n) (note_row n d r)
unfolding note_row
speaks_day m n ds c d r t =
    record {
      entries_are = omega (arith, t.entries_are, length-append ds (d ∷ []));
      cards_are = ap (λ (x : ℕ). cards_after x r.seen n) t.cards_are;
      earliest_is = (λ i. earliest_after (t.entries_are i) (t.earliest_is i) d) ∙ lowest_snoc ds d;
      latest_is = ap (λ (x : ℕ). latest_after x d) t.latest_is ∙ highest_snoc ds d;
      seen_few = omega arith;
    }

-- more days of the card that was counted last: no card more
speaks_on : (n : ℕ) (ds es : List ℕ) (c : ℕ) (r : Row) → r.seen ≡ n → Speaks n ds c r → Speaks n (ds ++ es) c (note_days n r es)
unfolding note_row cards_after
speaks_on n ds [] c r e t = speaks_same (omega arith) (sym (append-nil ds)) refl t
speaks_on n ds (d ∷ es) c r e t =
    speaks_same (omega arith) (append_snoc ds d es) refl
    (speaks_on n (ds ++ (d ∷ [])) es c (note_row n d r) refl (speaks_same (omega arith) refl (rw (eq-eqb r.seen n e)) (speaks_day n n ds c d r t)))

-- the days of the next card: one card more, if there is a day
speaks_history : (n : ℕ) (ds es : List ℕ) (c : ℕ) (r : Row) → Speaks n ds c r → Speaks (suc n) (ds ++ es) (c + bit (ltb 0 (length es))) (note_days (suc n) r es)
unfolding note_row cards_after
speaks_history n ds [] c r t = speaks_same (omega arith) (sym (append-nil ds)) (omega arith) t
speaks_history n ds (d ∷ es) c r t =
    speaks_same (omega arith) (append_snoc ds d es) (rw (lt-ltb 0 (suc (length es)) (omega arith)))
    (speaks_on (suc n) (ds ++ (d ∷ [])) es (c + 1) (note_row (suc n) d r) refl
    (speaks_same (omega arith) refl (rw (ne_eqb r.seen (suc n) (omega (arith, t.seen_few)))) (speaks_day n (suc n) ds c d r t)))

-- all histories

days_append : (k : ℕ) (a b : List Slip) → days_in k (a ++ b) ≡ days_in k a ++ days_in k b
days_append k a b = ap (map (λ (f : Slip). f.day)) (keep_append (λ (f : Slip). eqb f.code k) a b) ∙ map_append (λ (f : Slip). f.day) (of_code k a) (of_code k b)

cards_none : (k : ℕ) → cards_with k [] ≡ 0
unfolding cards_with
cards_none k = refl

cards_more : (k : ℕ) (h : List Slip) (hs : List (List Slip)) → cards_with k (h ∷ hs) ≡ bit (ltb 0 (length (days_in k h))) + cards_with k hs
unfolding cards_with
cards_more k h hs =
    rw (length-map (of_code k h) (λ (f : Slip). f.day))
    (by_cases (ltb 0 (length (of_code k h))) (λ e. rw e (omega arith)) (λ e. rw e (omega arith)))

speaks_all : (k : ℕ) (rows : List Row) (n : ℕ) (hs : List (List Slip)) (ds : List ℕ) (c : ℕ) → length rows ≡ rows_long → codes_fit (join hs) ≡ true → Speaks n ds c (row_of rows k)
    → Speaks (n + length hs) (ds ++ days_of k hs) (c + cards_with k hs) (row_of (note_all rows n hs) k)
unfolding note_all
speaks_all k rows n [] ds c l ok t = speaks_same (omega arith) (sym (append-nil ds)) (omega (arith, cards_none k)) t
speaks_all k rows n (h ∷ hs) ds c l ok t =
    let p = codes_parts h (join hs) ok in
    let b = bit (ltb 0 (length (days_in k h))) in
    let one : Speaks (suc n) (ds ++ days_in k h) (c + b) (row_of (note_history rows (suc n) h) k) =
    rw (history_row k rows (suc n) h l p.0) (speaks_history n ds (days_in k h) c (row_of rows k) t) in
    speaks_same (omega arith) (append_assoc ds (days_in k h) (days_of k hs) ∙ ap (λ (es : List ℕ). ds ++ es) (sym (days_append k h (join hs)))) (omega (arith, cards_more k h hs))
    (speaks_all k (note_history rows (suc n) h) (suc n) hs (ds ++ days_in k h) (c + b) (history_long rows (suc n) h ∙ l) p.1 one)

-- what a row says of a code over some histories
pub record Says (k : ℕ) (hs : List (List Slip)) (r : Row) : Type 0 where
  pub entries_are : r.entries ≡ entries_of k hs
  pub cards_are : r.cards ≡ cards_with k hs
  pub earliest_is : r.earliest ≡ earliest k hs
  pub latest_is : r.latest ≡ latest k hs
  pub seen_few : r.seen ≤ length hs

speaks_blank : (k : ℕ) → Speaks 0 [] 0 (row_of blank k)
unfolding lowest highest
speaks_blank k = rw (blank_row k) (record { entries_are = refl; cards_are = refl; earliest_is = refl; latest_is = refl; seen_few = omega arith })

pub rows_say : (hs : List (List Slip)) → codes_fit (join hs) ≡ true → (k : ℕ) → Says k hs (row_of (note_all blank 0 hs) k)
unfolding entries_of earliest latest
rows_say hs ok k =
    let t = speaks_all k blank 0 hs [] 0 blank_long ok (speaks_blank k) in
    record {
      entries_are = t.entries_are ∙ length-map (of_code k (join hs)) (λ (f : Slip). f.day);
      cards_are = omega (arith, t.cards_are);
      earliest_is = t.earliest_is;
      latest_is = t.latest_is;
      seen_few = omega (arith, t.seen_few);
    }

-- the text

-- lines of which some are empty are the lines of the numbers that are kept
lines_kept : (e : ℕ → ℕ) (f g : ℕ → List ℕ) (a n : ℕ) → ((k : ℕ) → f k ≡ cond (eqb (e k) 0) [] (g k))
    → join (map f (from a n)) ≡ join (map g (keep (λ k. ltb 0 (e k)) (from a n)))
lines_kept e f g a zero h = refl
lines_kept e f g a (suc n) h =
    by_cases (eqb (e a) 0)
    (λ t. rw (h a, t, le-ltb 0 (e a) (omega (arith, eqb-true (e a) 0 t))) (lines_kept e f g (suc a) n h))
    (λ t. rw (h a, t, lt-ltb 0 (e a) (omega (arith, eqb-false (e a) 0 t)), lines_kept e f g (suc a) n h))

-- the line of a row that says so
row_line_lem : (k : ℕ) (hs : List (List Slip)) (r : Row) → Says k hs r → row_line k r ≡ cond (eqb (entries_of k hs) 0) [] (code_line hs k)
unfolding row_line code_line
row_line_lem k hs r s = rw (s.entries_are, s.cards_are, s.earliest_is, s.latest_is)

pub rows_text : (hs : List (List Slip)) → codes_fit (join hs) ≡ true → row_lines (note_all blank 0 hs) 1 most_code ≡ join (map (code_line hs) (codes_in hs))
unfolding row_lines codes_in
rows_text hs ok =
    lines_kept (λ k. entries_of k hs) (λ k. row_line k (row_of (note_all blank 0 hs) k)) (code_line hs) 1 most_code
    (λ k. row_line_lem k hs (row_of (note_all blank 0 hs) k) (rows_say hs ok k))

pub text_is_report : (hs : List (List Slip)) (rows : List Row) (t : Totals) → codes_fit (join hs) ≡ true → rows ≡ note_all blank 0 hs → t.cards ≡ length hs → t.entries ≡ total length hs
    → text_of rows t ≡ report_text hs
unfolding text_of report_text
text_is_report hs rows t ok r c e = rw (r, c, e, rows_text hs ok)
