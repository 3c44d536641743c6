-- What noting a fault does to the rows. A noted fault changes the row of its code
-- by `note_row` (`noted_here`) and no other (`noted_other`), and the rows stay as many. Each count in a row grows by one at most, so rows that
-- take some faults more take one less behind each fault (`takes_noted`, `takes_history`, `takes_all`). Blank rows have no entry (`blank_row`).
use mathlib.Core.Path.{◌≡◌, refl, sym, ap, ◌∙◌}
use mathlib.Core.Logic.{◌≢◌}
use mathlib.Core.Bool.{true}
use mathlib.Core.List.{List, [], ◌∷◌, ◌++◌}
use Prim.Native.Nat.{ℕ, zero, suc, ◌+◌, ◌≤◌, ◌<◌}
use native.Mathlib.Nat.{add-zero}
use native.Mathlib.Omega.{arith}
use lib.Dec.{leb, eqb}
use lib.ListN.{length, get_or, replicate, length-set, length-replicate}
use lib.Seq.{get_or-set_same, get_or-set_other}
use borrow.Author.Tests.{eqb-true, eqb-false, leb-true}
use Rattle.rules.proofs.Tests.{by_cases, both}
use Rattle.model.specs.Lists.{join, total}
use Rattle.model.specs.Serial.{most_code}
use Rattle.model.specs.Plain.{Slip}
use Rattle.model.proofs.Lists.{all_parts}
use Rattle.report.specs.declared.rows.Row.{Row}
use Rattle.report.specs.Rows.{rows_long, zero_row, blank, row_of, cards_after, note_row, noted, note_history, note_all, codes_fit, Takes, word_top}

-- one fault

pub noted_long : (rows : List Row) (n : ℕ) (f : Slip) → length (noted rows n f) ≡ length rows
unfolding noted
noted_long rows n f = length-set rows f.code (note_row n f.day (row_of rows f.code))

pub noted_here : (rows : List Row) (n : ℕ) (f : Slip) → f.code < length rows
    → row_of (noted rows n f) f.code ≡ note_row n f.day (row_of rows f.code)
unfolding noted row_of
noted_here rows n f h = get_or-set_same rows f.code (note_row n f.day (row_of rows f.code)) zero_row h

pub noted_other : (rows : List Row) (n : ℕ) (f : Slip) (k : ℕ) → k ≢ f.code → row_of (noted rows n f) k ≡ row_of rows k
unfolding noted row_of
noted_other rows n f k d = get_or-set_other rows f.code k (note_row n f.day (row_of rows f.code)) zero_row d

-- more of them

pub history_long : (rows : List Row) (n : ℕ) (fs : List Slip) → length (note_history rows n fs) ≡ length rows
unfolding note_history
history_long rows n [] = refl
history_long rows n (f ∷ fs) = history_long (noted rows n f) n fs ∙ noted_long rows n f

pub histories_long : (rows : List Row) (n : ℕ) (hs : List (List Slip)) → length (note_all rows n hs) ≡ length rows
unfolding note_all
histories_long rows n [] = refl
histories_long rows n (h ∷ hs) = histories_long (note_history rows (suc n) h) (suc n) hs ∙ history_long rows (suc n) h

pub history_append : (rows : List Row) (n : ℕ) (a b : List Slip) → note_history rows n (a ++ b) ≡ note_history (note_history rows n a) n b
unfolding note_history
history_append rows n [] b = refl
history_append rows n (f ∷ a) b = history_append (noted rows n f) n a b

pub histories_append : (rows : List Row) (n : ℕ) (gs hs : List (List Slip)) → note_all rows n (gs ++ hs) ≡ note_all (note_all rows n gs) (n + length gs) hs
unfolding note_all
histories_append rows n [] hs = ap (λ (m : ℕ). note_all rows m hs) (sym (add-zero n))
histories_append rows n (g ∷ gs) hs =
    let e : suc n + length gs ≡ n + suc (length gs) = omega arith in
    histories_append (note_history rows (suc n) g) (suc n) gs hs
    ∙ ap (λ (m : ℕ). note_all (note_all (note_history rows (suc n) g) (suc n) gs) m hs) e

-- codes that fit

pub codes_first : (f : Slip) (fs : List Slip) → codes_fit (f ∷ fs) ≡ true → (f.code ≤ most_code) × (codes_fit fs ≡ true)
unfolding codes_fit
codes_first f fs e = let h = both (leb f.code most_code) (codes_fit fs) e in (leb-true f.code most_code h.0, h.1)

pub codes_parts : (a b : List Slip) → codes_fit (a ++ b) ≡ true → (codes_fit a ≡ true) × (codes_fit b ≡ true)
unfolding codes_fit
codes_parts a b = all_parts (λ (f : Slip). leb f.code most_code) a b

-- the row of a code that fits is among the rows
pub row_in : (rows : List Row) (k : ℕ) → length rows ≡ rows_long → k ≤ most_code → k < length rows
row_in rows k l h = omega arith

-- room for more faults

pub takes_less : (rows : List Row) (m j : ℕ) → Takes rows m → j ≤ m → Takes rows j
takes_less rows m j t h = record { long = t.long; entries = λ k. omega (arith, t.entries k); cards = λ k. omega (arith, t.cards k) }

cards_step : (c s n : ℕ) → cards_after c s n ≤ c + 1
unfolding cards_after
cards_step c s n = by_cases (eqb s n) (λ e. rw e (omega arith)) (λ e. rw e (omega arith))

row_step : (n d : ℕ) (r : Row) → ((note_row n d r).entries ≤ r.entries + 1) × ((note_row n d r).cards ≤ r.cards + 1)
unfolding note_row
row_step n d r = (omega arith, cards_step r.cards r.seen n)

-- each count of each row grows by one at most
noted_step : (rows : List Row) (n : ℕ) (f : Slip) (k : ℕ) → f.code < length rows
    → ((row_of (noted rows n f) k).entries ≤ (row_of rows k).entries + 1) × ((row_of (noted rows n f) k).cards ≤ (row_of rows k).cards + 1)
noted_step rows n f k h =
    by_cases (eqb k f.code)
    (λ e. rw (eqb-true k f.code e, noted_here rows n f h) (row_step n f.day (row_of rows f.code)))
    (λ e. rw (noted_other rows n f k (eqb-false k f.code e)) (omega arith, omega arith))

pub takes_noted : (rows : List Row) (n m : ℕ) (f : Slip) → Takes rows (suc m) → f.code ≤ most_code → Takes (noted rows n f) m
takes_noted rows n m f t c =
    let h = row_in rows f.code t.long c in
    record {
      long = noted_long rows n f ∙ t.long;
      entries = λ k. omega (arith, t.entries k, (noted_step rows n f k h).0);
      cards = λ k. omega (arith, t.cards k, (noted_step rows n f k h).1);
    }

pub takes_history : (rows : List Row) (n m : ℕ) (fs : List Slip) → Takes rows (length fs + m) → codes_fit fs ≡ true → Takes (note_history rows n fs) m
unfolding note_history
takes_history rows n m [] t c = takes_less rows (0 + m) m t (omega arith)
takes_history rows n m (f ∷ fs) t c =
    let h = codes_first f fs c in
    takes_history (noted rows n f) n m fs
    (takes_noted rows n (length fs + m) f (takes_less rows (suc (length fs) + m) (suc (length fs + m)) t (omega arith)) h.0) h.1

pub takes_all : (rows : List Row) (n m : ℕ) (hs : List (List Slip)) → Takes rows (total length hs + m) → codes_fit (join hs) ≡ true → Takes (note_all rows n hs) m
unfolding note_all
takes_all rows n m [] t c = takes_less rows (0 + m) m t (omega arith)
takes_all rows n m (h ∷ hs) t c =
    let p = codes_parts h (join hs) c in
    takes_all (note_history rows (suc n) h) (suc n) m hs
    (takes_history rows (suc n) (total length hs + m) h (takes_less rows (length h + total length hs + m) (length h + (total length hs + m)) t (omega arith)) p.0) p.1

-- blank rows

pub blank_long : length blank ≡ rows_long
unfolding blank
blank_long = length-replicate {A = Row} rows_long zero_row

blanks : (n k : ℕ) → get_or {A = Row} (replicate n zero_row) k zero_row ≡ zero_row
blanks zero k = refl
blanks (suc n) zero = refl
blanks (suc n) (suc k) = blanks n k

pub blank_row : (k : ℕ) → row_of blank k ≡ zero_row
unfolding row_of blank
blank_row k = blanks rows_long k

pub takes_blank : (m : ℕ) → m < word_top → Takes blank m
takes_blank m h = record { long = blank_long; entries = λ k. rw (blank_row k) (omega arith); cards = λ k. rw (blank_row k) (omega arith) }
