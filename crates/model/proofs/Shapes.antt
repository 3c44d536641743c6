-- What a shape fixes, as facts: `shaped` takes the test apart, and a shape is read back from its words (`shape_read`). But for FormatOne, which is about the numbers of one format, no other
-- law looks at such a number: those that need one cite `width_least`, `entries_some`, `top_most`, `cards_top`, `cards_ever_lem`, `faults_ever_lem`, `need_ever`, `need_is`, `marks_fit`, `limits_mean`,
-- `limits_fit_lem`, `bounds_mean` or `bounds_fit`, and for the words of a cell `card_fills`, `new_fills` or `free_fills`.
use mathlib.Core.Path.{◌≡◌, refl, sym, ◌∙◌}
use mathlib.Core.Logic.{◌⊎◌, ◌↔◌, inl, inr, ⊎_elim}
use mathlib.Core.Bool.{true, ◌&&◌}
use mathlib.Core.List.{List, [], ◌∷◌}
use Prim.Native.Nat.{ℕ, ◌+◌, ◌-◌, ◌*◌, ◌≤◌, ◌<◌}
use native.Mathlib.Omega.{arith}
use lib.Dec.{leb, eqb}
use lib.ListN.{length, get_or, replicate}
use borrow.Author.Tests.{eqb-true, leb-true, le-leb}
use Rattle.rules.specs.Table.{top}
use Rattle.rules.proofs.Tests.{both, either, all_of}
use Rattle.model.specs.Bounds.{least_width, most_width, least_entries, cards_ever}
use Rattle.model.specs.Lists.{between}
use Rattle.model.specs.Shape.{Shape, entries, top_of, card_width, most_cards, most_faults, faults_ever, need}
use Rattle.model.specs.Model.{Card}
use Rattle.model.specs.Layout.{format_at, limit_at, fault_limit_at, bounds_at, least_upper, most_upper, first_format, second_format, first_upper, first_lower, upper_by, lower_by, to_serial, serial_words, to_first, card_cell, limits_ok, bounds_ok, format_ok, bounds_word, shape_ok, shape_of}
use Rattle.model.specs.Words.{new_words}
use Rattle.model.proofs.Lists.{between_is}

pub width_least : (sh : Shape) → least_width ≤ card_width sh
unfolding card_width
width_least sh = omega arith

pub width_most : (sh : Shape) → card_width sh ≤ most_width
unfolding card_width
width_most sh = omega arith

pub entries_some : (sh : Shape) → least_entries ≤ entries sh
unfolding entries
entries_some sh = omega arith

pub top_most : (sh : Shape) → top_of sh ≤ top
unfolding entries
top_most sh = omega arith

-- four cards a bucket are the most, in a table of most buckets
pub cards_top : (sh : Shape) → most_cards sh ≤ 4 * top_of sh
unfolding most_cards entries
cards_top sh = omega arith

-- bounds over all formats
pub cards_ever_lem : (sh : Shape) → most_cards sh ≤ cards_ever
unfolding most_cards
cards_ever_lem sh = omega arith

pub faults_ever_lem : (sh : Shape) → most_faults sh ≤ faults_ever
unfolding most_faults
faults_ever_lem sh = omega arith

-- which is reached: the room that a line is given has two words for each
pub ever_is : faults_ever ≡ 2048
ever_is = refl

pub need_ever : (sh : Shape) → 8 * need sh ≤ cards_ever + faults_ever
unfolding need
need_ever sh = omega (arith, cards_ever_lem sh, faults_ever_lem sh)

-- word k of a card cell is there
pub in_card : (sh : Shape) {k : ℕ} → k < least_width → k < card_width sh
in_card sh h = omega (arith, width_least sh)

-- a card's words behind the next one, those of a new card and those of a free cell are as many as its cell has
pub card_fills : (sh : Shape) (c : Card) → length (card_cell c).words ≡ card_width sh - 1
unfolding card_cell card_width
card_fills sh c = refl

pub new_fills : (sh : Shape) (y : List ℕ) → length (new_words y) ≡ card_width sh
unfolding new_words card_width
new_fills sh y = refl

pub free_fills : (sh : Shape) → replicate {A = ℕ} (card_width sh - 1) 0 ≡ 0 ∷ 0 ∷ 0 ∷ 0 ∷ 0 ∷ 0 ∷ 0 ∷ 0 ∷ []
unfolding card_width
free_fills sh = refl

-- the words of a serial are as many as its sixteen bytes fill, four a word, and lie before the word of the first fault
pub serial_fills : (4 * serial_words ≡ 16) × (to_serial + serial_words ≡ to_first)
serial_fills = (refl, refl)

-- every cell has its bit in the scratch that is asked for
pub marks_fit : (sh : Shape) → limits_ok sh ≡ true → sh.limit + sh.fault_limit ≤ 8 * need sh
unfolding limits_ok need most_cards most_faults
marks_fit sh e =
    let c = both (between 1 (most_cards sh) sh.limit) (between 1 (most_faults sh) sh.fault_limit) e in
    omega (arith, (between_is 1 (most_cards sh) sh.limit).0 c.0, (between_is 1 (most_faults sh) sh.fault_limit).0 c.1)

-- the limits that pass the test, in numbers
pub record LimitsMean (c f : ℕ) : Type 0 where
  pub some : 1 ≤ c
  pub most : c ≤ 1024
  pub some_faults : 1 ≤ f
  pub most_faults : f ≤ 2048

pub limits_mean : (sh : Shape) → (limits_ok sh ≡ true) ↔ LimitsMean sh.limit sh.fault_limit
unfolding limits_ok most_cards most_faults
limits_mean sh = (there, back)
  where
    there : limits_ok sh ≡ true → LimitsMean sh.limit sh.fault_limit
    there e =
        let a = both (between 1 (most_cards sh) sh.limit) (between 1 (most_faults sh) sh.fault_limit) e in
        let c = (between_is 1 (most_cards sh) sh.limit).0 a.0 in
        let f = (between_is 1 (most_faults sh) sh.fault_limit).0 a.1 in
        record { some = c.0; most = c.1; some_faults = f.0; most_faults = f.1 }

    back : LimitsMean sh.limit sh.fault_limit → limits_ok sh ≡ true
    back m =
        all_of {a = between 1 (most_cards sh) sh.limit} {b = between 1 (most_faults sh) sh.fault_limit}
        ((between_is 1 (most_cards sh) sh.limit).1 (m.some, m.most)) ((between_is 1 (most_faults sh) sh.fault_limit).1 (m.some_faults, m.most_faults))

-- limits in range pass it
pub limits_fit_lem : (sh : Shape) → 1 ≤ sh.limit → sh.limit ≤ 1024 → 1 ≤ sh.fault_limit → sh.fault_limit ≤ 2048 → limits_ok sh ≡ true
limits_fit_lem sh c m f n = (limits_mean sh).1 (record { some = c; most = m; some_faults = f; most_faults = n })

-- the scratch that a call asks for, in bytes
pub need_is : (sh : Shape) → need sh ≡ 384
unfolding need most_cards most_faults
need_is sh = refl

-- the bounds that pass the test, in numbers
pub record BoundsMean (u l : ℕ) : Type 0 where
  pub two : least_upper ≤ u
  pub ten : u ≤ most_upper
  pub one : 1 ≤ l
  pub half : 2 * l ≤ u

pub bounds_mean : (sh : Shape) → (bounds_ok sh ≡ true) ↔ BoundsMean sh.upper sh.lower
unfolding bounds_ok
bounds_mean sh = (there, back)
  where
    there : bounds_ok sh ≡ true → BoundsMean sh.upper sh.lower
    there e =
        let a = both (between least_upper most_upper sh.upper) (leb 1 sh.lower && leb (2 * sh.lower) sh.upper) e in
        let b = both (leb 1 sh.lower) (leb (2 * sh.lower) sh.upper) a.1 in
        let u = (between_is least_upper most_upper sh.upper).0 a.0 in
        record { two = u.0; ten = u.1; one = leb-true 1 sh.lower b.0; half = leb-true (2 * sh.lower) sh.upper b.1 }

    back : BoundsMean sh.upper sh.lower → bounds_ok sh ≡ true
    back m =
        all_of {a = between least_upper most_upper sh.upper} {b = leb 1 sh.lower && leb (2 * sh.lower) sh.upper}
        ((between_is least_upper most_upper sh.upper).1 (m.two, m.ten))
        (all_of {a = leb 1 sh.lower} {b = leb (2 * sh.lower) sh.upper} (le-leb 1 sh.lower m.one) (le-leb (2 * sh.lower) sh.upper m.half))

-- bounds in range pass it
pub bounds_fit : (sh : Shape) → least_upper ≤ sh.upper → sh.upper ≤ most_upper → 1 ≤ sh.lower → 2 * sh.lower ≤ sh.upper → bounds_ok sh ≡ true
bounds_fit sh two ten one half = (bounds_mean sh).1 (record { two = two; ten = ten; one = one; half = half })

-- what the test of a shape says: limits and bounds as orders of numbers, and the formats
pub record Shaped (sh : Shape) : Type 0 where
  pub some : 1 ≤ sh.limit
  pub most : sh.limit ≤ most_cards sh
  pub some_faults : 1 ≤ sh.fault_limit
  pub most_faults : sh.fault_limit ≤ most_faults sh
  pub marks : sh.limit + sh.fault_limit ≤ 8 * need sh
  pub bounds : BoundsMean sh.upper sh.lower
  pub known : (sh.format ≡ second_format) ⊎ ((sh.format ≡ first_format) × (sh.upper ≡ first_upper) × (sh.lower ≡ first_lower))

pub shaped : (sh : Shape) → shape_ok sh ≡ true → Shaped sh
unfolding shape_ok format_ok limits_ok
shaped sh e =
    let a = both (format_ok sh) (limits_ok sh && bounds_ok sh) e in
    let b = both (limits_ok sh) (bounds_ok sh) a.1 in
    let c = both (between 1 (most_cards sh) sh.limit) (between 1 (most_faults sh) sh.fault_limit) b.0 in
    let m = (between_is 1 (most_cards sh) sh.limit).0 c.0 in
    let n = (between_is 1 (most_faults sh) sh.fault_limit).0 c.1 in
    record {
      some = m.0;
      most = m.1;
      some_faults = n.0;
      most_faults = n.1;
      marks = marks_fit sh b.0;
      bounds = (bounds_mean sh).0 b.1;
      known = ⊎_elim (λ t. inl (eqb-true sh.format second_format t)) (λ t. inr (old t)) (either (eqb sh.format second_format) _ a.0);
    }
  where
    old : (eqb sh.format first_format && (eqb sh.upper first_upper && eqb sh.lower first_lower)) ≡ true → (sh.format ≡ first_format) × (sh.upper ≡ first_upper) × (sh.lower ≡ first_lower)
    old t =
        let a = both (eqb sh.format first_format) (eqb sh.upper first_upper && eqb sh.lower first_lower) t in
        let b = both (eqb sh.upper first_upper) (eqb sh.lower first_lower) a.1 in
        (eqb-true sh.format first_format a.0, eqb-true sh.upper first_upper b.0, eqb-true sh.lower first_lower b.1)

-- the limits within the bounds over all formats
pub few_cards : (sh : Shape) → shape_ok sh ≡ true → sh.limit ≤ cards_ever
few_cards sh e = omega (arith, (shaped sh e).most, cards_ever_lem sh)

pub few_faults : (sh : Shape) → shape_ok sh ≡ true → sh.fault_limit ≤ faults_ever
few_faults sh e = omega (arith, (shaped sh e).most_faults, faults_ever_lem sh)

-- the format and the bounds' word of a shape tell its bounds: L is below 256, so that the two parts of the word are U and L
bounds_read : (sh : Shape) → shape_ok sh ≡ true → (upper_by sh.format (bounds_word sh) ≡ sh.upper) × (lower_by sh.format (bounds_word sh) ≡ sh.lower)
unfolding bounds_word
bounds_read sh ok = go (shaped sh ok).known
  where
    go : (sh.format ≡ second_format) ⊎ ((sh.format ≡ first_format) × (sh.upper ≡ first_upper) × (sh.lower ≡ first_lower))
        → (upper_by sh.format (bounds_word sh) ≡ sh.upper) × (lower_by sh.format (bounds_word sh) ≡ sh.lower)
    go (inl e) = let m = (shaped sh ok).bounds in rw e (omega (arith, m.ten, m.half), omega (arith, m.ten, m.half))
    go (inr (e, u, l)) = rw e (sym u, sym l)

-- the shape that words tell, where their words are those of a shape
pub shape_read : (w : List ℕ) (sh : Shape) → shape_ok sh ≡ true → get_or w format_at 0 ≡ sh.format → get_or w limit_at 0 ≡ sh.limit → get_or w fault_limit_at 0 ≡ sh.fault_limit → get_or w bounds_at 0 ≡ bounds_word sh
    → shape_of w ≡ sh
unfolding shape_of
shape_read w sh ok fmt c f b =
    let u = (λ i. upper_by (fmt i) (b i)) ∙ (bounds_read sh ok).0 in
    let l = (λ i. lower_by (fmt i) (b i)) ∙ (bounds_read sh ok).1 in
    λ i. record { format = fmt i; limit = c i; fault_limit = f i; upper = u i; lower = l i }
