-- The cards of a store noted one by one, in the order of buckets and chains: at each turn, what is left of them makes of the rows so far what all of
-- them make of the first rows (`Passing`), since the place at hand is that of the first card left.
use mathlib.Core.Path.{◌≡◌, sym, ap, ◌∙◌}
use mathlib.Core.Bool.{true}
use mathlib.Core.List.{List, [], map}
use Prim.Native.Nat.{ℕ, suc, ◌+◌, ◌≤◌, ◌<◌}
use native.Mathlib.Omega.{arith}
use lib.ListN.{length, drop}
use lib.Seq.{drop-length}
use Rattle.model.specs.Lists.{join, total}
use Rattle.model.specs.Model.{Card, cards, held}
use Rattle.model.specs.Layout.{to_first, card_word, sound, decode}
use Rattle.model.specs.Meaning.{next_fault}
use Rattle.model.specs.Plain.{Slip, slip, entry}
use Rattle.model.specs.Report.{histories_in}
use Rattle.reads.specs.declared.header.Header.{Header}
use Rattle.store.specs.declared.order.At.{At}
use Rattle.reads.specs.Cells.{shape_in, Read}
use Rattle.store.specs.Order.{place_of, Comes, Follows}
use Rattle.std.proofs.Common.{Option, Some, None, refl}
use Rattle.reads.specs.Chains.{Ends, faults_from}
use Rattle.store.proofs.OrderLaws.{CardHere, card_here, place_inside, place_past}
use Rattle.report.specs.declared.rows.Row.{Row}
use Rattle.report.specs.Rows.{slips_from, note_history, note_all, codes_fit, Takes}
use Rattle.report.proofs.RowLaws.{codes_parts, takes_less, takes_history}
use Rattle.report.proofs.SoundRuns.{sound_codes}

-- the histories of some cards
abbrev pub histories_of : List Card → List (List Slip)
histories_of cs = map (λ e. e.slips) (map entry cs)

-- the cards of a store, and the histories of those behind the first n
abbrev pub cards_of : List ℕ → List Card
cards_of w = cards (decode w)

abbrev pub histories_left : List ℕ → ℕ → List (List Slip)
histories_left w n = histories_of (drop n (cards_of w))

-- so many cards are counted: those of the stores before it, and n of the store
pub record Passing (w : List ℕ) (before : ℕ) (rows₀ rows : List Row) (next : Option At) (cards : ℕ) : Type 0 where
  pub n : ℕ
  pub counted : cards ≡ before + n
  pub few : n ≤ held (decode w)
  pub place : next ≡ place_of (decode w) n
  pub codes : codes_fit (join (histories_left w n)) ≡ true
  pub takes : Takes rows (total length (histories_left w n))
  pub same : note_all rows cards (histories_left w n) ≡ note_all rows₀ before (histories_in w)

pub passing_start : (w : List ℕ) → sound w ≡ true → (before : ℕ) (rows : List Row) (next : Option At) → next ≡ place_of (decode w) 0 → Takes rows (total length (histories_in w))
    → Passing w before rows rows next before
passing_start w ok before rows next p t =
    record { n = 0; counted = omega arith; few = omega arith; place = p; codes = sound_codes w ok; takes = t; same = refl }

pub passing_end : {w : List ℕ} {before : ℕ} {rows₀ rows : List Row} {next : Option At} {cards : ℕ} → Passing w before rows₀ rows next cards → next ≡ None
    → (cards ≡ before + held (decode w)) × (rows ≡ note_all rows₀ before (histories_in w))
unfolding note_all
passing_end {w} {before} {rows₀} {rows} {next} {cards} a z =
    let e : a.n ≡ held (decode w) = omega (arith, a.few, place_past (decode w) a.n (sym a.place ∙ z)) in
    let none : drop a.n (cards_of w) ≡ [] = ap (λ (k : ℕ). drop k (cards_of w)) e ∙ drop-length (cards_of w) in
    (omega (arith, a.counted, e), sym (ap (λ (cs : List Card). note_all rows cards (histories_of cs)) none) ∙ a.same)

module _ {w : List ℕ} (ok : sound w ≡ true) {h : Header} (r : Read w h) {before : ℕ} {rows₀ rows : List Row} {next : Option At} {cards : ℕ} (a : Passing w before rows₀ rows next cards) {at : At} (p : next ≡ Some at) where
  pub more : a.n < held (decode w)
  more = place_inside (decode w) a.n (sym a.place ∙ p)

  here : CardHere w h a.n at
  here = card_here w ok r a.n more at (sym a.place ∙ p)

  pub comes : Comes (decode w) at
  comes = record { n = a.n; inside = more; is = sym a.place ∙ p }

  pub card_from : (1 ≤ at.cell) × (at.cell ≤ h.cards)
  card_from = (here.from_one, here.in_limit)

  abbrev left : List Card
  left = drop (suc a.n) (cards_of w)

  left_codes : (codes_fit (map slip here.card.faults) ≡ true) × (codes_fit (join (histories_of left)) ≡ true)
  left_codes = codes_parts (map slip here.card.faults) (join (histories_of left)) (rw here.next at a.codes)

  left_takes : Takes rows (length (map slip here.card.faults) + total length (histories_of left))
  left_takes = rw here.next at a.takes

  module _ {first : ℕ} (f : first ≡ card_word (shape_in h) w at.cell to_first) where
    history_is : slips_from (shape_in h) w first ≡ map slip here.card.faults
    unfolding slips_from
    history_is = ap (λ (i : ℕ). map slip (faults_from (shape_in h) w i)) f ∙ ap (map slip) here.history

    -- what `note_history` asks
    pub history_ends : Ends h.faults (next_fault (shape_in h) w) first
    history_ends = rw f here.history_ends

    pub history_codes : codes_fit (slips_from (shape_in h) w first) ≡ true
    history_codes = rw history_is left_codes.0

    pub history_takes : Takes rows (length (slips_from (shape_in h) w first))
    history_takes = rw history_is (takes_less rows _ _ left_takes (omega arith))

    pub passing_next : {rows' : List Row} {next' : Option At} → rows' ≡ note_history rows (cards + 1) (slips_from (shape_in h) w first) → Follows (decode w) at next'
        → Passing w before rows₀ rows' next' (cards + 1)
    unfolding note_all
    passing_next {rows'} {next'} er ea =
        let k : cards + 1 ≡ suc cards = omega arith in
        let v : rows' ≡ note_history rows (suc cards) (map slip here.card.faults) = er ∙ (λ i. note_history rows (k i) (history_is i)) in
        record {
          n = suc a.n;
          counted = omega (arith, a.counted);
          few = omega (arith, more);
          place = ea.next_is a.n more (sym a.place ∙ p);
          codes = left_codes.1;
          takes = rw v (takes_history rows (suc cards) (total length (histories_of left)) (map slip here.card.faults) left_takes left_codes.0);
          same = rw (k, v) (sym (ap (λ (cs : List Card). note_all rows cards (histories_of cs)) here.next) ∙ a.same);
        }
