-- A run of stores gone along by its lengths. At each turn three facts speak of what is left: the test of soundness (`Testing`), the scratch that the
-- stores take (`Needing`), and the histories that are still to be noted (`Adding`); each is carried over the store at hand.
use mathlib.Core.Path.{◌≡◌, refl, sym, ap, subst, ◌∙◌}
use mathlib.Core.Bool.{Bool, true, false, ◌&&◌}
use mathlib.Core.List.{List, [], ◌∷◌, ◌++◌}
use Prim.Native.Nat.{ℕ, zero, suc, ◌+◌, ◌*◌, ◌≤◌, ◌<◌, min, max}
use native.Mathlib.Omega.{arith}
use borrow.Author.Tests.{eq-eqb, eqb-true, eqb-false, ne_eqb}
use lib.Dec.{eqb}
use lib.ListN.{length, take, drop, get_or, replicate, drop_of_length-le, length-append, length-drop}
use lib.Seq.{take_all, drop-cons}
use Rattle.rules.proofs.Tests.{by_cases, both, and_true}
use Rattle.std.proofs.lemmas.List.{take_min, drop_min}
use Rattle.std.proofs.Math.Bool.{and-false}
use Rattle.model.specs.Lists.{all, total}
use Rattle.model.specs.Shape.{faults_ever, need}
use Rattle.model.specs.Bounds.{cards_ever}
use Rattle.model.specs.Layout.{shape_of, sound}
use Rattle.model.specs.Calls.{cleaned}
use Rattle.model.specs.Report.{most_stores, pieces, run_sound, most_need, need_of, histories_in, all_histories}
use Rattle.model.proofs.Sums.{total_append}
use Rattle.model.proofs.ReportCalls.{pieces_count}
use Rattle.report.specs.declared.rows.Row.{Row}
use Rattle.report.specs.declared.totals.Totals.{Totals}
use Rattle.report.specs.Rows.{blank, note_all, Takes, Noted}
use Rattle.report.specs.Runs.{Clean, NotedAll}
use Rattle.report.proofs.RowLaws.{histories_append, takes_less, takes_all, takes_blank}
use Rattle.report.proofs.SoundRuns.{sound_codes, run_cards, run_faults}

-- a clean scratch

zeros_less : (m n : ℕ) (s : List ℕ) → m ≤ n → n ≤ length s → replicate n 0 ++ drop n s ≡ s → replicate m 0 ++ drop m s ≡ s
zeros_less zero n s h l e = refl
zeros_less (suc m) zero s h l e = absurd (omega arith)
zeros_less (suc m) (suc n) [] h l e = absurd (omega arith)
zeros_less (suc m) (suc n) (x ∷ s) h l e =
    λ i. ap (λ (l : List ℕ). get_or l 0 0) e i ∷ zeros_less m n s (omega arith) (omega arith) (ap (drop 1) e) i

pub clean_less : {m n : ℕ} {scratch : List ℕ} → m ≤ n → Clean n scratch → Clean m scratch
unfolding cleaned
clean_less {m} {n} {scratch} h c = record { long = omega (arith, c.long); zero = zeros_less m n scratch h c.long c.zero }

-- the stores that are left, with the words behind the first i of them
abbrev pub stores_left : List ℕ → List ℕ → ℕ → List (List ℕ)
stores_left rest ns i = pieces rest (drop i ns)

module _ (rest ns : List ℕ) (i : ℕ) (h : i < length ns) where
  lengths_on : drop i ns ≡ get_or ns i 0 ∷ drop (suc i) ns
  lengths_on = drop-cons ns i 0 h

  stores_on : stores_left rest ns i ≡ take (get_or ns i 0) rest ∷ stores_left (drop (get_or ns i 0) rest) ns (suc i)
  unfolding pieces
  stores_on = ap (pieces rest) lengths_on

-- the test

eqb_turned : (n m : ℕ) → eqb n m ≡ eqb m n
eqb_turned n m = by_cases (eqb m n) (λ t. rw t (eq-eqb n m (omega (arith, eqb-true m n t)))) (λ t. rw t (ne_eqb n m (λ e. eqb-false m n t (omega (arith, e)))))

less_both : (n m : ℕ) (rest : List ℕ) → n ≤ length rest → eqb (n + m) (length rest) ≡ eqb m (length (drop n rest))
less_both n m rest h = by_cases (eqb m (length (drop n rest))) (λ t. rw t (eq-eqb _ _ (omega (arith, eqb-true m (length (drop n rest)) t, length-drop n rest)))) (λ t. rw t (ne_eqb _ _ (λ e. eqb-false m (length (drop n rest)) t (omega (arith, e, length-drop n rest)))))

pub record Testing (run ns scratch₀ scratch rest : List ℕ) (i : ℕ) : Type 0 where
  pub clean : Clean (most_need (stores_left rest ns i)) scratch
  pub kept : scratch ≡ scratch₀
  pub same : run_sound run ns ≡ (eqb (total (λ n. n) (drop i ns)) (length rest) && all sound (stores_left rest ns i))

pub testing_start : (run ns scratch : List ℕ) → length ns ≤ most_stores → Clean (need_of run ns) scratch → Testing run ns scratch scratch run 0
unfolding need_of run_sound
testing_start run ns scratch l c =
    record { clean = subst (λ (k : List ℕ). Clean (most_need (pieces run k)) scratch) (take_all most_stores ns l) c; kept = refl; same = refl }

module _ {run ns scratch₀ scratch rest : List ℕ} {i : ℕ} (a : Testing run ns scratch₀ scratch rest i) where
  pub testing_end : length ns ≤ i → eqb (length rest) 0 ≡ run_sound run ns
  unfolding pieces
  testing_end h =
      let z : drop i ns ≡ [] = drop_of_length-le ns h in
      let c : eqb 0 (length rest) ≡ eqb (length rest) 0 = eqb_turned 0 (length rest) in
      sym (a.same ∙ ap (λ (l : List ℕ). eqb (total (λ n. n) l) (length rest) && all sound (pieces rest l)) z ∙ and_true (eqb 0 (length rest)) ∙ c)

  module _ (h : i < length ns) where
    abbrev n : ℕ
    n = get_or ns i 0

    -- the store at hand and those behind it
    same_on : run_sound run ns ≡ (eqb (n + total (λ n. n) (drop (suc i) ns)) (length rest) && (sound (take n rest) && all sound (stores_left (drop n rest) ns (suc i))))
    same_on = a.same ∙ (λ j. eqb (total (λ n. n) (lengths_on rest ns i h j)) (length rest) && all sound (stores_on rest ns i h j))

    needs_on : most_need (stores_left rest ns i) ≡ max (need (shape_of (take n rest))) (most_need (stores_left (drop n rest) ns (suc i)))
    unfolding most_need
    needs_on = ap most_need (stores_on rest ns i h)

    pub testing_clean : Clean (need (shape_of (take n rest))) scratch
    testing_clean = clean_less (omega (arith, needs_on)) a.clean

    -- it is longer than what is left, or not sound
    pub testing_short : length rest < n → false ≡ run_sound run ns
    testing_short l =
        sym (same_on ∙ ap (λ (b : Bool). b && (sound (take n rest) && all sound (stores_left (drop n rest) ns (suc i)))) (ne_eqb (n + total (λ n. n) (drop (suc i) ns)) (length rest) (λ q. omega (arith, l))))

    pub testing_stop : sound (take n rest) ≡ false → false ≡ run_sound run ns
    testing_stop e =
        let all_in = eqb (n + total (λ n. n) (drop (suc i) ns)) (length rest) in
        sym (same_on ∙ ap (λ (b : Bool). all_in && (b && all sound (stores_left (drop n rest) ns (suc i)))) e ∙ and-false all_in)

    pub testing_next : {scratch' : List ℕ} → n ≤ length rest → sound (take n rest) ≡ true → scratch' ≡ scratch → Testing run ns scratch₀ scratch' (drop n rest) (i + 1)
    testing_next {scratch'} l e k =
        let p : i + 1 ≡ suc i = omega arith in
        let q : eqb (n + total (λ n. n) (drop (suc i) ns)) (length rest) ≡ eqb (total (λ n. n) (drop (suc i) ns)) (length (drop n rest)) = less_both n (total (λ n. n) (drop (suc i) ns)) rest l in
        record {
          clean = rw (k, p) (clean_less (omega (arith, needs_on)) a.clean);
          kept = k ∙ a.kept;
          same = rw p (same_on ∙ (λ j. q j && (e j && all sound (stores_left (drop n rest) ns (suc i)))));
        }

-- the scratch

needs_floor : (ws : List (List ℕ)) → need (shape_of []) ≤ most_need ws
unfolding most_need
needs_floor [] = omega arith
needs_floor (w ∷ ws) = omega (arith, needs_floor ws)

pub record Needing (run ns given : List ℕ) (most : ℕ) (rest : List ℕ) (i : ℕ) : Type 0 where
  pub floor : need (shape_of []) ≤ most
  pub same : max most (most_need (stores_left rest given i)) ≡ need_of run ns

-- the lesser of the two, written either way
turned : (n m : ℕ) → min m n ≡ min n m
turned n m = omega arith

take_few : (n : ℕ) (l : List ℕ) → take (min (length l) n) l ≡ take n l
take_few n l = ap (λ (k : ℕ). take k l) (turned n (length l)) ∙ take_min n l

drop_few : (n : ℕ) (l : List ℕ) → drop (min (length l) n) l ≡ drop n l
drop_few n l = ap (λ (k : ℕ). drop k l) (turned n (length l)) ∙ drop_min n l

pub needing_start : (run ns : List ℕ) {most : ℕ} → most ≡ need (shape_of []) → Needing run ns (take (min (length ns) most_stores) ns) most run 0
unfolding need_of
needing_start run ns {most} e =
    record {
      floor = omega (arith, e);
      same = rw (take_few most_stores ns) (omega (arith, e, needs_floor (pieces run (take most_stores ns))));
    }

module _ {run ns given : List ℕ} {most : ℕ} {rest : List ℕ} {i : ℕ} (a : Needing run ns given most rest i) where
  pub needing_end : length given ≤ i → most ≡ need_of run ns
  unfolding most_need pieces
  needing_end h =
      let z : drop i given ≡ [] = drop_of_length-le given h in
      omega (arith, a.floor, ap (λ (l : List ℕ). most_need (pieces rest l)) z, a.same)

  -- a store that the run's end cuts off is what is left
  pub needing_next : i < length given → {k : ℕ} → k ≡ min (length rest) (get_or given i 0) → {store behind : List ℕ} → store ≡ take k rest → behind ≡ drop k rest
      → {more least : ℕ} → least ≡ need (shape_of store) → more ≡ max most least → Needing run ns given more behind (i + 1)
  unfolding most_need
  needing_next h {k} ek {store} {behind} et eb {more} {least} el e =
      let n = get_or given i 0 in
      let t : store ≡ take n rest = et ∙ ap (λ (m : ℕ). take m rest) ek ∙ take_few n rest in
      let d : behind ≡ drop n rest = eb ∙ ap (λ (m : ℕ). drop m rest) ek ∙ drop_few n rest in
      let p : i + 1 ≡ suc i = omega arith in
      let s : most_need (stores_left rest given i) ≡ max (need (shape_of (take n rest))) (most_need (stores_left (drop n rest) given (suc i))) = ap most_need (stores_on rest given i h) in
      let w : least ≡ need (shape_of (take n rest)) = el ∙ ap (λ (l : List ℕ). need (shape_of l)) t in
      record { floor = omega (arith, e, a.floor); same = rw (p, d) (omega (arith, e, s, w, a.same)) }

-- the histories

pub record Adding (run ns : List ℕ) (rows : List Row) (cards entries : ℕ) (rest : List ℕ) (i : ℕ) : Type 0 where
  pub sum : total (λ n. n) (drop i ns) ≡ length rest
  pub sounds : all sound (stores_left rest ns i) ≡ true
  pub takes : Takes rows (total length (all_histories (stores_left rest ns i)))
  pub same : note_all rows cards (all_histories (stores_left rest ns i)) ≡ note_all blank 0 (all_histories (pieces run ns))
  pub cards_are : cards + length (all_histories (stores_left rest ns i)) ≡ length (all_histories (pieces run ns))
  pub entries_are : entries + total length (all_histories (stores_left rest ns i)) ≡ total length (all_histories (pieces run ns))

-- a sound run has sound stores alone
pub stores_sound : (run ns : List ℕ) → run_sound run ns ≡ true → all sound (pieces run ns) ≡ true
unfolding run_sound
stores_sound run ns e = (both (eqb (total (λ n. n) ns) (length run)) (all sound (pieces run ns)) e).1

-- what it has at most
pub record Bounded (run ns : List ℕ) : Type 0 where
  pub cards : length (all_histories (pieces run ns)) ≤ cards_ever * most_stores
  pub entries : total length (all_histories (pieces run ns)) ≤ faults_ever * most_stores

pub bounded : (run ns : List ℕ) → run_sound run ns ≡ true → length ns ≤ most_stores → Bounded run ns
bounded run ns e l =
    let s = stores_sound run ns e in
    record { cards = omega (arith, run_cards (pieces run ns) s, pieces_count run ns); entries = omega (arith, run_faults (pieces run ns) s, pieces_count run ns) }

pub adding_start : (run ns : List ℕ) (rows : List Row) → run_sound run ns ≡ true → length ns ≤ most_stores → rows ≡ blank → Adding run ns rows 0 0 run 0
unfolding run_sound
adding_start run ns rows e l z =
    let b = both (eqb (total (λ n. n) ns) (length run)) (all sound (pieces run ns)) e in
    record {
      sum = eqb-true (total (λ n. n) ns) (length run) b.0;
      sounds = b.1;
      takes = rw z (takes_blank _ (omega (arith, (bounded run ns e l).entries)));
      same = rw z;
      cards_are = omega arith;
      entries_are = omega arith;
    }

module _ {run ns : List ℕ} {rows : List Row} {cards entries : ℕ} {rest : List ℕ} {i : ℕ} (a : Adding run ns rows cards entries rest i) where
  pub adding_end : length ns ≤ i → {t : Totals} → t.cards ≡ cards → t.entries ≡ entries → NotedAll run ns t rows
  unfolding all_histories note_all pieces
  adding_end h {t} c n =
      let z : drop i ns ≡ [] = drop_of_length-le ns h in
      record {
        rows_are = sym (ap (λ (l : List ℕ). note_all rows cards (all_histories (pieces rest l))) z) ∙ a.same;
        cards_are = omega (arith, c, ap (λ (l : List ℕ). length (all_histories (pieces rest l))) z, a.cards_are);
        entries_are = omega (arith, n, ap (λ (l : List ℕ). total length (all_histories (pieces rest l))) z, a.entries_are);
      }

  module _ (h : i < length ns) where
    abbrev here : ℕ
    here = get_or ns i 0

    abbrev store : List ℕ
    store = take here rest

    abbrev behind : List (List ℕ)
    behind = stores_left (drop here rest) ns (suc i)

    left_on_lem : all_histories (stores_left rest ns i) ≡ histories_in store ++ all_histories behind
    unfolding all_histories
    left_on_lem = ap all_histories (stores_on rest ns i h)

    sounds_on : (sound store ≡ true) × (all sound behind ≡ true)
    sounds_on = both (sound store) (all sound behind) (sym (ap (all sound) (stores_on rest ns i h)) ∙ a.sounds)

    takes_on : Takes rows (total length (histories_in store) + total length (all_histories behind))
    takes_on = subst (Takes rows) (ap (total length) left_on_lem ∙ total_append length (histories_in store) (all_histories behind)) a.takes

    pub adding_sound : sound store ≡ true
    adding_sound = sounds_on.0

    pub adding_takes : Takes rows (total length (histories_in store))
    adding_takes = takes_less rows _ _ takes_on (omega arith)

    -- with the entries of the store at hand the totals stay few
    pub adding_fits : total length (all_histories (pieces run ns)) ≤ faults_ever * most_stores → entries + total length (histories_in store) ≤ most_stores * faults_ever
    adding_fits few = omega (arith, few, a.entries_are, ap (total length) left_on_lem, total_append length (histories_in store) (all_histories behind))

    pub adding_next : {rows' : List Row} {t t' : Totals} → t.cards ≡ cards → t.entries ≡ entries → Noted store t rows t' rows' → Adding run ns rows' t'.cards t'.entries (drop here rest) (i + 1)
    adding_next {rows'} {t} {t'} c m n =
        let p : i + 1 ≡ suc i = omega arith in
        let r : rows' ≡ note_all rows cards (histories_in store) = n.rows_are ∙ ap (λ (k : ℕ). note_all rows k (histories_in store)) c in
        let k : t'.cards ≡ cards + length (histories_in store) = omega (arith, n.cards_are, c) in
        record {
          sum = rw p (omega (arith, ap (total (λ n. n)) (lengths_on rest ns i h), length-drop here rest, a.sum));
          sounds = rw p sounds_on.1;
          takes = rw (p, r) (takes_all rows cards _ (histories_in store) takes_on (sound_codes store sounds_on.0));
          same =
              rw (p, r, k)
              (sym (histories_append rows cards (histories_in store) (all_histories behind)) ∙ sym (ap (note_all rows cards) left_on_lem) ∙ a.same);
          cards_are = rw p (omega (arith, k, ap length left_on_lem, length-append (histories_in store) (all_histories behind), a.cards_are));
          entries_are = rw p (omega (arith, n.entries_are, m, ap (total length) left_on_lem, total_append length (histories_in store) (all_histories behind), a.entries_are));
        }
