-- A fair store and a good one, as facts with names; `fair` decides the one (`fair_is`, `is_fair`) and `load_ok` what a good store has more (`load_is`, `is_load`). What is
-- counted of a store is a sum over its cards: `card_cells`, `card_count`, `fault_cells`, `fault_count`.
use Prim.Native.Nat.{ℕ, ◌+◌, ◌*◌, ◌≤◌, ◌<◌}
use mathlib.Core.Path.{◌≡◌, refl, sym, ap, ◌∙◌}
use mathlib.Core.Logic.{⊎_elim}
use mathlib.Core.List.{List, [], ◌∷◌, map}
use mathlib.Core.Bool.{true, ◌||◌}
use native.Mathlib.Omega.{arith}
use lib.Dec.{leb, ltb, eqb}
use lib.ListN.{length, length-append, length-map, get_or-eq_default}
use borrow.Author.Tests.{eq-eqb, eqb-true, eqb-false, ltb-true, ltb-false, leb-true, le-leb}
use Rattle.rules.specs.Table.{least, top, state_ok, load_fits}
use Rattle.rules.proofs.Tests.{by_cases, both, all_of, either}
use Rattle.rules.proofs.States.{state_of, state_wider, size_low}
use Rattle.model.specs.Lists.{all, same, keep, join, total}
use Rattle.model.specs.Shape.{top_of, card_width}
use Rattle.model.specs.Model.{Fault, Card, Store, cards, histories, held, faults_held, size, bucket, is, fault_cells_of}
use Rattle.model.specs.Layout.{Cell, ats_of, fault_width, card_cell, fault_cell, free_cell, card_chains, fault_chains, each_once, first_upper, shape_ok, good_card, good_buckets, cells_ok, serials_ok, load_ok, fair}
use Rattle.model.proofs.Lists.{same_is, all_from, from_all}
use Rattle.model.proofs.Sums.{bit, count, kept_count, total_append, total_map, total_flat, total_maps, length_total, distinct_total, total_distinct}
use Rattle.model.proofs.Shapes.{top_most, shaped, cards_top}
use Rattle.model.proofs.Each.{many, Each, each_is, is_each, each_moved}

-- what is counted of a card: itself, its faults, whether it stands in a cell, its faults in a cell, whether it has a serial
abbrev pub one : Card → ℕ
one c = 1

abbrev pub filings : Card → ℕ
filings c = length c.faults

abbrev pub in_cell : ℕ → Card → ℕ
in_cell x c = bit (eqb x c.at)

abbrev pub fault_in : ℕ → Card → ℕ
fault_in x c = count x (fault_cells_of c.faults)

abbrev pub named : List ℕ → Card → ℕ
named y c = bit (is y c)

-- all that holds in the middle of a call too: everything but the load bounds
pub record Fair (s : Store) : Type 0 where
  pub shape : shape_ok s.shape ≡ true
  pub state : state_ok (top_of s.shape) s.maxp s.p ≡ true
  pub number : length s.buckets ≡ size s
  pub cells : Each s.shape.limit (join (card_chains s))
  pub fault_cells : Each s.shape.fault_limit (join (fault_chains s))
  pub addressed : (b : ℕ) → all (good_card s.maxp s.p b) (bucket s b) ≡ true
  pub different : (y : List ℕ) → total (named y) (cards s) ≤ 1

pub record Good (s : Store) : Type 0 where
  pub fair : Fair s
  pub high : size s < top_of s.shape → held s ≤ s.shape.upper * size s
  pub low : least < size s → s.shape.lower * size s ≤ held s

-- the cells of a part as sums over the cards

pub card_cells : (s : Store) (x : ℕ) → many x (join (card_chains s)) ≡ count x s.free + total (in_cell x) (cards s)
unfolding free_cell card_cell
card_cells s x =
    total_append (λ c. bit (eqb x c.at)) (map (free_cell (card_width s.shape)) s.free) (join (map (map card_cell) s.buckets))
    ∙ omega (arith, total_map (λ (c : Cell). bit (eqb x c.at)) (free_cell (card_width s.shape)) s.free, total_maps (λ (c : Cell). bit (eqb x c.at)) card_cell s.buckets)

pub card_count : (s : Store) → length (join (card_chains s)) ≡ length s.free + held s
card_count s =
    length_total (join (card_chains s))
    ∙ total_append (λ c. 1) (map (free_cell (card_width s.shape)) s.free) (join (map (map card_cell) s.buckets))
    ∙ omega (arith, total_map (λ (c : Cell). 1) (free_cell (card_width s.shape)) s.free, total_maps (λ (c : Cell). 1) card_cell s.buckets, length_total s.free, length_total (cards s))

pub fault_cells : (s : Store) (x : ℕ) → many x (join (fault_chains s)) ≡ count x s.free_faults + total (fault_in x) (cards s)
unfolding free_cell fault_cell
fault_cells s x =
    total_append (λ c. bit (eqb x c.at)) (map (free_cell fault_width) s.free_faults) (join (map (λ c. map fault_cell c.faults) (cards s)))
    ∙ omega (arith, total_map (λ (c : Cell). bit (eqb x c.at)) (free_cell fault_width) s.free_faults, total_flat (λ (c : Cell). bit (eqb x c.at)) (λ (c : Card). map fault_cell c.faults) (cards s), go (cards s))
  where
    go : (cs : List Card) → total (λ (c : Card). total (λ (c : Cell). bit (eqb x c.at)) (map fault_cell c.faults)) cs ≡ total (fault_in x) cs
    go [] = refl
    go (c ∷ cs) =
        omega (arith, go cs, total_map (λ (c : Cell). bit (eqb x c.at)) fault_cell c.faults, total_map (λ (y : ℕ). bit (eqb x y)) (λ (f : Fault). f.at) c.faults)

pub faults_total : (cs : List Card) → length (histories cs) ≡ total filings cs
faults_total [] = refl
faults_total (c ∷ cs) = rw (length-append c.faults (histories cs), faults_total cs)

pub fault_count : (s : Store) → length (join (fault_chains s)) ≡ length s.free_faults + faults_held s
fault_count s =
    length_total (join (fault_chains s))
    ∙ total_append (λ c. 1) (map (free_cell fault_width) s.free_faults) (join (map (λ c. map fault_cell c.faults) (cards s)))
    ∙ omega (arith, total_map (λ (c : Cell). 1) (free_cell fault_width) s.free_faults, total_flat (λ (c : Cell). 1) (λ (c : Card). map fault_cell c.faults) (cards s), go (cards s), length_total s.free_faults, faults_total (cards s))
  where
    go : (cs : List Card) → total (λ (c : Card). total (λ (c : Cell). 1) (map fault_cell c.faults)) cs ≡ total filings cs
    go [] = refl
    go (c ∷ cs) = omega (arith, go cs, total_map (λ (c : Cell). 1) fault_cell c.faults, length_total c.faults)

-- a step that moves cells and makes or loses none, seen as sums over the cells' numbers

pub cells_moved : (s t : Store) {n : ℕ}
    → ((w : ℕ → ℕ) → total w t.free + total (λ c. w c.at) (cards t) ≡ total w s.free + total (λ c. w c.at) (cards s))
    → Each n (join (card_chains s)) → Each n (join (card_chains t))
cells_moved s t h =
    each_moved (λ x. card_cells t x ∙ h (λ y. bit (eqb x y)) ∙ sym (card_cells s x))
    (omega (arith, h (λ y. 1), card_count s, card_count t, length_total s.free, length_total t.free, length_total (cards s), length_total (cards t)))

abbrev pub fault_weight : (ℕ → ℕ) → Card → ℕ
fault_weight w c = total w (fault_cells_of c.faults)

pub fault_cells_moved : (s t : Store) {n : ℕ}
    → ((w : ℕ → ℕ) → total w t.free_faults + total (fault_weight w) (cards t) ≡ total w s.free_faults + total (fault_weight w) (cards s))
    → Each n (join (fault_chains s)) → Each n (join (fault_chains t))
fault_cells_moved s t h =
    each_moved (λ x. fault_cells t x ∙ h (λ y. bit (eqb x y)) ∙ sym (fault_cells s x))
    (omega (arith, h (λ y. 1), fault_count s, fault_count t, length_total s.free_faults, length_total t.free_faults, ones (cards s), ones (cards t)))
  where
    ones : (cs : List Card) → length (histories cs) ≡ total (fault_weight (λ y. 1)) cs
    ones [] = refl
    ones (c ∷ cs) = omega (arith, ones cs, length-append c.faults (histories cs), length_total (fault_cells_of c.faults), length-map c.faults (λ (f : Fault). f.at))

-- how many cards have a serial
pub times_total : (y : List ℕ) (cs : List Card) → length (keep (is y) cs) ≡ total (named y) cs
times_total y cs = kept_count (is y) cs

serials_named : (y : List ℕ) (cs : List Card) → total (λ z. bit (same y z)) (map (λ (c : Card). c.serial) cs) ≡ total (named y) cs
serials_named y cs = total_map (λ (z : List ℕ). bit (same y z)) (λ (c : Card). c.serial) cs

-- the tests and the facts, both ways

pub fair_is : (s : Store) → fair s ≡ true → Fair s
unfolding fair cells_ok good_buckets serials_ok
fair_is s t =
    let a = both (shape_ok s.shape) _ t in
    let b = both (state_ok (top_of s.shape) s.maxp s.p) _ a.1 in
    let c = both (eqb (length s.buckets) (size s)) _ b.1 in
    let d = both (cells_ok s) _ c.1 in
    let e = both (each_once s.shape.limit (ats_of (join (card_chains s)))) _ d.0 in
    let f = both (good_buckets s) (serials_ok s) d.1 in
    let n = eqb-true (length s.buckets) (size s) c.0 in
    record {
      shape = a.0;
      state = b.0;
      number = n;
      cells = each_is s.shape.limit (join (card_chains s)) e.0;
      fault_cells = each_is s.shape.fault_limit (join (fault_chains s)) e.1;
      addressed = home n f.0;
      different = λ y. omega (arith, serials_named y (cards s), distinct_total same same_is (map (λ (c : Card). c.serial) (cards s)) f.1 y);
    }
  where
    -- past the last bucket there is no card
    home : length s.buckets ≡ size s → good_buckets s ≡ true → (b : ℕ) → all (good_card s.maxp s.p b) (bucket s b) ≡ true
    home n t b =
        by_cases (ltb b (size s))
        (λ k. all_from (λ b. all (good_card s.maxp s.p b) (bucket s b)) 0 (size s) t b (omega arith) (omega (arith, ltb-true b (size s) k)))
        (λ k. rw (get_or-eq_default s.buckets [] {n = b} (omega (arith, ltb-false b (size s) k))))

pub is_fair : (s : Store) → Fair s → fair s ≡ true
unfolding fair cells_ok good_buckets serials_ok
is_fair s r =
    all_of r.shape
    (all_of r.state
    (all_of (eq-eqb (length s.buckets) (size s) r.number)
    (all_of (all_of (is_each s.shape.limit (join (card_chains s)) r.cells) (is_each s.shape.fault_limit (join (fault_chains s)) r.fault_cells))
    (all_of (from_all (λ b. all (good_card s.maxp s.p b) (bucket s b)) 0 (size s) (λ b h k. r.addressed b))
    (total_distinct same same_is (map (λ (c : Card). c.serial) (cards s)) (λ y. omega (arith, serials_named y (cards s), r.different y)))))))

-- the state is one that the address rule knows
pub host_state : (s : Store) → Fair s → state_ok top s.maxp s.p ≡ true
host_state s r = state_wider (top_of s.shape) top s.maxp s.p (top_most s.shape) r.state

-- the least number of buckets
pub size_least : (s : Store) → Fair s → least ≤ size s
size_least s r = omega (arith, size_low (state_of (top_of s.shape) s.maxp s.p r.state).size)

pub load_is : (s : Store) → Fair s → load_ok s ≡ true → (size s < top_of s.shape → held s ≤ s.shape.upper * size s) × (least < size s → s.shape.lower * size s ≤ held s)
unfolding load_ok load_fits
load_is s r t =
    let t₀ = eqb (size s) (top_of s.shape) in
    let u = leb (held s) (s.shape.upper * size s) in
    let l₀ = eqb (size s) least in
    let l = leb (s.shape.lower * size s) (held s) in
    let h = both (t₀ || u) (l₀ || l) t in (
      λ m. ⊎_elim (λ e. absurd (omega (arith, eqb-true (size s) (top_of s.shape) e))) (λ e. leb-true (held s) (s.shape.upper * size s) e) (either t₀ u h.0),
      λ m. ⊎_elim (λ e. absurd (omega (arith, eqb-true (size s) least e))) (λ e. leb-true (s.shape.lower * size s) (held s) e) (either l₀ l h.1),
    )

pub is_load : (s : Store) → Good s → load_ok s ≡ true
unfolding load_ok load_fits
is_load s g =
    all_of {a = eqb (size s) (top_of s.shape) || leb (held s) (s.shape.upper * size s)} {b = eqb (size s) least || leb (s.shape.lower * size s) (held s)}
    (by_cases (eqb (size s) (top_of s.shape))
    (λ e. rw e)
    (λ e. rw e (le-leb (held s) (s.shape.upper * size s) (g.high (omega (arith, (state_of (top_of s.shape) s.maxp s.p g.fair.state).room, eqb-false (size s) (top_of s.shape) e))))))
    (by_cases (eqb (size s) least)
    (λ e. rw e)
    (λ e. rw e (le-leb (s.shape.lower * size s) (held s) (g.low (omega (arith, size_least s g.fair, eqb-false (size s) least e))))))

-- with the upper bound of format 1 a store has at most four cards a bucket, the table with most buckets too: the card limit is four times those
pub high_four : (s : Store) → Good s → s.shape.upper ≡ first_upper → held s ≤ first_upper * size s
high_four s g four =
    let k = shaped s.shape g.fair.shape in
    by_cases (ltb (size s) (top_of s.shape))
    (λ e. let h : held s ≤ s.shape.upper * size s = g.high (ltb-true (size s) (top_of s.shape) e) in
    let u : s.shape.upper * size s ≡ first_upper * size s = ap (λ (n : ℕ). n * size s) four in omega arith)
    (λ e. omega (arith, ltb-false (size s) (top_of s.shape) e, card_count s, g.fair.cells.count, k.most, cards_top s.shape))
