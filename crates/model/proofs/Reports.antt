-- What a report says, in the words of document 02. Its totals are the cards and the faults of all stores added up (`report_cards`, `report_entries`). The faults of sound
-- stores are valid (`sound_faults`), so every fault has a code that the report looks at, and the lines add up to the total (`lines_add_up`). A line has the count of
-- its code's faults, the count of the cards that have one, and the first and the last of their days (`line_says`). The codes rise, and each that occurs
-- has one line (`codes_rise`, `each_code_once`, `codes_occur`). The rate is a division with its remainder (`rate_is`), and missing with no cards (`no_rate`).
use Prim.Native.Nat.{ℕ, ◌+◌, ◌*◌, ◌/◌, ◌%◌, ◌≤◌, ◌<◌}
use mathlib.Core.Path.{◌≡◌, refl, sym, ap, ◌∙◌}
use mathlib.Core.List.{List, [], ◌∷◌, map}
use mathlib.Core.Bool.{true}
use native.Mathlib.Nat.{mod-lt, div-add-mod'}
use native.Mathlib.Omega.{arith}
use lib.Dec.{ltb, eqb}
use lib.ListN.{length, length-append, length-map}
use borrow.Author.Tests.{lt-ltb, ltb-true, ne_eqb, eqb-true}
use Rattle.rules.proofs.Tests.{both}
use Rattle.model.specs.Lists.{join, from, total}
use Rattle.model.specs.Serial.{most_code, serial_ok, valid_fault}
use Rattle.model.specs.Model.{Card, cards, held, faults_held, bucket}
use Rattle.model.specs.Layout.{decode, good_card, sound}
use Rattle.model.specs.Plain.{Slip, slip, Entry, entry, plain}
use Rattle.model.specs.Meaning.{times, In}
use Rattle.model.specs.Report.{histories_in, all_histories, of_code, entries_of, cards_with, days_of, earliest, latest, codes_in, numbers_line, rate_line}
use Rattle.model.proofs.Lists.{keep_keep, join_append, Every, every_append, join_every, every_imp, map_every}
use Rattle.model.proofs.Sums.{bit, kept_count, total_append, total_map}
use Rattle.model.proofs.Walks.{times_count, all_every}
use Rattle.model.proofs.Fair.{faults_total}
use Rattle.model.proofs.Sound.{sound_good}
use Rattle.model.proofs.Valid.{FaultMeans, fault_means}
use Rattle.model.proofs.Demand2.{entries_slips}
use Rattle.model.proofs.ReportLaws.{total_same, total_zero, total_add, join_long, join_kept, keep_weighs, weighty_few, weighty_some, Rises, keep_rises, from_rises, from_once, kept_from, lowest_bounds, highest_bounds, lowest_in, highest_in}

-- the totals

pub report_cards : (ws : List (List ℕ)) → length (all_histories ws) ≡ total (λ w. held (decode w)) ws
unfolding all_histories
report_cards [] = refl
report_cards (w ∷ ws) =
    omega (arith, length-append (histories_in w) (all_histories ws), length-map (plain (decode w)) (λ (e : Entry). e.slips), length-map (cards (decode w)) entry, report_cards ws)

pub report_entries : (ws : List (List ℕ)) → total length (all_histories ws) ≡ total (λ w. faults_held (decode w)) ws
unfolding all_histories
report_entries [] = refl
report_entries (w ∷ ws) =
    omega (
      arith,
      total_append length (histories_in w) (all_histories ws),
      total_map length (λ (e : Entry). e.slips) (plain (decode w)),
      entries_slips (cards (decode w)),
      faults_total (cards (decode w)),
      report_entries ws,
    )

-- the faults of sound stores: each has a day, 1 to 65,535, and a code, 1 to 9,999

abbrev pub ValidSlip : Slip → Type 0
ValidSlip f = FaultMeans f.day f.code

abbrev pub ValidFaults : List (List Slip) → Type 0
ValidFaults hs = Every ValidSlip (join hs)

abbrev ValidCard : Card → Type 0
ValidCard c = Every (λ f. FaultMeans f.day f.code) c.faults

card_valid : (maxp p b : ℕ) (c : Card) → good_card maxp p b c ≡ true → ValidCard c
unfolding good_card
card_valid maxp p b c e =
    every_imp (λ f. valid_fault f.day f.code ≡ true) (λ f. FaultMeans f.day f.code) c.faults (λ f. (fault_means f.day f.code).0)
    (all_every (λ f. valid_fault f.day f.code) c.faults (both (eqb _ b) _ (both (serial_ok c.serial) _ e).1).1)

cards_valid : (cs : List Card) → Every ValidCard cs → ValidFaults (map (λ e. e.slips) (map entry cs))
cards_valid [] r = tt
cards_valid (c ∷ cs) r =
    every_append ValidSlip (map slip c.faults) (join (map (λ (e : Entry). e.slips) (map entry cs))) (map_every ValidSlip slip c.faults r.0) (cards_valid cs r.1)

pub sound_faults : (w : List ℕ) → sound w ≡ true → ValidFaults (histories_in w)
sound_faults w ok =
    let s = decode w in
    let r = (sound_good w ok).0.fair in
    cards_valid (cards s)
    (join_every ValidCard s.buckets (λ b.
    every_imp (λ c. good_card s.maxp s.p b c ≡ true) ValidCard (bucket s b) (card_valid s.maxp s.p b) (all_every (good_card s.maxp s.p b) (bucket s b) (r.addressed b))))

pub stores_faults : (ws : List (List ℕ)) → Every (λ w. sound w ≡ true) ws → ValidFaults (all_histories ws)
unfolding all_histories
stores_faults [] r = tt
stores_faults (w ∷ ws) r =
    rw (join_append (histories_in w) (all_histories ws))
    (every_append ValidSlip (join (histories_in w)) (join (all_histories ws)) (sound_faults w r.0) (stores_faults ws r.1))

-- the lines together

-- faults with codes from 1 to n, counted code by code
tally : (n : ℕ) (fs : List Slip) → Every (λ f. (1 ≤ f.code) × (f.code ≤ n)) fs → total (λ k. total (λ f. bit (eqb f.code k)) fs) (from 1 n) ≡ length fs
tally n [] r = total_zero (from 1 n)
tally n (f ∷ fs) r =
    omega (
      arith,
      total_add (λ k. bit (eqb f.code k)) (λ k. total (λ (g : Slip). bit (eqb g.code k)) fs) (from 1 n),
      from_once f.code 1 n r.0.0 (omega arith),
      tally n fs r.1,
    )

pub lines_add_up : (hs : List (List Slip)) → ValidFaults hs → total (λ k. entries_of k hs) (codes_in hs) ≡ total length hs
unfolding codes_in entries_of
lines_add_up hs ok =
    keep_weighs (λ k. entries_of k hs) (from 1 most_code)
    ∙ total_same (λ k. entries_of k hs) (λ k. total (λ f. bit (eqb f.code k)) (join hs)) (from 1 most_code) (λ k. kept_count (λ f. eqb f.code k) (join hs))
    ∙ tally most_code (join hs) (every_imp ValidSlip (λ f. (1 ≤ f.code) × (f.code ≤ most_code)) (join hs) (λ f v. (v.least_code, v.most_code)) ok)
    ∙ join_long hs

-- a line

-- of a code that occurs: its faults are counted over all cards, its cards are those that have such a fault, and no day of such a fault is before the earliest
-- or after the latest, which are two of those days
pub record LineSays (k : ℕ) (hs : List (List Slip)) : Type 0 where
  pub entries : entries_of k hs ≡ total (λ h. length (of_code k h)) hs
  pub cards : cards_with k hs ≡ total (λ h. bit (ltb 0 (length (of_code k h)))) hs
  pub some : 0 < cards_with k hs
  pub few : cards_with k hs ≤ entries_of k hs
  pub not_before : (d : ℕ) → In d (days_of k hs) → earliest k hs ≤ d
  pub not_after : (d : ℕ) → In d (days_of k hs) → d ≤ latest k hs
  pub first_day : In (earliest k hs) (days_of k hs)
  pub last_day : In (latest k hs) (days_of k hs)

pub line_says : (k : ℕ) (hs : List (List Slip)) → 0 < entries_of k hs → LineSays k hs
unfolding entries_of cards_with earliest latest
line_says k hs h =
    let e = join_kept (λ (f : Slip). eqb f.code k) hs in
    let c = kept_count (λ (h : List Slip). ltb 0 (length (of_code k h))) hs in
    let days : 0 < length (days_of k hs) = omega (arith, length-map (of_code k (join hs)) (λ (f : Slip). f.day)) in
    record {
      entries = e;
      cards = c;
      some = omega (arith, weighty_some (λ (h : List Slip). length (of_code k h)) hs (omega arith));
      few = omega (arith, weighty_few (λ (h : List Slip). length (of_code k h)) hs);
      not_before = lowest_bounds (days_of k hs);
      not_after = highest_bounds (days_of k hs);
      first_day = lowest_in (days_of k hs) days;
      last_day = highest_in (days_of k hs) days;
    }

-- the codes

pub codes_rise : (hs : List (List Slip)) → Rises (codes_in hs)
unfolding codes_in
codes_rise hs = keep_rises (λ k. ltb 0 (entries_of k hs)) (from 1 most_code) (from_rises 1 most_code)

pub each_code_once : (hs : List (List Slip)) (k : ℕ) → 1 ≤ k → k ≤ most_code → 0 < entries_of k hs → times k (codes_in hs) ≡ 1
unfolding codes_in
each_code_once hs k l m h =
    ap length (keep_keep (eqb k) (λ k. ltb 0 (entries_of k hs)) (from 1 most_code) (λ x e. rw (← (eqb-true k x e)) (lt-ltb 0 (entries_of k hs) h)))
    ∙ times_count k (from 1 most_code) ∙ from_once k 1 most_code l (omega arith)

pub codes_occur : (hs : List (List Slip)) (k : ℕ) → In k (codes_in hs) → (0 < entries_of k hs) × (1 ≤ k) × (k ≤ most_code)
unfolding codes_in
codes_occur hs k h = let r = kept_from (λ k. ltb 0 (entries_of k hs)) most_code k h in (ltb-true 0 (entries_of k hs) r.0, r.1, r.2)

-- the rate

-- entries per thousand cards: the whole part and the remainder of a division by the cards
pub record RateIs (cards entries whole remainder : ℕ) : Type 0 where
  pub parts : 1000 * entries ≡ whole * cards + remainder
  pub below : remainder < cards
  pub line : rate_line cards entries ≡ numbers_line (whole ∷ remainder ∷ [])

pub rate_is : (cards entries : ℕ) → 0 < cards → RateIs cards entries (1000 * entries / cards) (1000 * entries % cards)
unfolding rate_line
rate_is cards entries h =
    let n = 1000 * entries in
    record { parts = sym (div-add-mod' n cards); below = mod-lt n h; line = rw (ne_eqb cards 0 (omega arith)) }

pub no_rate : (entries : ℕ) → rate_line 0 entries ≡ []
unfolding rate_line
no_rate entries = refl
