-- What sound stores owe the rows. Every fault of a sound store is valid, so its code has a row (`sound_codes`). No more cards and faults are held
-- than the bounds over all formats say (`cards_few`, `faults_few`), so a run has at most that of each store in it (`run_faults`, `run_cards`).
use mathlib.Core.Path.{◌≡◌, refl}
use mathlib.Core.Bool.{true}
use mathlib.Core.List.{List, [], ◌∷◌, map}
use Prim.Native.Nat.{ℕ, ◌*◌, ◌≤◌}
use native.Mathlib.Omega.{arith}
use lib.ListN.{length, length-append, length-map}
use borrow.Author.Tests.{le-leb}
use Rattle.rules.proofs.Tests.{both, all_of}
use Rattle.model.specs.Lists.{all, join, total}
use Rattle.model.specs.Shape.{faults_ever}
use Rattle.model.specs.Bounds.{cards_ever}
use Rattle.model.specs.Model.{Card, cards, held, faults_held, histories}
use Rattle.model.specs.Layout.{decode, sound}
use Rattle.model.specs.Plain.{Slip, Entry, slip, entry, plain}
use Rattle.model.specs.Report.{histories_in, all_histories}
use Rattle.model.proofs.Lists.{Every}
use Rattle.model.proofs.Sums.{total_append}
use Rattle.model.proofs.Walks.{all_every}
use Rattle.model.proofs.Reports.{ValidSlip, sound_faults, stores_faults}
use Rattle.store.proofs.OrderLaws.{held_few, faults_held_few}
use Rattle.report.specs.Rows.{codes_fit}

-- codes

valid_codes : (fs : List Slip) → Every ValidSlip fs → codes_fit fs ≡ true
unfolding codes_fit
valid_codes [] v = refl
valid_codes (f ∷ fs) v = all_of (le-leb _ _ v.0.most_code) (valid_codes fs v.1)

pub sound_codes : (w : List ℕ) → sound w ≡ true → codes_fit (join (histories_in w)) ≡ true
sound_codes w ok = valid_codes (join (histories_in w)) (sound_faults w ok)

pub run_codes : (ws : List (List ℕ)) → all sound ws ≡ true → codes_fit (join (all_histories ws)) ≡ true
run_codes ws ok = valid_codes (join (all_histories ws)) (stores_faults ws (all_every sound ws ok))

-- the totals of a store, and bounds

pub cards_held : (w : List ℕ) → length (histories_in w) ≡ held (decode w)
cards_held w = omega (arith, length-map (plain (decode w)) (λ (e : Entry). e.slips), length-map (cards (decode w)) entry)

pub faults_filed : (w : List ℕ) → total length (histories_in w) ≡ faults_held (decode w)
faults_filed w = go (cards (decode w))
  where
    go : (cs : List Card) → total length (map (λ (e : Entry). e.slips) (map entry cs)) ≡ length (histories cs)
    go [] = refl
    go (c ∷ cs) = omega (arith, go cs, length-map c.faults slip, length-append c.faults (histories cs))

pub cards_few : (w : List ℕ) → sound w ≡ true → length (histories_in w) ≤ cards_ever
cards_few w ok = omega (arith, cards_held w, held_few w ok)

pub faults_few : (w : List ℕ) → sound w ≡ true → total length (histories_in w) ≤ faults_ever
faults_few w ok = omega (arith, faults_filed w, faults_held_few w ok)

pub run_cards : (ws : List (List ℕ)) → all sound ws ≡ true → length (all_histories ws) ≤ cards_ever * length ws
unfolding all_histories
run_cards [] ok = omega arith
run_cards (w ∷ ws) ok =
    let h = both (sound w) (all sound ws) ok in
    omega (arith, length-append (histories_in w) (all_histories ws), cards_few w h.0, run_cards ws h.1)

pub run_faults : (ws : List (List ℕ)) → all sound ws ≡ true → total length (all_histories ws) ≤ faults_ever * length ws
unfolding all_histories
run_faults [] ok = omega arith
run_faults (w ∷ ws) ok =
    let h = both (sound w) (all sound ws) ok in
    omega (arith, total_append length (histories_in w) (all_histories ws), faults_few w h.0, run_faults ws h.1)
