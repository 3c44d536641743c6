-- What Show and Withdraw leave in a room, as demand 3 speaks of it (`Listed`): two words a fault at its front, and no word behind them touched.
-- The pairs there list the faults of a history (`ByDay`): by rising day, those of one day as filed, each fault as often as it was filed.
-- What is written of a history is so (`written_listed`); faults may be seen with their cells or without (`listed_slips`).
use Prim.Native.Nat.{ℕ, ◌*◌}
use mathlib.Core.Path.{◌≡◌, refl, sym, ap, ◌∙◌}
use mathlib.Core.List.{List, [], ◌∷◌, map}
use native.Mathlib.Omega.{arith}
use lib.ListN.{length, take, drop, length-map}
use lib.Seq.{take_at, drop_at}
use Rattle.model.specs.Lists.{keep, total}
use Rattle.model.specs.Model.{Fault}
use Rattle.model.specs.Calls.{pairs, listing, written}
use Rattle.model.specs.Plain.{Slip, slip, slip_pairs, slip_listing}
use Rattle.model.proofs.Listing.{Rises, on_day, listing_rises, listing_same, listing_stable, listing_length, listing_map}

pub pairs_long : (h : List Fault) → length (pairs h) ≡ 2 * length h
pairs_long [] = refl
pairs_long (f ∷ h) = omega (arith, pairs_long h)

pairs_slips : (h : List Fault) → slip_pairs (map slip h) ≡ pairs h
pairs_slips [] = refl
pairs_slips (f ∷ h) = rw (pairs_slips h)

pub listed_slips : (h : List Fault) → slip_pairs (slip_listing (map slip h)) ≡ pairs (listing h)
listed_slips h = ap slip_pairs (sym (listing_map slip (λ f. f.day) h)) ∙ pairs_slips (listing h)

abbrev day_of : Slip → ℕ
day_of f = f.day

-- pairs that list the faults filed
pub record ByDay (filed : List Slip) (listed : List ℕ) : Type 0 where
  pub slips : List Slip
  pub pairs_are : listed ≡ slip_pairs slips
  -- by rising day
  pub rises : Rises day_of slips
  -- those of one day as filed
  pub stable : (d : ℕ) → keep (on_day day_of d) slips ≡ keep (on_day day_of d) filed
  -- each fault as often as it was filed: whatever the faults weigh, the sum is the same
  pub same : (weight : Slip → ℕ) → total weight slips ≡ total weight filed

-- what is given and left with them: how many there are, two words for each, and the words behind as they were
pub record Listed (filed : List Slip) (room : List ℕ) (faults : ℕ) (left : List ℕ) : Type 0 where
  pub count : faults ≡ length filed
  pub front : ByDay filed (take (2 * length filed) left)
  pub behind : drop (2 * length filed) left ≡ drop (2 * length filed) room

by_day : (filed : List Slip) → ByDay filed (slip_pairs (slip_listing filed))
by_day filed =
    record {
      slips = slip_listing filed;
      pairs_are = refl;
      rises = listing_rises day_of filed;
      stable = λ d. listing_stable day_of d filed;
      same = λ weight. listing_same day_of weight filed;
    }

pub written_listed : (h : List Fault) (room : List ℕ) → Listed (map slip h) room (length h) (written h room)
written_listed h room =
    let long : length (pairs (listing h)) ≡ 2 * length h = omega (arith, pairs_long (listing h), listing_length (λ (f : Fault). f.day) h) in
    let behind = drop (2 * length h) room in
    record {
      count = sym (length-map h slip);
      front = rw (length-map h slip, take_at (pairs (listing h)) behind (2 * length h) long, ← (listed_slips h)) (by_day (map slip h));
      behind = rw (length-map h slip) (drop_at (pairs (listing h)) behind (2 * length h) long);
    }
