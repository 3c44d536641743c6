-- Lengths of files. A range tells a number as the definitions do (`within`); the words of the longest and of the shortest store, as numbers (`most_words_lem`, `least_words_lem`); a length that a file can have is that of whole
-- words, and of no more than there is room for (`sized_is`); and every sound store's file has such a length (`sound_sized`).
use Prim.Native.Nat.{ℕ, ◌-◌, ◌*◌, ◌/◌, ◌%◌, ◌≤◌}
use mathlib.Core.Path.{◌≡◌, refl}
use mathlib.Core.Bool.{Bool, true, false}
use mathlib.Core.List.{List}
use native.Mathlib.Nat.{mod-add-div}
use native.Mathlib.Omega.{arith}
use lib.Dec.{eqb}
use Rattle.std.proofs.Common.{Some}
use Rattle.std.proofs.lemmas.Bool.Decides.{nat_tests}
use Rattle.std.specs.declared.ops.RangeInclusive.{RangeInclusive}
use Rattle.std.specs.Range.{range_inclusive_start, range_inclusive_end, range_inclusive_exhausted, range_inclusive_contains}
use Rattle.std.specs.Ordering.{nat_cmp}
use lib.ListN.{length}
use borrow.Author.Tests.{eqb-true, eq-eqb}
use Rattle.rules.proofs.Tests.{both}
use Rattle.model.specs.Lists.{between}
use Rattle.model.specs.Shape.{entries, card_width}
use Rattle.model.specs.Layout.{cards_at, faults_at, length_for, decode, sound}
use Rattle.model.specs.Calls.{shape_for}
use Rattle.model.proofs.Lists.{between_is}
use Rattle.model.proofs.Shapes.{shaped, few_cards, few_faults}
use Rattle.model.proofs.Sound.{sound_is}
use Rattle.disk.specs.Desk.{least_words, most_words, least_bytes, most_bytes, fault_bytes, sized}

-- a range of the code tells a number as `between` does
pub within : (lo hi n : ℕ) {r : RangeInclusive ℕ} {b : Bool} → b ≡ range_inclusive_contains (λ (x y : ℕ). Some (nat_cmp x y)) r n → range_inclusive_start r ≡ lo
    → range_inclusive_end r ≡ hi → range_inclusive_exhausted r ≡ false → b ≡ between lo hi n
unfolding between
within lo hi n {r} {b} e l h open_ = rw (e, l, h, open_) (grind (arith, nat_tests))

pub most_words_lem : most_words ≡ 15648
unfolding most_words length_for faults_at cards_at card_width entries shape_for
most_words_lem = refl

pub least_words_lem : least_words ≡ 300
unfolding least_words length_for faults_at cards_at card_width entries shape_for
least_words_lem = refl

pub sized_is : (n : ℕ) → sized n ≡ true → (n / 4 ≤ most_words) × (n ≡ 4 * (n / 4))
unfolding sized
sized_is n e =
    let a = both (between least_bytes most_bytes n) (eqb ((n - least_bytes) % fault_bytes) 0) e in
    let l = (between_is least_bytes most_bytes n).0 a.0 in
    let m : (n - least_bytes) % fault_bytes ≡ 0 = eqb-true ((n - least_bytes) % fault_bytes) 0 a.1 in
    (omega (arith, mod-add-div n 4, l), omega (arith, least_words_lem, l, mod-add-div n 4, mod-add-div (n - least_bytes) fault_bytes))

pub sound_sized : (w : List ℕ) → sound w ≡ true → sized (4 * length w) ≡ true
unfolding sized length_for faults_at cards_at card_width entries
sound_sized w e =
    let r = (sound_is w e).0 in
    let sh = (decode w).shape in
    let n = 4 * length w in
    let s = shaped sh r.fair.shape in
    let in_range : (least_bytes ≤ n) × (n ≤ most_bytes) =
    (omega (arith, least_words_lem, r.long, s.some, s.some_faults), omega (arith, most_words_lem, r.long, few_cards sh r.fair.shape, few_faults sh r.fair.shape)) in
    let step : (n - least_bytes) % fault_bytes ≡ 0 = omega (arith, least_words_lem, r.long, s.some, s.some_faults) in
    rw ((between_is least_bytes most_bytes n).1 in_range, eq-eqb ((n - least_bytes) % fault_bytes) 0 step)
