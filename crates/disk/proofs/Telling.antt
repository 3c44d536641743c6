-- What a file holds, as text. The lines are short (`line_most`, `pair_most`), so that all of them have room (`text_most`, `told_most`); a sound store's words are at
-- least as many as stand before the cells (`sound_long`), and its counts stand in the header (`told_is`); what is told by 0 is told of a file of a store's length (`seen_sized`).
use Prim.Native.Nat.{ℕ, zero, suc, ◌+◌, ◌/◌, ◌%◌, ◌≤◌}
use mathlib.Core.Path.{◌≡◌}
use mathlib.Core.Bool.{true}
use mathlib.Core.List.{List, [], ◌∷◌, ◌++◌}
use native.Mathlib.Omega.{arith}
use lib.Dec.{ltb, eqb}
use lib.ListN.{length, get_or, length-append}
use Rattle.rules.proofs.Tests.{by_cases}
use Rattle.model.specs.Shape.{entries}
use Rattle.model.specs.Model.{size}
use Rattle.model.specs.Layout.{cards_at, faults_at, length_for, shape_of, decode, sound}
use Rattle.model.specs.Text.{digits, decimal}
use Rattle.model.proofs.Sound.{sound_is}
use Rattle.model.proofs.Readings.{held_at_lem, faults_held_at_lem}
use Rattle.disk.specs.Desk.{sized, new_size, number_line}
use Rattle.disk.specs.Check.{Seen, told, cards_word, faults_word, buckets_word, bounds_word, of_word, sound_line, pair_line, sound_text, check_text, check_size, desk_check}

digits_most : (fuel n : ℕ) (acc : List ℕ) → length (digits fuel n acc) ≤ fuel + length acc
unfolding digits
digits_most zero n acc = omega arith
digits_most (suc fuel) n acc =
    by_cases (ltb n 10) (λ e. rw e (omega arith)) (λ e. rw e (omega (arith, digits_most fuel (n / 10) ((48 + n % 10) ∷ acc))))

pub decimal_most : (n : ℕ) → length (decimal n) ≤ 20
unfolding decimal
decimal_most n = digits_most 20 n []

pub line_most : (n : ℕ) → length (number_line n) ≤ new_size
unfolding number_line
line_most n = omega (arith, decimal_most n, length-append (decimal n) (10 ∷ []))

pub pair_most : (word : List ℕ) (a : ℕ) (between : List ℕ) (b : ℕ) → length (pair_line word a between b) ≤ length word + (length between + 41)
unfolding pair_line
pair_most word a between b =
    omega (arith, decimal_most a, line_most b, length-append word (decimal a ++ (between ++ number_line b)), length-append (decimal a) (between ++ number_line b), length-append between (number_line b))

pub text_most : (s : Seen) → length (sound_text s) ≤ check_size
unfolding sound_text
text_most s =
    let cards = pair_line cards_word s.held of_word s.limit in
    let faults = pair_line faults_word s.faults of_word s.fault_limit in
    let buckets = buckets_word ++ number_line s.buckets in
    let bounds = pair_line bounds_word s.upper (32 ∷ []) s.lower in
    omega (
      arith,
      length-append sound_line (cards ++ (faults ++ (buckets ++ bounds))),
      length-append cards (faults ++ (buckets ++ bounds)),
      length-append faults (buckets ++ bounds),
      length-append buckets bounds,
      length-append buckets_word (number_line s.buckets),
      pair_most cards_word s.held of_word s.limit,
      pair_most faults_word s.faults of_word s.fault_limit,
      line_most s.buckets,
      pair_most bounds_word s.upper (32 ∷ []) s.lower,
    )

pub told_most : (s : Seen) → length (check_text s) ≤ check_size
unfolding check_text
told_most s = by_cases (eqb s.number 0) (λ e. rw e (text_most s)) (λ e. rw e (omega arith))

pub sound_long : (w : List ℕ) → sound w ≡ true → 288 ≤ length w
unfolding length_for faults_at cards_at entries
sound_long w e = omega (arith, (sound_is w e).0.long)

pub told_is : (w : List ℕ) {c f u l h g b : ℕ} → sound w ≡ true → c ≡ (shape_of w).limit → f ≡ (shape_of w).fault_limit → u ≡ (shape_of w).upper → l ≡ (shape_of w).lower
    → h ≡ get_or w 5 0 → g ≡ get_or w 6 0 → b ≡ size (decode w)
    → record { number = 0; limit = c; fault_limit = f; upper = u; lower = l; held = h; faults = g; buckets = b } ≡ told w
told_is w e ec ef eu el eh eg eb =
    let r = (sound_is w e).0 in
    rw (ec, ef, eu, el, eh, eg, eb, held_at_lem w (decode w) r, faults_held_at_lem w (decode w) r)

-- what is told of a file by 0 is told of one of a length that a store can have
pub seen_sized : (file : List ℕ) → (desk_check file).number ≡ 0 → sized (length file) ≡ true
unfolding desk_check
seen_sized file e = by_cases (sized (length file)) (λ s. s) (λ s. absurd (omega (arith, rw s at e)))
