-- The checker decides soundness (`checked_is_sound`), whatever words it is given. Both answer true exactly where `Sound` holds: the checker
-- by the meaning of its front and of its two parts, `sound` by `sound_means`. In clean scratch no number is marked; the part of the
-- cards marks numbers below C alone, so the part of the faults finds none of its own marked either.
use mathlib.Core.Path.{◌≡◌, sym, ◌∙◌}
use mathlib.Core.Logic.{inr}
use mathlib.Core.Bool.{Bool, true, false}
use mathlib.Core.List.{List}
use Prim.Native.Nat.{ℕ, ◌+◌, ◌≤◌, ◌<◌}
use native.Mathlib.Omega.{arith}
use lib.ListN.{length}
use Rattle.rules.proofs.Tests.{both, all_of}
use Rattle.model.specs.Shape.{Shape, need}
use Rattle.model.specs.Layout.{shape_ok, shape_of, sound}
use Rattle.model.specs.Meaning.{Sound}
use Rattle.model.specs.Calls.{cleaned}
use Rattle.model.proofs.Meaning.{sound_means}
use Rattle.checker.specs.Marks.{mark_at}
use Rattle.reads.specs.Cells.{limit_of}
use Rattle.checker.specs.Checker.{base_of, front_fits, part_of, checked}
use Rattle.checker.proofs.MarkLaws.{length_cleaned, none_marked}
use Rattle.checker.proofs.PartLaws.{part_marks, kept_part}
use Rattle.checker.proofs.PartMeans.{part_is, is_part}
use Rattle.checker.proofs.FrontMeans.{front_is, is_front}
use Rattle.checker.proofs.PartsSound.{parts_sound}
use Rattle.checker.proofs.SoundParts.{sound_cards, sound_faults}

-- two tests that are true of the same words
same_answer : (a b : Bool) → (a ≡ true → b ≡ true) → (b ≡ true → a ≡ true) → a ≡ b
same_answer true b f g = sym (f (λ i. true))
same_answer false true f g = g (λ i. true)
same_answer false false f g = λ i. false

-- the numbers of the faults begin behind those of the cards
faults_behind : (sh : Shape) → base_of sh false + limit_of sh false ≡ base_of sh true
unfolding base_of limit_of
faults_behind sh = omega arith

module _ (w scratch : List ℕ) (long : need (shape_of w) ≤ length scratch) where
  abbrev sh : Shape
  sh = shape_of w

  abbrev clean : List ℕ
  clean = cleaned (need sh) scratch

  -- the marks that the cards leave
  abbrev left : List ℕ
  left = (part_of sh w false clean).bytes

  clean_long : need sh ≤ length clean
  clean_long = omega (arith, length_cleaned (need sh) scratch long)

  module _ (limits : shape_ok sh ≡ true) where
    unmarked : (faults : Bool) (k : ℕ) → base_of sh faults ≤ k → k < base_of sh faults + limit_of sh faults → mark_at clean k ≡ false
    unmarked faults k a b = none_marked (need sh) scratch k (omega (arith, part_marks sh faults limits))

    left_long : need sh ≤ length left
    left_long = omega (arith, kept_part sh w false clean (part_marks sh false limits) clean_long, clean_long)

    left_unmarked : (k : ℕ) → base_of sh true ≤ k → k < base_of sh true + limit_of sh true → mark_at left k ≡ false
    left_unmarked k a b = (kept_part sh w false clean (part_marks sh false limits) clean_long).apart k (inr (omega (arith, faults_behind sh))) ∙ unmarked true k a b

  checked_sound : checked w clean ≡ true → Sound w
  unfolding checked
  checked_sound e =
      let (f, e₁) = both (front_fits w) _ e in
      let (c, h) = both (part_of sh w false clean).ok (part_of sh w true left).ok e₁ in
      let front = front_is w f in
      let limits = front.shape in
      parts_sound sh w front (part_is sh w false clean (part_marks sh false limits) clean_long (unmarked limits false) c)
      (part_is sh w true left (part_marks sh true limits) (left_long limits) (left_unmarked limits) h)

  sound_checked : Sound w → checked w clean ≡ true
  unfolding checked
  sound_checked s =
      let limits = s.shape in
      all_of (is_front w s)
      (all_of (is_part sh w false clean (part_marks sh false limits) clean_long (unmarked limits false) (sound_cards sh w s))
      (is_part sh w true left (part_marks sh true limits) (left_long limits) (left_unmarked limits) (sound_faults sh w s)))

pub checked_is_sound : (w scratch : List ℕ) → need (shape_of w) ≤ length scratch → checked w (cleaned (need (shape_of w)) scratch) ≡ sound w
checked_is_sound w scratch long =
    same_answer (checked w (cleaned (need (shape_of w)) scratch)) (sound w) (λ e. (sound_means w).1 (checked_sound w scratch long e)) (λ e. sound_checked w scratch long ((sound_means w).0 e))
